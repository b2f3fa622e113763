-- Fixed points that start anew: the loop over their nodes.
use Prim.Native.Nat.{ℕ, ◌+◌, ◌<◌, ◌≤◌}
use mathlib.Core.Path.{◌≡◌, refl, sym, ap, subst, ◌∙◌}
use mathlib.Core.List.{List}
use mathlib.Core.Logic.{◌⊎◌, inl, inr}
use native.Mathlib.Omega.{arith}
use native.Mathlib.Decide.{ℕ_discrete, dec_lt}
use lib.ListN.{get_or, set, length, length-set}
use lib.Seq.{get_or-set_same, get_or-set_other, set_out}
use Rattle.sheet.specs.Rule.{node_count, node_kind, node_x}
use Rattle.sheet.specs.Fields.{fields_at}
use Rattle.sheet.specs.declared.Fields.{Fields}
use Rattle.reference.specs.Internal.Evaluating.{Restarted}

module _ (r : List ℕ) (first kind v : ℕ) (words : List ℕ) where
  pub restart_none : Restarted r first first kind v words words
  restart_none = record { sized = refl; anew = λ b h l q g. absurd (omega arith); same = λ k h. refl; each = λ k. inr refl }

  pub restart_whole : (end : ℕ) (words' : List ℕ) → end ≡ node_count r → Restarted r first end kind v words words' → Restarted r first (node_count r) kind v words words'
  restart_whole end words' q h = subst (λ (e : ℕ). Restarted r first e kind v words words') q h

  module _ (n : ℕ) (words' : List ℕ) (h : Restarted r first n kind v words words') (f : Fields) (is : f ≡ fields_at r n) where
    kind_is : f.kind ≡ node_kind r n
    kind_is = ap (λ (g : Fields). g.kind) is

    x_is : f.x ≡ node_x r n
    x_is = ap (λ (g : Fields). g.x) is

    pub restart_more : first ≤ n → f.kind ≡ kind → (words'' : List ℕ) → words'' ≡ set words' f.x v → Restarted r first (n + 1) kind v words words''
    restart_more after e words'' q =
        subst (Restarted r first (n + 1) kind v words) (sym q)
        (record {
          sized = simp length-set h.sized;
          anew = λ b a l d g. go b a d g (dec_lt b n) l;
          same = λ k o. get_or-set_other words' f.x k v 0 (λ d. o n after (omega arith) (sym kind_is ∙ e) (sym x_is ∙ sym d)) ∙ h.same k (λ b a l. o b a (omega arith));
          each = λ k. either k (dec_lt k (length words)) (ℕ_discrete k f.x);
        })
      where
        here : (k : ℕ) → k < length words → k ≡ f.x → get_or (set words' f.x v) k 0 ≡ v
        here k g d = ap (λ (i : ℕ). get_or (set words' f.x v) i 0) d ∙ get_or-set_same words' f.x v 0 (omega (arith, h.sized))

        same_or : (k : ℕ) → get_or (set words' f.x v) k 0 ≡ get_or words' k 0 → (get_or (set words' f.x v) k 0 ≡ v) ⊎ (get_or (set words' f.x v) k 0 ≡ get_or words k 0)
        same_or k d = subst (λ (z : ℕ). (z ≡ v) ⊎ (z ≡ get_or words k 0)) (sym d) (h.each k)

        either : (k : ℕ) → Dec (k < length words) → Dec (k ≡ f.x) → (get_or (set words' f.x v) k 0 ≡ v) ⊎ (get_or (set words' f.x v) k 0 ≡ get_or words k 0)
        either k g (no d) = same_or k (get_or-set_other words' f.x k v 0 d)
        either k (yes g) (yes d) = inl (here k g d)
        either k (no g) (yes d) = same_or k (ap (λ (l : List ℕ). get_or l k 0) (set_out words' f.x v (omega (arith, h.sized))))

        value : (k : ℕ) → k < length words → Dec (k ≡ f.x) → get_or words' k 0 ≡ v → get_or (set words' f.x v) k 0 ≡ v
        value k g (yes d) o = here k g d
        value k g (no d) o = get_or-set_other words' f.x k v 0 d ∙ o

        go : (b : ℕ) → first ≤ b → node_kind r b ≡ kind → node_x r b < length words → Dec (b < n) → b < n + 1 → get_or (set words' f.x v) (node_x r b) 0 ≡ v
        go b a d g (yes l) m = value (node_x r b) g (ℕ_discrete (node_x r b) f.x) (h.anew b a l d g)
        go b a d g (no l) m = let i : b ≡ n = omega arith in here (node_x r b) g (ap (node_x r) i ∙ sym x_is)

    pub restart_still : (f.kind ≡ kind → ⊥) → Restarted r first (n + 1) kind v words words'
    restart_still e = record {
      sized = h.sized;
      anew = λ b a l d g. go b a d g (dec_lt b n) l;
      same = λ k o. h.same k (λ b a l. o b a (omega arith));
      each = h.each;
    }
      where
        go : (b : ℕ) → first ≤ b → node_kind r b ≡ kind → node_x r b < length words → Dec (b < n) → b < n + 1 → get_or words' (node_x r b) 0 ≡ v
        go b a d g (yes l) m = h.anew b a l d g
        go b a d g (no l) m = let i : b ≡ n = omega arith in absurd (e (kind_is ∙ (ap (node_kind r) (sym i) ∙ d)))
