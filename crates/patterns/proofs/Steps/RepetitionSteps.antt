-- The courses of putting a repetition: a fixed point of a pair of what follows and of its part before the variable.
use Prim.Native.Nat.{ℕ, suc, ◌+◌, ◌<◌, ◌≤◌}
use mathlib.Core.Path.{◌≡◌, refl, ◌∙◌, ap, subst}
use mathlib.Core.List.{List}
use mathlib.Core.Logic.{◌⊎◌, ⊎_elim}
use native.Mathlib.Omega.{arith}
use lib.ListN.{length, set, length-set}
use lib.Seq.{get_or-set_same, get_or-set_other}
use Rattle.sheet.specs.Bytes.{byte}
use Rattle.calculus.specs.Trees.{Tree, tree_size, binders, tree_of}
use Rattle.calculus.proofs.Trees.Stands.{size_some}
use Rattle.patterns.specs.Patterns.{Pattern}
use Rattle.patterns.specs.Translation.{before}
use Rattle.patterns.specs.Internal.Nodes.{pair_fields, binder_fields, with_node, Followed, Exceeds, Progressed}
use Rattle.patterns.specs.Internal.Putting.{every_of, Follows, PartRequires, PartPut, AfterRequires, AfterPut}
use Rattle.patterns.specs.Internal.Nodes.{Progress, Made, Exceeded}
use Rattle.patterns.proofs.Steps.Parts.{part_some, by_repetition}
use Rattle.patterns.proofs.Steps.SecondSteps.{one_inside}
use Rattle.patterns.proofs.Steps.Patching.{with_node_length}
use Rattle.patterns.proofs.Steps.Growing.{exceeds_first, grow_pair, grow_binder}
use Rattle.patterns.proofs.Steps.Follow.{follows_set}
use Rattle.patterns.proofs.Steps.PartSteps.{part_place, making_on}
use Rattle.patterns.proofs.Steps.ChoiceSteps.{told_followed}

module _ {r p seconds slots : List ℕ} {at after n b : ℕ} {out : List ℕ} (h : PartRequires r p seconds slots at after n b out) (o : byte p at ≡ 3) where
  -- its nodes or its binder have no room
  pub put_over : (64 ≤ n + 1) ⊎ (6 ≤ b) → PartPut r p seconds slots slots at after n b out out Exceeded
  unfolding before tree_size binders
  put_over l = record {
    made = λ R end k q f. by_repetition (λ R. Progressed (before (every_of p) R k b) n b out out Exceeded) o
        (λ Q u. Progressed.exceeded (⊎_elim (λ v. Exceeds.nodes (omega (arith, size_some (k (suc b))))) (λ v. Exceeds.bound (omega arith)) l)) q;
    same = λ i u. refl;
    sized = refl;
  }

  -- the part before the variable, behind the binder and what follows, which is k (suc b)
  abbrev again : Pattern → (ℕ → Tree) → Tree
  again R k = before (every_of p) R (λ m. Tree.variable b) (suc b + binders (k (suc b)))

  -- the binder is put and its variable noted, and what follows comes next
  module _ (l : n + 1 < 64) (u : b < 6) {out₁ : List ℕ} (w : out₁ ≡ with_node out n (binder_fields (every_of p) n b)) where
    sized_out : length out₁ ≡ length out
    sized_out = ap length w ∙ with_node_length out n (binder_fields (every_of p) n b)

    still_follows : {end : ℕ} {k : ℕ → Tree} → Follows p seconds slots (every_of p) (tree_of r) end after k
        → Follows p seconds (set slots at b) (every_of p) (tree_of r) end after k
    still_follows f = follows_set at b h.belongs f

    pub call_follow : AfterRequires r p seconds (set slots at b) after (n + 1 + 1) (b + 1) out₁
    call_follow = record {
      making = making_on h.making (n + 1 + 1) (b + 1) sized_out (omega arith) (omega arith);
      short = h.short;
      room = length-set slots at b ∙ h.room;
      floor = h.end;
      next = h.next;
      follows = still_follows h.follows;
    }

    -- the tree of a repetition, of the pair in it
    over : (R : Pattern) (k : ℕ → Tree) {out' : List ℕ} {x : Progress}
        → Progressed (Tree.pair (every_of p) (k (suc b)) (again R k)) (n + 1) (b + 1) out₁ out' x
        → Progressed (before (every_of p) (Pattern.repetition R) k b) n b out out' x
    unfolding before
    over R k {out'} {x} d =
        grow_binder out h.making.room n b (omega arith) (every_of p)
        (subst (λ (v : List ℕ). Progressed (Tree.pair (every_of p) (k (suc b)) (again R k)) (n + 1) (b + 1) v out' x) w d)

    module _ {slots₁ out₂ : List ℕ} {x₁ : Progress}
        (g : AfterPut r p seconds (set slots at b) slots₁ after (n + 1 + 1) (b + 1) out₁ out₂ x₁) where
      -- what follows, with the binder before it
      follow_is : {end : ℕ} {k : ℕ → Tree} → Follows p seconds slots (every_of p) (tree_of r) end after k
          → Progressed (k (suc b)) (n + 1 + 1) (b + 1) out₁ out₂ x₁
      follow_is {end} {k} f = let i : b + 1 ≡ suc b = omega arith in
          subst (λ (v : ℕ). Progressed (k v) (n + 1 + 1) (b + 1) out₁ out₂ x₁) i (g.made end k (still_follows f))

      same_noted : (i : ℕ) → i ≤ at → byte slots₁ i ≡ byte (set slots at b) i
      same_noted i v = g.same h.end h.next (still_follows h.follows) i (omega (arith, part_some h.part))

      same_slots : (i : ℕ) → i < at → byte slots₁ i ≡ byte slots i
      same_slots i v = same_noted i (omega arith) ∙ get_or-set_other slots at i b 0 (λ q. absurd (omega arith))

      sized_slots : length slots₁ ≡ length slots
      sized_slots = g.sized ∙ length-set slots at b

      pub put_follow_exceeded : x₁ ≡ Exceeded → PartPut r p seconds slots slots₁ at after n b out out₂ Exceeded
      put_follow_exceeded e = record {
        made = λ R end k q f. by_repetition (λ R. Progressed (before (every_of p) R k b) n b out out₂ Exceeded) o
            (λ Q u. over Q k (under (again Q k) (subst (Progressed (k (suc b)) (n + 1 + 1) (b + 1) out₁ out₂) e (follow_is f)))) q;
        same = same_slots;
        sized = sized_slots;
      }
        where
          under : {t : Tree} (t' : Tree) → Progressed t (n + 1 + 1) (b + 1) out₁ out₂ Exceeded
              → Progressed (Tree.pair (every_of p) t t') (n + 1) (b + 1) out₁ out₂ Exceeded
          under t' (Progressed.exceeded d) = Progressed.exceeded (exceeds_first (n + 1) (b + 1) (every_of p) t' d)

      -- it fits: the pair is put over it, and the part comes next, before the variable
      module _ {n₁ b₁ : ℕ} (e : x₁ ≡ Made n₁ b₁) {out₃ : List ℕ}
          (v : out₃ ≡ with_node out₂ (n + 1) (pair_fields (every_of p) (n + 1) n₁)) where
        follow_made : Followed (h.next (suc b)) (n + 1 + 1) (b + 1) out₁ out₂ n₁ b₁
        follow_made = told_followed (follow_is h.follows) e

        pub repeat_bounds : (n < n₁) × (n₁ ≤ 64)
        repeat_bounds = (omega (arith, follow_made.nodes_are), follow_made.few_nodes)

        variable_follows : (floor : ℕ) → Follows p seconds slots₁ (every_of p) (tree_of r) floor at (λ m. Tree.variable b)
        variable_follows floor =
            Follows.variable (part_place h).0 (omega (arith, part_place h)) o
            (same_noted at (omega arith) ∙ get_or-set_same slots at b 0 (omega (arith, h.room, part_place h)))

        pub call_repeat : PartRequires r p seconds slots₁ (at + 1) at n₁ b₁ out₃
        call_repeat = let q = one_inside h.part o in record {
          making = making_on h.making n₁ b₁
              (ap length v ∙ with_node_length out₂ (n + 1) (pair_fields (every_of p) (n + 1) n₁) ∙ follow_made.sized ∙ sized_out)
              follow_made.few_nodes follow_made.few_binders;
          short = h.short;
          room = sized_slots ∙ h.room;
          pattern = q.0;
          end = h.end;
          part = q.1;
          next = λ m. Tree.variable b;
          follows = variable_follows h.end;
          belongs = omega arith;
        }

        pub put_repetition : {slots₂ out₄ : List ℕ} {x₂ : Progress} → PartPut r p seconds slots₁ slots₂ (at + 1) at n₁ b₁ out₃ out₄ x₂
            → PartPut r p seconds slots slots₂ at after n b out out₄ x₂
        put_repetition {slots₂} {out₄} {x₂} d = record {
          made = λ R end k q f. by_repetition (λ R. Progressed (before (every_of p) R k b) n b out out₄ x₂) o
              (λ Q u.
              let first = told_followed (follow_is f) e in
              let i : b₁ ≡ suc b + binders (k (suc b)) = omega (arith, first.binders_are) in
              over Q k
              (grow_pair out₁ (sized_out ∙ h.making.room) (n + 1) (b + 1) (every_of p) first
              (subst (λ (c : List ℕ). Progressed (again Q k) n₁ b₁ c out₄ x₂)
              v
              (subst (λ (c : ℕ). Progressed (before (every_of p) Q (λ m. Tree.variable b) c) n₁ b₁ out₃ out₄ x₂) i
              (d.made Q end (λ m. Tree.variable b) u (variable_follows end))))))
              q;
          same = λ i j. d.same i (omega arith) ∙ same_slots i j;
          sized = d.sized ∙ sized_slots;
        }
