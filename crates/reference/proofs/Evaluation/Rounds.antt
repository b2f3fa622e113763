-- The rounds of a fixed point: from below the set grows inside the least, from above it shrinks around the greatest, and it is reached when a round
-- changes nothing. Fixed points inside it that may have been passed start anew.
use Prim.Native.Nat.{ℕ, suc, ◌-◌, ◌^◌, ◌<◌, ◌≤◌}
use mathlib.Core.Path.{◌≡◌, refl, sym, ap, subst, ◌∙◌}
use mathlib.Core.List.{List}
use mathlib.Core.Logic.{◌↔◌, ◌⊎◌, inl, inr}
use native.Mathlib.Omega.{arith}
use native.Mathlib.Decide.{ℕ_discrete}
use lib.ListN.{get_or, set, length, length-set}
use lib.Seq.{get_or-set_same, get_or-set_other}
use lib.Pow.{pow_mono}
use lib.Bits.{bit_and, bit_or, or_add_and, and_le_l, and_le_r}
use Rattle.sheet.specs.Contents.{plan_body, rule_body}
use Rattle.sheet.specs.Rule.{node_count, node_kind, node_x, binders_before}
use Rattle.sheet.specs.declared.Fields.{Fields}
use Rattle.sheet.proofs.Nodes.Children.{BinderChild, binder_child}
use Rattle.sheet.proofs.Nodes.Binders.{binders_next, binders_rise}
use Rattle.sheet.specs.TransitionSystem.{TransitionsInRange, plan_of}
use Rattle.calculus.proofs.Table1.Verdicts.{sheet_in_range}
use Rattle.reference.specs.Internal.Evaluating.{Members, SixSets, Restartable, Restarted, NodeMeaning, Ready, Evaluated}
use Rattle.reference.proofs.Words.Members.{members_as}
use Rattle.reference.proofs.Evaluation.Contexts.{bound_number, bound_next, bound_one, bound_six, restartable, meaning_same, ready_later, ready_join}
use Rattle.reference.proofs.Evaluation.Clauses.{At, Call, states_of, kind_is, x_is, y_is, rule_kept, call}

-- a round from below gives a larger word until nothing is new, a round from above a smaller one
or_grows : (v w : ℕ) → (bit_or v w ≡ v → ⊥) → v < bit_or v w
or_grows v w h = omega (arith, or_add_and v w, and_le_r v w, h)

pub and_falls : (v w : ℕ) → (bit_and v w ≡ v → ⊥) → bit_and v w < v
and_falls v w h = omega (arith, and_le_l v w, h)

-- so that fewer words are left
pub or_left : (S v w : ℕ) → S ≤ 64 → v < 2 ^ S → (bit_or v w ≡ v → ⊥) → 2 ^ 64 - bit_or v w < 2 ^ 64 - v
or_left S v w few l h = omega (arith, or_grows v w h, pow_mono {i = S} {j = 64} few)

-- A context in the rounds of the fixed point at node n, of variable x, that began with words₀: the variables bound before n are as they were.
pub record Going (s : List ℕ) (n x : ℕ) (words₀ words : List ℕ) : Type 0 where
  pub same : (k : ℕ) → k < x → get_or words k 0 ≡ get_or words₀ k 0
  pub sets : SixSets (states_of s) words
  pub ready : Ready s n words

module _ {s masks : List ℕ} {n : ℕ} {words₀ : List ℕ} {f : Fields} (at : At s masks n words₀ f) where
  pub variable_six : f.kind ≡ 6 → f.x < 6
  variable_six h =
      let b = (rule_kept at).bound n at.pre.among (sym (kind_is at) ∙ h) in
      omega (
        arith,
        x_is at,
        b.binds.numbered,
        binders_next (rule_body s) b.at b.binds.is_binder_holds,
        binders_rise (rule_body s) (suc b.at) (node_count (rule_body s)) b.binds.among,
        (rule_kept at).few_binders,
      )

  module _ (h : 7 ≤ f.kind) (g : f.kind < 9) where
    body : BinderChild (rule_body s) n
    body = binder_child (rule_kept at) n at.pre.among (omega (arith, kind_is at)) (omega (arith, kind_is at))

    pub next_is : f.y ≡ suc n
    next_is = y_is at ∙ body.y_is

    number_is : f.x ≡ binders_before (rule_body s) n
    number_is = x_is at ∙ bound_number at.judging.kept n at.pre.among (omega (arith, kind_is at)) (omega (arith, kind_is at))

    number_next : binders_before (rule_body s) f.y ≡ suc f.x
    number_next =
        ap (binders_before (rule_body s)) next_is ∙
        (bound_next at.judging.kept n at.pre.among (omega (arith, kind_is at)) (omega (arith, kind_is at)) ∙ ap suc (sym (x_is at)))

    pub binder_six : f.x < 6
    binder_six = omega (arith, x_is at, bound_six at.judging.kept n at.pre.among (omega (arith, kind_is at)) (omega (arith, kind_is at)))

    pub restart_asked : (r : List ℕ) → r ≡ rule_body s → (kind : ℕ) → 7 ≤ kind → kind < 9 → Restartable r f.y kind
    restart_asked r rule kind low high = restartable at.judging.kept rule f.y kind (omega (arith, next_is, body.below)) low high

    -- the rounds as the loop knows them, by the number of the child
    pub going_start : Going s (f.y - 1) f.x words₀ words₀
    going_start = record { same = λ k l. refl; sets = at.pre.sets; ready = ready_later at.judging.kept (omega (arith, next_is)) at.pre.ready }

    going : {words : List ℕ} → Going s (f.y - 1) f.x words₀ words → Going s n f.x words₀ words
    going {words} i = let q : f.y - 1 ≡ n = omega (arith, next_is) in subst (λ (j : ℕ). Going s j f.x words₀ words) q i

    back : {words : List ℕ} → Going s n f.x words₀ words → Going s (f.y - 1) f.x words₀ words
    back {words} i = let q : n ≡ f.y - 1 = omega (arith, next_is) in subst (λ (j : ℕ). Going s j f.x words₀ words) q i

    pub wf : TransitionsInRange (plan_of (plan_body s))
    wf = sheet_in_range at.judging.kept

    module _ (words : List ℕ) (i' : Going s (f.y - 1) f.x words₀ words) where
      pub i : Going s n f.x words₀ words
      i = going i'

      pub call_binder : Call s n f.y words
      call_binder =
          call at f.y words (omega (arith, next_is)) (omega (arith, next_is, body.below)) i.sets
          (ready_later at.judging.kept (omega (arith, next_is)) i.ready)

      module _ (words₁ : List ℕ) (w : ℕ) (m : Evaluated s f.y words words₁ w) where
        -- the child leaves the variables bound before it as they are, the node's own among them
        pub kept : (k : ℕ) → k < suc f.x → get_or words₁ k 0 ≡ get_or words k 0
        kept k l = m.same k (omega (arith, number_next))

        -- what the rounds come back with
        pub came : {u : ℕ} → Members (states_of s) u (NodeMeaning s n words) → Evaluated s n words₀ words₁ u
        came a = record {
          are = members_as a (meaning_same at.judging.kept n at.pre.among words words₀ (λ k l. i.same k (omega (arith, number_is))));
          same = λ k l. kept k (omega (arith, number_is)) ∙ i.same k (omega (arith, number_is));
          sets = m.sets;
          ready = ready_join at.judging.kept i.ready m.ready m.same;
        }

        -- Another round: the set u for the node's variable, and o for those of the kind after it.
        module _ (u o kind : ℕ) (words₂ : List ℕ) (put : words₂ ≡ set words₁ f.x u) (r : List ℕ) (rule : r ≡ rule_body s) (words₃ : List ℕ)
            (re' : Restarted r f.y (node_count r) kind o words₂ words₃) (low : 7 ≤ kind) (high : kind < 9) where
          re : Restarted (rule_body s) f.y (node_count (rule_body s)) kind o words₂ words₃
          re = subst (λ (x : List ℕ). Restarted x f.y (node_count x) kind o words₂ words₃) rule re'

          -- a fixed point after the node has a later variable
          later : (b : ℕ) → f.y ≤ b → b < node_count (rule_body s) → 7 ≤ node_kind (rule_body s) b → node_kind (rule_body s) b < 9 → f.x < node_x (rule_body s) b
          later b after l h' g' = omega (arith, number_next, bound_number at.judging.kept b l h' g', binders_rise (rule_body s) f.y b after)

          kept_to : (k : ℕ) → k < suc f.x → get_or words₃ k 0 ≡ get_or words₂ k 0
          kept_to k l = re.same k (λ b a c q e. omega (arith, later b a c (omega arith) (omega arith)))

          pub own : get_or words₃ f.x 0 ≡ u
          own =
              kept_to f.x (omega arith) ∙
              (ap (λ (l : List ℕ). get_or l f.x 0) put ∙ get_or-set_same words₁ f.x u 0 (omega (arith, m.sets.six, binder_six)))

          other : (k : ℕ) → (k ≡ f.x → ⊥) → get_or words₂ k 0 ≡ get_or words₁ k 0
          other k h = ap (λ (l : List ℕ). get_or l k 0) put ∙ get_or-set_other words₁ f.x k u 0 h

          size : length words₂ ≡ 6
          size = ap length put ∙ simp length-set m.sets.six

          pub each : (k : ℕ) → ((k ≡ f.x) × (get_or words₃ k 0 ≡ u)) ⊎ ((get_or words₃ k 0 ≡ o) ⊎ (get_or words₃ k 0 ≡ get_or words₁ k 0))
          each k = go (ℕ_discrete k f.x) (re.each k)
            where
              go : Dec (k ≡ f.x) → (get_or words₃ k 0 ≡ o) ⊎ (get_or words₃ k 0 ≡ get_or words₂ k 0) → ((k ≡ f.x) × (get_or words₃ k 0 ≡ u)) ⊎ ((get_or words₃ k 0 ≡ o) ⊎ (get_or words₃ k 0 ≡ get_or words₁ k 0))
              go (yes q) c = inl (q, ap (λ (j : ℕ). get_or words₃ j 0) q ∙ own)
              go (no q) (inl c) = inr (inl c)
              go (no q) (inr c) = inr (inr (c ∙ other k q))

          -- a fixed point after the node, of another kind or of this one
          module _ (b : ℕ) (after : n < b) (l : b < node_count (rule_body s)) (h' : 7 ≤ node_kind (rule_body s) b) (g' : node_kind (rule_body s) b < 9) where
            pub stays : (node_kind (rule_body s) b ≡ kind → ⊥) → get_or words₃ (node_x (rule_body s) b) 0 ≡ get_or words₁ (node_x (rule_body s) b) 0
            stays d =
                re.same (node_x (rule_body s) b) (λ c a k q e.
                d (ap (node_kind (rule_body s)) (bound_one at.judging.kept b c l k h' g' (omega arith) (omega arith) (sym e)) ∙ q))
                ∙ other (node_x (rule_body s) b) (λ q. omega (arith, later b (omega (arith, next_is)) l h' g'))

            pub starts : node_kind (rule_body s) b ≡ kind → get_or words₃ (node_x (rule_body s) b) 0 ≡ o
            starts q = re.anew b (omega (arith, next_is)) l q (omega (arith, size, bound_six at.judging.kept b l h' g'))

          -- the variables bound before the node
          before : (k : ℕ) → k < f.x → get_or words₃ k 0 ≡ get_or words k 0
          before k l = kept_to k (omega arith) ∙ (other k (λ q. omega arith) ∙ kept k (omega arith))

          pub here : (t : ℕ) → t < states_of s → NodeMeaning s n words t ↔ NodeMeaning s n words₃ t
          here = meaning_same at.judging.kept n at.pre.among words words₃ (λ k l. sym (before k (omega (arith, number_is))))

          pub again : u < 2 ^ states_of s → o < 2 ^ states_of s → Ready s n words₃ → Going s (f.y - 1) f.x words₀ words₃
          again lu lo q = back (record {
            same = λ k l. before k l ∙ i.same k l;
            sets = record { six = re.sized ∙ size; below = λ k. go k (each k) };
            ready = q;
          })
            where
              go : (k : ℕ) → ((k ≡ f.x) × (get_or words₃ k 0 ≡ u)) ⊎ ((get_or words₃ k 0 ≡ o) ⊎ (get_or words₃ k 0 ≡ get_or words₁ k 0)) → get_or words₃ k 0 < 2 ^ states_of s
              go k (inl q) = omega (arith, q.1)
              go k (inr (inl q)) = omega arith
              go k (inr (inr q)) = omega (arith, m.sets.below k)
