-- A plan passes its checks exactly when it keeps the rules of document 01's "Kind 1, plan".
use Prim.Native.Nat.{ℕ, zero, suc, ◌+◌, ◌*◌, ◌<◌}
use mathlib.Core.Path.{◌≡◌, refl, ◌∙◌}
use mathlib.Core.Bool.{true, false, ◌&&◌, ◌||◌}
use mathlib.Core.List.{List}
use mathlib.Core.Logic.{◌↔◌, ◌⊎◌, inl, inr}
use native.Mathlib.Omega.{arith}
use lib.ListN.{length}
use lib.Dec.{eqb, ltb}
use borrow.Author.Tests.{lt-ltb, eq-eqb, ltb-true, eqb-true, not-false}
use Rattle.sheet.specs.Plan.{state_count, action_count, transition_count, origin, label, target, plan_sized, before, rises, in_range, transition_faulty, lowest_transition}
use Rattle.sheet.specs.Refusals.{require}
use Rattle.sheet.specs.Reading.{plan_check}
use Rattle.sheet.specs.WellFormed.{Before, WellFormedPlan}
use Rattle.sheet.specs.declared.Refusal.TheVariants.{PlanSize, TransitionFault}
use Rattle.std.specs.Prelude.{Ok}
use Rattle.sheet.specs.Refusals.{Check}
use Rattle.sheet.proofs.Steps.Sizes.{plan_limits, plan_exact}
use Rattle.sheet.proofs.Checks.Checks.{and_parts, and_parts₃, either, right, passed_then, then_passed, passed_require, require_passed, none_found}

pub before_iff : (f a t f' a' t' : ℕ) → (before f a t f' a' t' ≡ true) ↔ Before f a t f' a' t'
before_iff f a t f' a' t' = (to, from)
  where
    to : before f a t f' a' t' ≡ true → Before f a t f' a' t'
    to q =
        elim (either (ltb f f') (eqb f f' && (ltb a a' || (eqb a a' && ltb t t'))) q) [
          | inl l ↦ inl (ltb-true f f' l)
          | inr m ↦
              let b = and_parts (eqb f f') (ltb a a' || (eqb a a' && ltb t t')) m in
              inr (
                eqb-true f f' b.0,
                elim (either (ltb a a') (eqb a a' && ltb t t') b.1) [
                  | inl l ↦ inl (ltb-true a a' l)
                  | inr n ↦ let c = and_parts (eqb a a') (ltb t t') n in inr (eqb-true a a' c.0, ltb-true t t' c.1)
                ],
              )
        ]

    from : Before f a t f' a' t' → before f a t f' a' t' ≡ true
    from (inl l) = rw (lt-ltb f f' l)
    from (inr m) = right (ltb f f') (eqb f f' && (ltb a a' || (eqb a a' && ltb t t'))) (rw (eq-eqb f f' m.0) (later m.1))
      where
        later : (a < a') ⊎ ((a ≡ a') × (t < t')) → (ltb a a' || (eqb a a' && ltb t t')) ≡ true
        later (inl l) = rw (lt-ltb a a' l)
        later (inr n) = right (ltb a a') (eqb a a' && ltb t t') (rw (eq-eqb a a' n.0) (lt-ltb t t' n.1))

module _ (p : List ℕ) where
  -- what a transition that is not faulty keeps
  ranges : (i : ℕ) → transition_faulty p i ≡ false → (origin p i < state_count p) × (label p i < action_count p) × (target p i < state_count p) × (rises p i ≡ true)
  unfolding transition_faulty
  ranges i q =
      let b = and_parts (in_range p i) (rises p i) (not-false (in_range p i && rises p i) q) in
      let c = and_parts₃ (ltb (origin p i) (state_count p)) (ltb (label p i) (action_count p)) (ltb (target p i) (state_count p)) b.0 in
      (omega (arith, ltb-true), omega (arith, ltb-true), omega (arith, ltb-true), b.1)

  fine : (i : ℕ) → origin p i < state_count p → label p i < action_count p → target p i < state_count p → rises p i ≡ true → transition_faulty p i ≡ false
  unfolding transition_faulty
  fine i h k l m = simp (lt-ltb (origin p i) (state_count p) h, lt-ltb (label p i) (action_count p) k, lt-ltb (target p i) (state_count p) l, m)

  abbrev sizes : Check
  sizes = require (plan_sized p) PlanSize

  abbrev transitions : Check
  transitions = require (eqb (lowest_transition p) (transition_count p)) (TransitionFault (lowest_transition p))

  kept : plan_check p ≡ Ok tt → WellFormedPlan p
  unfolding plan_check
  kept q =
      let c = passed_then sizes transitions q in
      let s = plan_limits p (passed_require (plan_sized p) PlanSize c.0) in
      let t : (i : ℕ) → i < transition_count p → transition_faulty p i ≡ false =
      (none_found (transition_faulty p) (transition_count p)).0 (passed_require (eqb (lowest_transition p) (transition_count p)) (TransitionFault (lowest_transition p)) c.1) in
      record {
        headed = s.0;
        some_states = s.1;
        few_states = s.2;
        few_transitions = s.3;
        exact = s.4;
        origin_below = λ i h. (ranges i (t i h)).0;
        label_below = λ i h. (ranges i (t i h)).1;
        target_below = λ i h. (ranges i (t i h)).2;
        rising = λ i h. (before_iff (origin p i) (label p i) (target p i) (origin p (suc i)) (label p (suc i)) (target p (suc i))).0 (ranges (suc i) (t (suc i) h)).3;
      }

  module _ (k : WellFormedPlan p) where
    rising : (i : ℕ) → i < transition_count p → rises p i ≡ true
    rising zero h = refl
    rising (suc i) h = (before_iff (origin p i) (label p i) (target p i) (origin p (suc i)) (label p (suc i)) (target p (suc i))).1 (k.rising i h)

    passes : plan_check p ≡ Ok tt
    unfolding plan_check
    passes =
        then_passed sizes transitions
        (require_passed (plan_sized p) PlanSize (plan_exact p k.headed k.some_states k.few_states k.few_transitions ∙ eq-eqb (length p) (4 + 3 * transition_count p) k.exact))
        (require_passed (eqb (lowest_transition p) (transition_count p)) (TransitionFault (lowest_transition p))
        ((none_found (transition_faulty p) (transition_count p)).1 (λ i h. fine i (k.origin_below i h) (k.label_below i h) (k.target_below i h) (rising i h))))

  pub plan_iff : (plan_check p ≡ Ok tt) ↔ WellFormedPlan p
  plan_iff = (kept, passes)
