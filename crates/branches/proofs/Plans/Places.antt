-- The place of a branch among the transitions of a well-formed plan.
use Prim.Native.Nat.{ℕ, zero, suc, ◌<◌, ◌≤◌}
use mathlib.Core.Path.{◌≡◌, subst}
use mathlib.Core.Bool.{Bool, true, false, not}
use mathlib.Core.List.{List}
use native.Mathlib.Omega.{arith}
use native.Mathlib.Decide.{dec_lt}
use borrow.Author.Tests.{not-true, not-false}
use Rattle.sheet.specs.Plan.{transition_count}
use Rattle.sheet.specs.TransitionSystem.{LabelledTransition, transition_of, precedes}
use Rattle.sheet.specs.WellFormed.{WellFormedPlan}
use Rattle.sheet.proofs.TransitionOrder.{precedes_iff, precedes_transitive}
use Rattle.sheet.proofs.Checks.Bools.{differ}
use Rattle.sheet.proofs.Checks.Lowest.{lowest_bound, lowest_below, lowest_found}
use Rattle.branches.specs.Branches.{insertion_place}

-- transitions rise, near or far
pub rise_far : (p : List ℕ) → WellFormedPlan p → (i j : ℕ) → i < j → j < transition_count p
    → precedes (transition_of p i) (transition_of p j) ≡ true
rise_far p k i zero h l = absurd (omega arith)
rise_far p k i (suc j) h l =
    let next : precedes (transition_of p j) (transition_of p (suc j)) ≡ true =
    (precedes_iff (transition_of p j) (transition_of p (suc j))).1 (k.rising j l) in
    elim (dec_lt i j) [
      | yes q ↦
          precedes_transitive (transition_of p i) (transition_of p j) (transition_of p (suc j)) (rise_far p k i j q (omega arith)) next
      | no q ↦
          let e : j ≡ i = omega arith in
          subst (λ (n : ℕ). precedes (transition_of p n) (transition_of p (suc j)) ≡ true) e next
    ]

module _ (p : List ℕ) (t : LabelledTransition) where
  abbrev comes_after : ℕ → Bool
  comes_after i = not (precedes (transition_of p i) t)

  pub place_within : insertion_place p t ≤ transition_count p
  unfolding insertion_place
  place_within = lowest_bound comes_after (transition_count p)

  pub before_place : (i : ℕ) → i < insertion_place p t → precedes (transition_of p i) t ≡ true
  unfolding insertion_place
  before_place i h = not-false (precedes (transition_of p i) t) (lowest_below comes_after (transition_count p) i h)

  -- at the place, if it is no end, stands a transition that does not come before t
  pub at_place : insertion_place p t < transition_count p → precedes (transition_of p (insertion_place p t)) t ≡ false
  unfolding insertion_place
  at_place h = not-true (precedes (transition_of p (insertion_place p t)) t) (lowest_found comes_after (transition_count p) h)

  -- the place is known by what stands below it and at it
  pub place_is : (i : ℕ) → i ≤ transition_count p → ((j : ℕ) → j < i → precedes (transition_of p j) t ≡ true)
      → (i < transition_count p → precedes (transition_of p i) t ≡ false) → i ≡ insertion_place p t
  place_is i h below at =
      elim (dec_lt i (insertion_place p t)) [
        | yes q ↦ absurd (differ (precedes (transition_of p i) t) (before_place i q) (at (omega (arith, place_within))))
        | no q ↦
            elim (dec_lt (insertion_place p t) i) [
              | yes r ↦
                  absurd
                  (differ (precedes (transition_of p (insertion_place p t)) t) (below (insertion_place p t) r)
                  (at_place (omega arith)))
              | no r ↦ omega arith
            ]
      ]
