-- What the steps of the search for a branch's place show, and those of the test whether the plan takes it.
use Prim.Native.Nat.{ℕ, ◌+◌, ◌<◌, ◌≤◌}
use mathlib.Core.Path.{◌≡◌, refl, sym, ap, subst, ◌∙◌}
use mathlib.Core.Bool.{Bool, true, false}
use mathlib.Core.List.{List}
use native.Mathlib.Omega.{arith}
use native.Mathlib.Decide.{dec_lt}
use lib.Dec.{ltb}
use Rattle.sheet.specs.Plan.{transition_count}
use Rattle.sheet.specs.TransitionSystem.{LabelledTransition, transition_of, precedes}
use Rattle.sheet.specs.WellFormed.{WellFormedPlan}
use Rattle.sheet.proofs.TransitionOrder.{precedes_transitive}
use Rattle.branches.specs.Branches.{branch_in_range, present, branch_fits, insertion_place}
use Rattle.branches.specs.Internal.Placing.{stands_at}
use Rattle.branches.proofs.Plans.Places.{rise_far, place_is}
use Rattle.branches.proofs.Plans.Fitting.{present_at_place}

-- the binary search: the transitions below low come before t, the one at high does not
pub record Searching (p : List ℕ) (t : LabelledTransition) (low high : ℕ) : Type 0 where
  pub ordered : low ≤ high
  pub within : high ≤ transition_count p
  pub below : (j : ℕ) → j < low → precedes (transition_of p j) t ≡ true
  pub above : high < transition_count p → precedes (transition_of p high) t ≡ false

module _ (p : List ℕ) (t : LabelledTransition) where
  pub search_low : WellFormedPlan p → {low high : ℕ} → Searching p t low high → (middle : ℕ) → middle < high
      → precedes (transition_of p middle) t ≡ true → Searching p t (middle + 1) high
  search_low k s middle h e =
      record { ordered = omega arith; within = s.within; below = below; above = s.above }
    where
      below : (j : ℕ) → j < middle + 1 → precedes (transition_of p j) t ≡ true
      below j l =
          elim (dec_lt j middle) [
            | yes b ↦
                precedes_transitive (transition_of p j) (transition_of p middle) t
                (rise_far p k j middle b (omega (arith, s.within))) e
            | no b ↦
                let same : middle ≡ j = omega arith in
                subst (λ (i : ℕ). precedes (transition_of p i) t ≡ true) same e
          ]

  pub search_end : {low high : ℕ} → Searching p t low high → high ≤ low → (low ≡ insertion_place p t) × (low ≤ transition_count p)
  search_end {low} {high} s h =
      let same : high ≡ low = omega (arith, s.ordered) in
      let within : low ≤ transition_count p = omega (arith, s.within) in
      let above = subst (λ (i : ℕ). i < transition_count p → precedes (transition_of p i) t ≡ false) same s.above in
      (place_is p t low within s.below above, within)

  pub not_in_range : branch_in_range p t ≡ false → false ≡ branch_fits p t
  unfolding branch_fits
  not_in_range e = rw e refl

  module _ (k : WellFormedPlan p) (i : ℕ) (at : i ≡ insertion_place p t) (e : branch_in_range p t ≡ true) where
    present_is : {b : Bool} → stands_at p t i ≡ b → present p t ≡ b
    present_is f = present_at_place p t k ∙ ap (stands_at p t) (sym at) ∙ f

    pub stands_already : stands_at p t i ≡ true → false ≡ branch_fits p t
    unfolding branch_fits
    stands_already f = rw (e, present_is f) refl

    pub by_count : stands_at p t i ≡ false → ltb (transition_count p) 2048 ≡ branch_fits p t
    unfolding branch_fits
    by_count f = rw (e, present_is f) refl
