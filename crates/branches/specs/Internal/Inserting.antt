-- What is known when the plan with the branch is built. Contracts of private functions cite it; no promise of a public call does.
use Rattle.std.specs.Prelude.{ℕ, suc, ◌+◌, ◌≤◌, List, [], ◌∷◌, length}
use Rattle.sheet.specs.Plan.{state_count, action_count, transition_count}
use Rattle.sheet.specs.TransitionSystem.{LabelledTransition}
use Rattle.sheet.specs.WellFormed.{WellFormedPlan}
use Rattle.sheet.specs.Writing.{two_bytes}

-- the four bytes that the plan with the branch begins with: S, A, and T one more
abbrev pub head_with : List ℕ → List ℕ
head_with p = state_count p ∷ action_count p ∷ two_bytes (suc (transition_count p)) []

-- document 01: "transitions of three bytes: from, action, to"
abbrev pub transition_bytes : LabelledTransition → List ℕ
transition_bytes t = t.origin ∷ t.action ∷ t.target ∷ []

-- the place is one of the well-formed plan p, and the buffer has room for three bytes more
pub record Inserting (p : List ℕ) (place : ℕ) (room : List ℕ) : Type 0 where
  pub kept : WellFormedPlan p
  pub place_within : place ≤ transition_count p
  pub room_enough : length p + 3 ≤ length room
