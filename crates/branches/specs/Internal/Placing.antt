-- What the search for a branch's place leaves to look at. Contracts of private functions cite it; no promise of a public call does.
use Rattle.std.specs.Prelude.{ℕ, Bool, ◌&&◌, List, ltb}
use Rattle.sheet.specs.Plan.{transition_count}
use Rattle.sheet.specs.TransitionSystem.{LabelledTransition, transition_of}
use Rattle.branches.specs.Branches.{same_transition}

-- t is transition i of the plan
abbrev pub stands_at : List ℕ → LabelledTransition → ℕ → Bool
stands_at p t i = ltb i (transition_count p) && same_transition (transition_of p i) t
