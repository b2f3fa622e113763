-- The plan as a graph of its states.
use Rattle.std.specs.Prelude.{ℕ, List, [], ◌∷◌, eqb}
use Rattle.sheet.specs.Bytes.{pick}
use Rattle.sheet.specs.TransitionSystem.{LabelledTransition, plan_of}

-- the states that transitions of a list lead to from s
unfoldable pub targets : ℕ → List LabelledTransition → List ℕ
targets s [] = []
targets s (t ∷ ts) = pick (eqb t.origin s) (t.target ∷ targets s ts) (targets s ts)

-- the states that the plan's transitions lead to from s, in plan order
abbrev pub successors : List ℕ → ℕ → List ℕ
successors p s = targets s (plan_of p).transitions
