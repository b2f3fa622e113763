-- The rule that is being made, as the code holds it. Contracts of private functions cite these; no promise of a public call does.
use Rattle.std.specs.Prelude.{ℕ, ◌+◌, ◌<◌, ◌≤◌, ◌≡◌, Result, Ok, Err}
use Rattle.sheet.specs.declared.Node.{Node}
use Rattle.sheet.specs.declared.Variable.{Variable}
use Rattle.patterns.specs.Internal.Nodes.{Progress, Made, Exceeded}
use Rattle.patterns.specs.declared.Oversize.{Oversize}
use Rattle.patterns.specs.declared.draft.Draft.{Draft}

-- nothing is made
pub record IsNew (d : Draft) : Type 0 where
  pub no_node : d.nodes ≡ 0
  pub no_binder : d.binders ≡ 0

-- the number of one more node, if there is room
abbrev pub NextNode : Draft → Result Node Oversize → Draft → Type 0
NextNode d (Ok n) d' = (d.nodes < 64) × (n.0 ≡ d.nodes) × (d' ≡ record d { nodes = d.nodes + 1 })
NextNode d (Err x) d' = (64 ≤ d.nodes) × (d' ≡ d)

-- the variable of one more binder, if there is room
abbrev pub NextBinder : Draft → Result Variable Oversize → Draft → Type 0
NextBinder d (Ok b) d' = (d.binders < 6) × (b.0 ≡ d.binders) × (d' ≡ record d { binders = d.binders + 1 })
NextBinder d (Err x) d' = (6 ≤ d.binders) × (d' ≡ d)

-- what an answer says of a draft with so many nodes and binders
abbrev pub progress_of : Result (Unit {0}) Oversize → ℕ → ℕ → Progress
progress_of (Ok u) n b = Made n b
progress_of (Err x) n b = Exceeded
