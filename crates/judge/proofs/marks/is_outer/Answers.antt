-- `judge::marks::is_outer` meets its contract.
use Rattle.std.proofs.Common.{◌∙◌, eq-eqb}
use Rattle.judge.proofs.Steps.DecideSteps.{outer_zero, outer_later}
use Rattle.judge.proofs.marks.is_outer.Goals as goal

pub returns-then-mark-eq0 : goal.returns-then-mark-eq0
returns-then-mark-eq0 c = eq-eqb _ _ c.if-mark-eq0.true ∙ outer_zero _ _ c.if-mark-eq0.true

pub returns-else-mark-eq0 : goal.returns-else-mark-eq0
returns-else-mark-eq0 c = outer_later _ _ c.if-mark-eq0.false
