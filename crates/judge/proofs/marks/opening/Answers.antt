-- `judge::marks::opening` meets its contract.
use Rattle.judge.proofs.Steps.DecideSteps.{opened_first, opened_later}
use Rattle.judge.proofs.marks.opening.Goals as goal

pub returns-then-mark-eq0 : goal.returns-then-mark-eq0
returns-then-mark-eq0 c = opened_first _ _ c.if-mark-eq0.true

pub returns-else-mark-eq0 : goal.returns-else-mark-eq0
returns-else-mark-eq0 c = opened_later _ _ c.if-mark-eq0.false
