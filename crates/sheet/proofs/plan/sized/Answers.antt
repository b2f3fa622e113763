use Rattle.std.proofs.Common.{rules}
use Rattle.sheet.specs.Plan.{plan_sized}
use Rattle.sheet.proofs.plan.sized.Goals as goal

pub returns-then-count-le2048 : goal.returns-then-count-le2048
unfolding plan_sized
returns-then-count-le2048 c = search rules

pub returns-else-count-le2048 : goal.returns-else-count-le2048
unfolding plan_sized
returns-else-count-le2048 c = search rules
