use Rattle.std.proofs.Common.{rules}
use Rattle.sheet.specs.Actions.{actions_sized}
use Rattle.sheet.proofs.actions.sized.Goals as goal

pub returns-then-count-le32 : goal.returns-then-count-le32
unfolding actions_sized
returns-then-count-le32 c = search rules

pub returns-else-count-le32 : goal.returns-else-count-le32
unfolding actions_sized
returns-else-count-le32 c = search rules
