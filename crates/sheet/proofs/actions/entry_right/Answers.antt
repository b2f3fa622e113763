use Rattle.std.proofs.Common.{rules}
use Rattle.sheet.specs.Actions.{entry_right}
use Rattle.sheet.proofs.actions.entry_right.Goals as goal

pub returns-then-x-actions : goal.returns-then-x-actions
unfolding entry_right
returns-then-x-actions c = search rules

pub returns-else-x-actions : goal.returns-else-x-actions
unfolding entry_right
returns-else-x-actions c = search rules

pub returns-then-x-e : goal.returns-then-x-e
unfolding entry_right
returns-then-x-e c = search rules

pub returns-else-x-e : goal.returns-else-x-e
unfolding entry_right
returns-else-x-e c = search rules

pub returns-then-x-y : goal.returns-then-x-y
unfolding entry_right
returns-then-x-y c = search rules

pub returns-else-x-y : goal.returns-else-x-y
unfolding entry_right
returns-else-x-y c = search rules

pub returns-then-x-eq0 : goal.returns-then-x-eq0
unfolding entry_right
returns-then-x-eq0 c = search rules

pub returns-else-x-eq0 : goal.returns-else-x-eq0
unfolding entry_right
returns-else-x-eq0 c = search rules

pub returns-then-x-e-2 : goal.returns-then-x-e-2
unfolding entry_right
returns-then-x-e-2 c = search rules

pub returns-else-x-e-2 : goal.returns-else-x-e-2
unfolding entry_right
returns-else-x-e-2 c = search rules

pub returns-in_default : goal.returns-in_default
unfolding entry_right
returns-in_default c = search rules
