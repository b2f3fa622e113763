use Rattle.std.proofs.Common.{rules}
use Rattle.sheet.specs.Rule.{rule_sized}
use Rattle.sheet.proofs.rule.sized.Goals as goal

pub returns-then-count-le-MOST_NODES : goal.returns-then-count-le-MOST_NODES
unfolding rule_sized
returns-then-count-le-MOST_NODES c = search rules

pub returns-else-count-le-MOST_NODES : goal.returns-else-count-le-MOST_NODES
unfolding rule_sized
returns-else-count-le-MOST_NODES c = search rules
