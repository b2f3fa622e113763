-- `sheet::rule::variable_right` meets its contract.
use Rattle.sheet.proofs.rule.variable_right.Goals as goal

pub returns : goal.returns
returns c = rw c.y_at.ensures.0
