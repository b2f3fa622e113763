-- `sheet::rule::x_is_child` meets its contract.
use Rattle.sheet.proofs.rule.x_is_child.Goals as goal

pub returns : goal.returns
returns c = rw (← c.x_at.ensures.0) c.child_is.ensures
