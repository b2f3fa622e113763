-- The measure is the number of nodes from n on.
use Rattle.std.proofs.Common.{◌-◌}
use Rattle.sheet.specs.Rule.{node_count}
use Rattle.calculus.proofs.guardedness.+guarded_since.Given as goal

abbrev pub decreases-guarded_since : goal.decreases-guarded_since
decreases-guarded_since l = node_count l.rule.now - l.n.0
