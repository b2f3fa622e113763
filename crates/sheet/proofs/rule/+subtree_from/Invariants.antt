-- The measure is the number of nodes from n on.
use Rattle.std.proofs.Common.{◌-◌}
use Rattle.sheet.specs.Rule.{node_count}
use Rattle.sheet.proofs.rule.+subtree_from.Given as goal

abbrev pub decreases-subtree_from : goal.decreases-subtree_from
decreases-subtree_from l = node_count l.r.now - l.n.0
