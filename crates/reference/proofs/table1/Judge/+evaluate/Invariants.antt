-- The recursion `reference::table1::Judge::evaluate` meets its contract. The measure is the number of nodes from n on.
use Prim.Native.Nat.{◌-◌, ◌^◌}
use lib.ListN.{get_or}
use Rattle.sheet.specs.Contents.{rule_body}
use Rattle.sheet.specs.Rule.{node_count}
use Rattle.reference.proofs.Evaluation.Rounds.{Going}
use Rattle.reference.proofs.table1.Judge.+evaluate.Given as goal

abbrev pub decreases-evaluate : goal.decreases-evaluate
decreases-evaluate l = node_count (rule_body l.self.now.sheet.now) - l.n.0

-- the rounds of a least fixed point end as its set grows, those of a greatest as it shrinks
abbrev pub invariant-loop-rule : goal.invariant-loop-rule
invariant-loop-rule l = Going l.self.sheet.now (l.y - 1) l.x l.initial.context l.context

abbrev pub decreases-loop-rule : goal.decreases-loop-rule
decreases-loop-rule l = 2 ^ 64 - get_or l.context l.x 0

abbrev pub invariant-loop-rule-2 : goal.invariant-loop-rule-2
invariant-loop-rule-2 l = Going l.self.sheet.now (l.y - 1) l.x l.initial.context l.context

abbrev pub decreases-loop-rule-2 : goal.decreases-loop-rule-2
decreases-loop-rule-2 l = get_or l.context l.x 0
