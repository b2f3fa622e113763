-- The measures: of deciding twice the falling number of the cell, of following a number between those of the state's cells and of the cells
-- that it calls on. Of the loop: what is left to walk along leaves what the whole does.
use Rattle.std.proofs.Common.{◌*◌}
use Rattle.judge.specs.Cells.{cell}
use Rattle.judge.proofs.Steps.DecideSteps.{rank_at}
use Rattle.judge.proofs.Steps.FollowWalk.{WalkedTo}
use Rattle.judge.proofs.Steps.Turns.{walk_rank}
use Rattle.judge.proofs.deciding.Prepared.+decide_follow.Given as goal

abbrev pub decreases-decide : goal.decreases-decide
decreases-decide l = 2 * rank_at l.self.now.sheet.now (cell l.mark l.node.0 l.state.0)

abbrev pub decreases-follow : goal.decreases-follow
decreases-follow l = walk_rank l.self.now.sheet.now l.state.0

abbrev pub invariant-follow-loop-i : goal.invariant-follow-loop-i
invariant-follow-loop-i l = WalkedTo l.self.sheet.now l.initial.table l.fn.node.0 l.fn.state.0 l.initial.i l.i-end l.i l.sum.0 l.table
