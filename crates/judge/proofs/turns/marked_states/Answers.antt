use Rattle.std.proofs.Common.{arith}
use Rattle.judge.proofs.Steps.TurnSteps.{marks_start, marks_missing, marks_next, marks_end}
use Rattle.judge.proofs.turns.marked_states.Goals as goal

pub loop-state-init : goal.loop-state-init
loop-state-init c = marks_start _

pub returns-then-count-state : goal.returns-then-count-state
returns-then-count-state c = marks_missing c.loop-state.invariant c.loop-state-test.true c.if-count-state.true

pub bounds-starts-from : goal.bounds-starts-from
bounds-starts-from c = omega (arith, c.from.ensures, c.if-count-state.false, c.loop-state.invariant.sized, c.requires)

pub loop-state-preserved : goal.loop-state-preserved
loop-state-preserved c = marks_next c.loop-state.invariant c.loop-state-test.true c.requires (omega (arith, c.if-count-state.false)) c.from.ensures

pub returns : goal.returns
returns c = marks_end c.loop-state.invariant c.loop-state-test.false
