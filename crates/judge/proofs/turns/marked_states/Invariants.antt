-- `judge::turns::marked_states` meets its contract. Of the loop: the states so far are marked.
use Rattle.judge.proofs.Steps.TurnSteps.{MarkedTo}
use Rattle.judge.proofs.turns.marked_states.Given as goal

abbrev pub invariant-loop-state : goal.invariant-loop-state
invariant-loop-state l = MarkedTo l.states l.count l.state-index l.starts
