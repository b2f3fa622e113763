-- `judge::turns::walk_states` meets its contract. Of the loop: the visits so far, then the walk along the states left, are the whole walk.
use Rattle.judge.proofs.Steps.TurnSteps.{QueriedTo}
use Rattle.judge.proofs.turns.walk_states.Given as goal

abbrev pub invariant-loop-passed : goal.invariant-loop-passed
invariant-loop-passed l = QueriedTo l.sheet l.states l.initial.table l.passed l.visits l.table
