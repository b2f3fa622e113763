-- What is left of the round.
use Rattle.allowance.proofs.Steps.Dealing.{RoundOf}
use Rattle.allowance.proofs.dealing.round.Given as goal

abbrev pub invariant-loop-bench : goal.invariant-loop-bench
invariant-loop-bench l = RoundOf l.fn.benches l.visits l.benches l.left l.bench-index
