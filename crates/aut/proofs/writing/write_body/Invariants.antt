use Rattle.std.proofs.Common.{◌≡◌}
use Rattle.aut.proofs.Steps.Writing.{after}
use Rattle.aut.proofs.writing.write_body.Given as goal

abbrev pub invariant-loop-i : goal.invariant-loop-i
invariant-loop-i l = l.out ≡ after l.fn.out l.keys l.states l.labels l.low l.high l.i
