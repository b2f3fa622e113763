use Rattle.std.proofs.Common.{length}
use Rattle.text.specs.Numerals.{decimal_value}
use Rattle.aut.proofs.Steps.Passing.{Passing}
use Rattle.aut.proofs.pass.pass_over.Given as goal

abbrev pub invariant-loop-rest : goal.invariant-loop-rest
invariant-loop-rest l = Passing l.text (decimal_value l.states) l.few l.rest l.pass l.gathered

abbrev pub decreases-loop-rest : goal.decreases-loop-rest
decreases-loop-rest l = length l.rest
