use Rattle.allowance.proofs.Steps.Needing.{Needing}
use Rattle.allowance.proofs.granting.find_needs.Given as goal

abbrev pub invariant-loop-i : goal.invariant-loop-i
invariant-loop-i l = Needing l.sheet l.states l.tables l.benches l.i
