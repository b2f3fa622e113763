use Rattle.allowance.specs.Internal.Benches.{grants_in}
use Rattle.allowance.proofs.Steps.Granting.{Going}
use Rattle.allowance.proofs.granting.query_granted.Given as goal

abbrev pub invariant-loop-i : goal.invariant-loop-i
invariant-loop-i l = Going l.sheet l.states l.fn.tables (grants_in l.fn.benches) l.fn.benches l.benches l.tables l.i
