-- What is left of the dealing.
use mathlib.Core.Path.{◌≡◌}
use Rattle.allowance.specs.Internal.Benches.{needs_in, grants_in, verdicts_in}
use Rattle.allowance.proofs.Steps.Dealing.{DealingLeft}
use Rattle.allowance.proofs.dealing.deal.Given as goal

abbrev pub invariant-loop-left : goal.invariant-loop-left
invariant-loop-left l = record {
  dealing : DealingLeft (needs_in l.fn.benches) l.allowance (grants_in l.benches) l.left;
  needs_same : needs_in l.benches ≡ needs_in l.fn.benches;
  verdicts_same : verdicts_in l.benches ≡ verdicts_in l.fn.benches;
}

abbrev pub decreases-loop-left : goal.decreases-loop-left
decreases-loop-left l = l.left
