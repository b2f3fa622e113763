use Prim.Native.Nat.{◌-◌}
use Rattle.branches.specs.Branches.{labelled}
use Rattle.branches.proofs.Steps.Placing.{Searching}
use Rattle.branches.proofs.placing.place_of.Given as goal

abbrev pub invariant-loop-low : goal.invariant-loop-low
invariant-loop-low l = Searching l.plan (labelled l.branch) l.low l.high

abbrev pub decreases-loop-low : goal.decreases-loop-low
decreases-loop-low l = l.high - l.low
