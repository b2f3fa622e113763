-- `graph::searching::first_from` meets its contract. Of the loop: what is left to halve finds the same.
use Prim.Native.Nat.{◌-◌}
use Rattle.graph.proofs.Search.Halving.{Halving}
use Rattle.graph.proofs.searching.first_from.Given as goal

abbrev pub invariant-loop-low : goal.invariant-loop-low
invariant-loop-low l = Halving l.plan l.state.0 l.low l.high

abbrev pub decreases-loop-low : goal.decreases-loop-low
decreases-loop-low l = l.high - l.low
