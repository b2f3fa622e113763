-- `graph::searching::explore_all` meets its contract. Of the loop: what is left of the sweep leaves what the whole does.
use Rattle.graph.proofs.Search.SweepSteps.{Sweeping}
use Rattle.graph.proofs.searching.explore_all.Given as goal

abbrev pub invariant-loop-s : goal.invariant-loop-s
invariant-loop-s l = Sweeping l.plan l.initial.index l.starts l.index l.colours l.s
