-- What the loop keeps, and how far it still has to go.
use Rattle.std.proofs.Common.{length}
use Rattle.patterns.proofs.Steps.Passes.{Passing}
use Rattle.patterns.proofs.pattern_check.is_readable.Given as goal

abbrev pub invariant-loop-op : goal.invariant-loop-op
invariant-loop-op l = Passing l.entries l.pattern l.missing l.rest

abbrev pub decreases-loop-op : goal.decreases-loop-op
decreases-loop-op l = length l.rest
