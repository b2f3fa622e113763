-- The recursion `graph::searching::visit` meets its contract. The measure is the number of states not seen. Of the loop: what is left to
-- scan leaves what the whole does.
use Rattle.std.proofs.Common.{◌≡◌}
use Rattle.graph.specs.Internal.Searching.{unseen_states}
use Rattle.graph.proofs.Search.ScanSteps.{Scanning}
use Rattle.graph.proofs.searching.+visit.Given as goal

abbrev pub invariant-loop-i : goal.invariant-loop-i
invariant-loop-i l = (l.end ≡ l.i) × Scanning l.plan l.state.0 l.initial.index l.initial.colours l.i l.index l.colours

abbrev pub decreases-visit : goal.decreases-visit
decreases-visit l = unseen_states l.colours.now
