-- `closest::distances::find_distances` meets its contract. The measure is how many states are not done.
use Prim.Native.Nat.{◌-◌}
use Rattle.graph.specs.Search.{most_states}
use Rattle.closest.specs.Internal.Distances.{marks_of, Queued}
use Rattle.closest.proofs.distances.find_distances.Given as goal

abbrev pub invariant-loop-state : goal.invariant-loop-state
invariant-loop-state l = Queued l.plan (marks_of l.search.distances) l.search.queue l.search.done

abbrev pub decreases-loop-state : goal.decreases-loop-state
decreases-loop-state l = most_states - l.search.done
