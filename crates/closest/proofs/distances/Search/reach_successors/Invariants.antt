-- `closest::distances::Search::reach_successors` meets its contract. Of the loop: the targets before transition i are marked.
use Prim.Native.Nat.{suc}
use mathlib.Core.Path.{◌≡◌}
use Rattle.closest.specs.Internal.Distances.{marks_of}
use Rattle.closest.proofs.Search.Marking.{Marking}
use Rattle.closest.proofs.distances.Search.reach_successors.Given as goal

abbrev pub invariant-loop-i : goal.invariant-loop-i
invariant-loop-i l = (l.self.done ≡ l.fn.self.done) × Marking l.plan (marks_of l.self.distances) l.self.queue l.self.done l.at (suc l.steps) l.i
