-- `closest::distances::find_firsts` meets its contract. Of the loops: the entries before s are right, and no transition before i is for a
-- later one.
use Prim.Native.Nat.{◌-◌}
use Rattle.closest.proofs.Search.Firsts.{FirstsPut}
use Rattle.closest.proofs.distances.find_firsts.Given as goal

abbrev pub invariant-loop-i : goal.invariant-loop-i
invariant-loop-i l = FirstsPut l.plan l.firsts l.i l.s

abbrev pub decreases-loop-i : goal.decreases-loop-i
decreases-loop-i l = l.count - l.i

abbrev pub invariant-loop-s : goal.invariant-loop-s
invariant-loop-s l = FirstsPut l.plan l.firsts l.i l.s
