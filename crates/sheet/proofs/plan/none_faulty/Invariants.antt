-- `sheet::plan::none_faulty` meets its contract. Of the loop: no transition below 2 * i is faulty, if the floor is at most the key of (S, 0, 0).
use Prim.Native.Nat.{◌*◌, ◌≤◌}
use Rattle.sheet.proofs.Steps.Order.{Climbing}
use Rattle.sheet.proofs.plan.none_faulty.Given as goal

abbrev pub invariant-loop-i : goal.invariant-loop-i
invariant-loop-i l = (2 * l.i ≤ l.count) × Climbing l.p l.floor (2 * l.i)
