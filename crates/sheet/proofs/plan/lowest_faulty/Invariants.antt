-- `sheet::plan::lowest_faulty` meets its contract. Of the loop: no transition below i is faulty, and the floor is that of transition i.
use mathlib.Core.Path.{◌≡◌}
use Rattle.sheet.specs.Plan.{transition_faulty, lowest_transition}
use Rattle.sheet.specs.Internal.Order.{floor_at}
use Rattle.sheet.proofs.Checks.Seeking.{Seeking}
use Rattle.sheet.proofs.plan.lowest_faulty.Given as goal

abbrev pub invariant-loop-i : goal.invariant-loop-i
invariant-loop-i l = (l.floor ≡ floor_at l.p l.i) × Seeking (transition_faulty l.p) l.count (lowest_transition l.p) l.i
