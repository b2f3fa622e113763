-- Of the loop of `closest_state::lines::put_way`: the lines of the first i transitions are put.
use mathlib.Core.Path.{◌≡◌}
use Rattle.closest_state.proofs.Putting.{Putting}
use Rattle.closest_state.proofs.lines.put_way.Given as goal

abbrev pub invariant-loop-i : goal.invariant-loop-i
invariant-loop-i l =
    (l.lines.out.ghost_name ≡ l.initial.lines.out.ghost_name) × Putting l.way l.count l.at l.initial.lines.out.now l.i l.lines.place l.lines.out.now
