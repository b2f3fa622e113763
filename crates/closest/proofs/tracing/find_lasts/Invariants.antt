-- `closest::tracing::find_lasts` meets its contract. Of the loop: the transitions from i on are passed.
use Rattle.closest.proofs.Traces.Lasts.{Storing}
use Rattle.closest.proofs.tracing.find_lasts.Given as goal

abbrev pub invariant-loop-i : goal.invariant-loop-i
invariant-loop-i l = Storing l.plan l.lasts l.i
