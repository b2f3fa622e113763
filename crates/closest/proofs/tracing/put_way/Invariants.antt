-- `closest::tracing::put_way` meets its contract. Of the loop: what is to be written is the way to `at`, of `left` steps, and what stands
-- behind it.
use Rattle.closest.proofs.Traces.Backwards.{Filling}
use Rattle.closest.proofs.tracing.put_way.Given as goal

abbrev pub invariant-loop-left : goal.invariant-loop-left
invariant-loop-left l = Filling l.plan l.fn.state.0 l.steps l.initial.out l.out l.at.0 l.left
