use native.Mathlib.Omega.{arith}
use mathlib.Core.Path.{ap}
use Rattle.sheet.specs.declared.Transition.{Transition}
use Rattle.closest.proofs.Search.Firsts.{firsts_store}
use Rattle.closest.proofs.distances.find_firsts.Goals as goal
use Rattle.closest.proofs.distances.find_firsts.Goals.{then-loop-i-test+else-from-s, else-loop-i-test}

pub loop-s-preserved : goal.loop-s-preserved
loop-s-preserved c =
    firsts_store c.loop-i.invariant c.requires (omega arith) (λ h. elim c.loop-i-test.branch [
      | then-loop-i-test+else-from-s w ↦ omega (arith, w.if-from-s.false, w.from.ensures, ap (λ (t : Transition). t.from.0) w.transition.ensures)
      | else-loop-i-test w ↦ absurd (omega (arith, h, w.loop-i-test.false, c.transition_count-count.ensures))
    ])
