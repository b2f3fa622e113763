-- `reference::table1::meetings` meets its contract.
use Rattle.std.proofs.Common.{ℕ, arith, length-set}
use Rattle.std.proofs.lemmas.Grind.{common_steps}
use Rattle.reference.proofs.table1.meetings.Goals as goal

pub loop-a-preserved : goal.loop-a-preserved
loop-a-preserved c =
    (omega (arith, length-set {A = ℕ}, c.loop-a.invariant.0), λ k h. grind (arith, common_steps, c.loop-a.invariant.0, c.loop-a.invariant.1 k))
