-- `sheet::plan::rise` meets its contract.
use native.Mathlib.Omega.{arith}
use Rattle.sheet.specs.Internal.Order.{faulty_elsewhere}
use Rattle.sheet.proofs.Steps.Order.{faulty_label, faulty_target, faulty_low, fine_elsewhere, step_faulty, step_fine}
use Rattle.sheet.proofs.plan.rise.Goals as goal

pub returns-then-actions-a : goal.returns-then-actions-a
returns-then-actions-a c = step_faulty faulty_elsewhere _ _ (faulty_label _ _ (omega arith))

pub returns-then-states-t : goal.returns-then-states-t
returns-then-states-t c = step_faulty faulty_elsewhere _ _ (faulty_target _ _ (omega arith) (omega arith))

pub returns-then-key-floor : goal.returns-then-key-floor
returns-then-key-floor c = step_faulty faulty_elsewhere _ _ (faulty_low _ (λ k. (c.type_inv.p k).fits) _ (omega arith) (omega arith) (omega arith))

pub returns : goal.returns
returns c =
    rw (c.key_of-key.ensures, c.byte_in.ensures.0, c.byte_in-t.ensures.0, c.byte_in-a.ensures.0)
    (step_fine faulty_elsewhere _ _ (fine_elsewhere _ (λ k. (c.type_inv.p k).fits) _ (omega arith) (omega arith) (omega arith)))
