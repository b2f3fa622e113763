-- `sheet::plan::step` meets its contract.
use native.Mathlib.Omega.{arith}
use mathlib.Core.Path.{sym, ◌∙◌}
use Rattle.sheet.proofs.Steps.Order.{step_none_lem, step_within_lem, step_beyond}
use Rattle.sheet.proofs.plan.step.Goals as goal

pub key_of-requires : goal.key_of-requires
key_of-requires c = omega (arith, (c.type_inv.p 0).fits)

pub returns-in_err-next : goal.returns-in_err-next
returns-in_err-next c = c.from_residual.ensures ∙ step_none_lem _ _ (sym c.in_err-next.was ∙ c.rise.ensures)

pub returns-then-key_of-next : goal.returns-then-key_of-next
returns-then-key_of-next c = step_beyond _ _ _ (sym c.in_ok-next.was ∙ c.rise.ensures) (λ k. (c.type_inv.p k).fits) (omega arith)

pub returns : goal.returns
returns c = step_within_lem _ _ _ (sym c.in_ok-next.was ∙ c.rise.ensures) (omega arith)
