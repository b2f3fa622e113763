-- `sheet::actions::check_actions` meets its contract.
use mathlib.Core.Path.{sym, ◌∙◌}
use Rattle.sheet.proofs.Steps.BodyChecks.{actions_unsized, actions_passed, actions_faulty}
use Rattle.sheet.proofs.actions.check_actions.Goals as goal

pub returns-then-not-sized : goal.returns-then-not-sized
returns-then-not-sized c = actions_unsized _ _ (sym c.sized.ensures ∙ c.if-not-sized.true)

pub returns-then-e-byte_at : goal.returns-then-e-byte_at
returns-then-e-byte_at c =
    let at-lowest-faulty = c in
    let at-if1 = at-lowest-faulty in
    let at-sized = at-if1 in
    actions_passed _ _ (sym at-sized.sized.ensures ∙ at-if1.if-not-sized.false)
    (sym at-lowest-faulty.lowest_faulty-e.ensures.0 ∙ (c.if-e-byte_at.true ∙ c.byte_at.ensures.0))

pub returns-else-e-byte_at : goal.returns-else-e-byte_at
returns-else-e-byte_at c =
    let at-lowest-faulty = c in
    let at-if1 = at-lowest-faulty in
    let at-sized = at-if1 in
    actions_faulty _ _ _ (sym at-sized.sized.ensures ∙ at-if1.if-not-sized.false) at-lowest-faulty.lowest_faulty-e.ensures.0
    (λ e. c.if-e-byte_at.false (e ∙ sym c.byte_at.ensures.0))
