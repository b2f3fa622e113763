-- `sheet::plan::check_plan` meets its contract.
use mathlib.Core.Path.{sym, ◌∙◌}
use Rattle.sheet.specs.Refusals.{reported_check}
use Rattle.sheet.proofs.Checks.Checks.{with_report}
use Rattle.sheet.proofs.Steps.BodyChecks.{plan_unsized, plan_passed, plan_faulty}
use Rattle.sheet.proofs.Steps.Sizes.{plan_room}
use Rattle.sheet.proofs.plan.check_plan.Goals as goal

pub returns-then-not-sized : goal.returns-then-not-sized
returns-then-not-sized c = record { value = (with_report reported_check (plan_unsized _ (sym c.sized.ensures ∙ c.if-not-sized.true))).0; result_value = (with_report reported_check (plan_unsized _ (sym c.sized.ensures ∙ c.if-not-sized.true))).1 }

pub none_faulty-requires : goal.none_faulty-requires
none_faulty-requires c = plan_room _ (sym c.sized.ensures ∙ c.if-not-sized.false)

pub returns-then-none_faulty : goal.returns-then-none_faulty
returns-then-none_faulty c = let at-if1 = c in record { value = (with_report reported_check (plan_passed _ (sym at-if1.sized.ensures ∙ at-if1.if-not-sized.false) (c.none_faulty.ensures c.if-none_faulty.true))).0; result_value = (with_report reported_check (plan_passed _ (sym at-if1.sized.ensures ∙ at-if1.if-not-sized.false) (c.none_faulty.ensures c.if-none_faulty.true))).1 }

pub lowest_faulty-i-requires : goal.lowest_faulty-i-requires
lowest_faulty-i-requires c = let at-if1 = c in
    plan_room _ (sym at-if1.sized.ensures ∙ at-if1.if-not-sized.false)

pub returns-then-i-word_at : goal.returns-then-i-word_at
returns-then-i-word_at c =
    let at-lowest-faulty = c in
    let at-if1 = at-lowest-faulty in
    let at-sized = at-if1 in record { value = (with_report reported_check (plan_passed _ (sym at-sized.sized.ensures ∙ at-if1.if-not-sized.false) (sym at-lowest-faulty.lowest_faulty-i.ensures.0 ∙ (c.if-i-word_at.true ∙ c.word_at.ensures.0)))).0; result_value = (with_report reported_check (plan_passed _ (sym at-sized.sized.ensures ∙ at-if1.if-not-sized.false) (sym at-lowest-faulty.lowest_faulty-i.ensures.0 ∙ (c.if-i-word_at.true ∙ c.word_at.ensures.0)))).1 }

pub returns-else-i-word_at : goal.returns-else-i-word_at
returns-else-i-word_at c =
    let at-lowest-faulty = c in
    let at-if1 = at-lowest-faulty in
    let at-sized = at-if1 in record { value = (with_report reported_check (plan_faulty _ _ (sym at-sized.sized.ensures ∙ at-if1.if-not-sized.false) at-lowest-faulty.lowest_faulty-i.ensures.0 (λ e. c.if-i-word_at.false (e ∙ sym c.word_at.ensures.0)))).0; result_value = (with_report reported_check (plan_faulty _ _ (sym at-sized.sized.ensures ∙ at-if1.if-not-sized.false) at-lowest-faulty.lowest_faulty-i.ensures.0 (λ e. c.if-i-word_at.false (e ∙ sym c.word_at.ensures.0)))).1 }
