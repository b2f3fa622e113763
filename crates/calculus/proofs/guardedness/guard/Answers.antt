-- `calculus::guardedness::guard` meets its contract.
use Rattle.std.proofs.Common.{sym, ap, ◌∙◌, Err}
use Rattle.std.proofs.lemmas.Result.{err_from_is_err_and}
use Rattle.calculus.specs.GuardCheck.{reported_guard}
use Rattle.calculus.proofs.Definition2.GuardSteps.{guard_start, guard_refused, guard_answered}
use Rattle.calculus.proofs.guardedness.guard.Goals as goal

pub guarded_since-requires : goal.guarded_since-requires
guarded_since-requires c = guard_start _ (sym c.check.ensures.value ∙ c.in_ok-check.was) _ c.rule_body.ensures

pub returns-in_err-check : goal.returns-in_err-check
returns-in_err-check c =
    let p = err_from_is_err_and c.from_residual.result c.from_residual.ensures.1 in
    let e = p.1 ∙ (ap Err p.2 ∙ guard_refused _ _ (sym c.check.ensures.value ∙ c.in_err-check.was)) in
    (e, ap reported_guard e)

pub returns : goal.returns
returns c =
    let e = guard_answered _ (sym c.check.ensures.value ∙ c.in_ok-check.was) _ c.rule_body.ensures _ c.guarded_since.ensures in
    (e, ap reported_guard e)
