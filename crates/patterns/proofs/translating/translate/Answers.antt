-- `patterns::translating::translate` meets its contract.
use Rattle.std.proofs.Common.{sym}
use Rattle.std.proofs.lemmas.Result.{err_from_is_err_and}
use Rattle.patterns.proofs.Steps.CallSteps.{readable_is, translates_refused, translates_malformed, call_readable, translates_readable}
use Rattle.patterns.proofs.translating.translate.Goals as goal

pub returns-in_err-check : goal.returns-in_err-check
returns-in_err-check c =
    let p = err_from_is_err_and c.from_residual.result c.from_residual.ensures.1 in
    rw (p.1, p.2) (translates_refused c.args.sheet.now c.args.pattern.now c.args.out.now (sym c.in_err-check.ensures.value))

pub returns-then-not-is_readable : goal.returns-then-not-is_readable
returns-then-not-is_readable c =
    translates_malformed c.args.sheet.now c.args.pattern.now c.args.out.now (sym c.in_ok-check.ensures.value)
    (readable_is c.args.sheet.now c.args.pattern.now c.actions_body.ensures c.entry_count.ensures c.is_readable.ensures c.if-not-is_readable.true)

pub put_body-requires : goal.put_body-requires
put_body-requires c =
    call_readable c.args.sheet.now c.args.pattern.now (sym c.in_ok-check.ensures.value)
    (readable_is c.args.sheet.now c.args.pattern.now c.actions_body.ensures c.entry_count.ensures c.is_readable.ensures c.if-not-is_readable.false)
    c.rule_body.ensures

pub returns : goal.returns
returns c =
    translates_readable c.args.sheet.now c.args.pattern.now (sym c.in_ok-check.ensures.value)
    (readable_is c.args.sheet.now c.args.pattern.now c.actions_body.ensures c.entry_count.ensures c.is_readable.ensures c.if-not-is_readable.false)
    c.rule_body.ensures c.put_body.ensures
