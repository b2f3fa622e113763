-- `sheet::writer::write` meets its contract.
use native.Mathlib.Omega.{arith}
use mathlib.Core.Path.{sym, ◌∙◌}
use Rattle.std.proofs.lemmas.Result.{err_from_is_err_and}
use Rattle.sheet.proofs.Steps.Writing.{refused, short, wrote, bounded, roomy}
use Rattle.sheet.proofs.writer.write.Goals as goal

pub returns-in_err-check_bodies : goal.returns-in_err-check_bodies
returns-in_err-check_bodies c =
    let p = err_from_is_err_and c.from_residual.result c.from_residual.ensures.1 in
    rw (p.1, p.2) (refused c.args.plan.now c.args.actions.now c.args.rule.now c.args.out.now _ (sym c.check_bodies.ensures ∙ c.in_err-check_bodies.was))

pub overflow_add-length-2 : goal.overflow_add-length-2
overflow_add-length-2 c =
    omega (arith, bounded c.args.plan.now c.args.actions.now c.args.rule.now c.args.out.now (sym c.check_bodies.ensures ∙ c.in_ok-check_bodies.was))

pub overflow_add-length-3 : goal.overflow_add-length-3
overflow_add-length-3 c =
    omega (arith, bounded c.args.plan.now c.args.actions.now c.args.rule.now c.args.out.now (sym c.check_bodies.ensures ∙ c.in_ok-check_bodies.was))

pub returns-then-out-length : goal.returns-then-out-length
returns-then-out-length c =
    short c.args.plan.now c.args.actions.now c.args.rule.now c.args.out.now (sym c.check_bodies.ensures ∙ c.in_ok-check_bodies.was) (omega arith)

pub put_sheet-requires : goal.put_sheet-requires
put_sheet-requires c =
    roomy c.args.plan.now c.args.actions.now c.args.rule.now c.args.out.now (sym c.check_bodies.ensures ∙ c.in_ok-check_bodies.was) (omega arith)

pub returns : goal.returns
returns c =
    wrote c.args.plan.now c.args.actions.now c.args.rule.now c.args.out.now (sym c.check_bodies.ensures ∙ c.in_ok-check_bodies.was) (omega arith) _ c.put_sheet.ensures
