-- `judge::querying::query` meets its contract.
use Rattle.std.proofs.Common.{sym, ap, ◌∙◌, arith}
use Rattle.std.proofs.lemmas.Result.{err_from_is_err_and}
use Rattle.sheet.specs.Plan.{state_count}
use Rattle.judge.proofs.Steps.QueryAnswers.{answers_refused, answers_no_state, answers_loop}
use Rattle.judge.proofs.querying.query.Goals as goal

pub returns-in_err-check : goal.returns-in_err-check
returns-in_err-check c =
    let p = err_from_is_err_and c.from_residual.result c.from_residual.ensures.1 in
    rw (p.1, p.2) (answers_refused c.args.sheet.now c.args.state.0 c.args.table.now _ (sym c.in_err-check.ensures.value))

pub returns-then-state_count-state : goal.returns-then-state_count-state
returns-then-state_count-state c =
    answers_no_state c.args.sheet.now c.args.state.0 c.args.table.now (sym c.in_ok-check.ensures.value)
    (omega (arith, c.state_count.ensures ∙ ap state_count c.plan_body.ensures))

pub prepare-requires : goal.prepare-requires
prepare-requires c =
    (sym c.in_ok-check.ensures.value, c.index_of-index.ensures, omega (arith, c.if-state_count-state.false, c.state_count.ensures ∙ ap state_count c.plan_body.ensures))

pub returns-then-not-prepare : goal.returns-then-not-prepare
returns-then-not-prepare c =
    answers_loop c.args.sheet.now c.args.state.0 c.args.table.now (sym c.in_ok-check.ensures.value)
    (omega (arith, c.state_count.ensures ∙ ap state_count c.plan_body.ensures))
    (sym c.prepare.ensures.value ∙ c.if-not-prepare.true)

pub judge_prepared-requires : goal.judge_prepared-requires
judge_prepared-requires c = record {
  accepted = sym c.in_ok-check.ensures.value;
  state_below = omega (arith, c.if-state_count-state.false, c.state_count.ensures ∙ ap state_count c.plan_body.ensures);
  loop_free_holds = sym c.prepare.ensures.value ∙ c.if-not-prepare.false;
  prepared = c.prepare.ensures.prepared c.if-not-prepare.false;
}
