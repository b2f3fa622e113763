-- `judge::turns::query_in_turn` meets its contract.
use Rattle.std.proofs.Common.{sym, refl, ap, ◌∙◌, arith}
use Rattle.std.proofs.lemmas.Result.{err_from_is_err_and}
use Rattle.sheet.specs.Plan.{state_count}
use Rattle.sheet.proofs.Acceptance.Parts.{few_states}
use Rattle.judge.proofs.Steps.TurnAnswers.{in_turn_unread, one_missing, list_asked, list_looped, list_free}
use Rattle.judge.proofs.turns.query_in_turn.Goals as goal

pub returns-in_err-check : goal.returns-in_err-check
returns-in_err-check c =
    let p = err_from_is_err_and c.from_residual.result c.from_residual.ensures.1 in
    rw (p.1, p.2) (in_turn_unread c.args.sheet.now c.args.states.now c.args.table.now _ (sym c.in_err-check.ensures.value))

pub marked_states-requires : goal.marked_states-requires
marked_states-requires c = omega (arith, few_states c.args.sheet.now (sym c.in_ok-check.ensures.value), c.state_count.ensures ∙ ap state_count c.plan_body.ensures)

pub returns-in_err-starts : goal.returns-in_err-starts
returns-in_err-starts c =
    let p = err_from_is_err_and c.from_residual-in_err-starts.result c.from_residual-in_err-starts.ensures.1 in
    rw (p.1, p.2)
    (one_missing c.args.sheet.now (sym c.in_ok-check.ensures.value) (c.state_count.ensures ∙ ap state_count c.plan_body.ensures) c.in_err-starts.ensures refl c.args.table.now)

pub prepare_rule-index-requires : goal.prepare_rule-index-requires
prepare_rule-index-requires c = sym c.in_ok-check.ensures.value

pub prepare_states-requires : goal.prepare_states-requires
prepare_states-requires c =
    list_asked c.args.sheet.now (sym c.in_ok-check.ensures.value) (c.state_count.ensures ∙ ap state_count c.plan_body.ensures) c.in_ok-starts.ensures refl c.prepare_rule-index.ensures

pub returns-then-not-prepare_states : goal.returns-then-not-prepare_states
returns-then-not-prepare_states c =
    list_looped c.args.sheet.now (sym c.in_ok-check.ensures.value) (c.state_count.ensures ∙ ap state_count c.plan_body.ensures) c.in_ok-starts.ensures refl c.if-not-prepare_states.true c.prepare_states.ensures c.args.table.now

pub walk_prepared-requires : goal.walk_prepared-requires
walk_prepared-requires c =
    list_free c.args.sheet.now (sym c.in_ok-check.ensures.value) (c.state_count.ensures ∙ ap state_count c.plan_body.ensures) c.in_ok-starts.ensures refl c.if-not-prepare_states.false c.prepare_states.ensures
