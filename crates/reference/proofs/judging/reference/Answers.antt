-- `reference::judging::reference` meets its contract.
use Rattle.std.proofs.Common.{arith, sym, ◌∙◌}
use Rattle.std.proofs.lemmas.Result.{err_from_is_err_and}
use Rattle.reference.proofs.Answers.WordAnswers.{answer_refused, answer_large, start_asked, judge_few, judge_met, judge_whole, start, answer_word_lem}
use Rattle.reference.proofs.judging.reference.Goals as goal

pub returns-in_err-check : goal.returns-in_err-check
returns-in_err-check c =
    let p = err_from_is_err_and c.from_residual.result c.from_residual.ensures.1 in
    rw (p.1, p.2) (answer_refused _ _ (sym c.check.ensures.value ∙ c.in_err-check.was))

pub returns-then-states-gt64 : goal.returns-then-states-gt64
returns-then-states-gt64 c =
    answer_large _ (sym c.check.ensures.value ∙ c.in_ok-check.was) _ c.plan_body-plan.ensures _ c.state_count-states.ensures (omega arith)

pub restart-requires : goal.restart-requires
restart-requires c = start_asked _ (sym c.check.ensures.value ∙ c.in_ok-check.was) _ c.rule_body.ensures

pub invariant_of-judge : goal.invariant_of-judge
invariant_of-judge c =
    let accepted = sym c.check.ensures.value ∙ c.in_ok-check.was in record {
      accepted = accepted;
      few = judge_few _ accepted _ c.plan_body-plan.ensures _ c.state_count-states.ensures (omega arith);
      met = judge_met _ accepted _ c.plan_body-plan.ensures _ c.state_count-states.ensures _ c.actions_body.ensures _ c.action_count.ensures _ c.meetings.ensures;
      whole = judge_whole _ accepted _ c.plan_body-plan.ensures _ c.state_count-states.ensures _ c.all.ensures;
    }

pub evaluate-requires : goal.evaluate-requires
evaluate-requires c =
    start _ (sym c.check.ensures.value ∙ c.in_ok-check.was) _ c.plan_body-plan.ensures _ c.state_count-states.ensures
    (omega arith) _ c.rule_body.ensures _ c.all.ensures _ c.new-context.ensures _ c.restart.ensures

pub returns : goal.returns
returns c =
    rw c.word.ensures
    (answer_word_lem _ (sym c.check.ensures.value ∙ c.in_ok-check.was) _ c.plan_body-plan.ensures _ c.state_count-states.ensures
    (omega arith) _ c.rule_body.ensures _ c.all.ensures _ c.new-context.ensures _ c.restart.ensures _ _ c.evaluate.ensures)
