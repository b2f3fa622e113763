-- `graph::loops::find_loop` meets its contract.
use Rattle.std.proofs.Common.{arith, ◌∙◌, sym}
use Rattle.std.proofs.lemmas.Result.{err_from_is_err_and}
use Rattle.graph.proofs.Answers.LoopSearchAnswers.{refused, no_state_holds, looked}
use Rattle.graph.proofs.Search.Retaining.{blank_sized}
use Rattle.graph.proofs.loops.find_loop.Goals as goal

pub returns-in_err-check_plan : goal.returns-in_err-check_plan
returns-in_err-check_plan c =
    let p = err_from_is_err_and c.from_residual.result c.from_residual.ensures.1 in
    let a = refused c.args.plan.now c.args.state.0 c.in_err-check_plan.field-0.0 (sym c.check_plan.ensures.value ∙ c.in_err-check_plan.was) in
    rw (p.1, p.2) (record { value = a.0; result_value = a.1 })

pub returns-then-state_count-state : goal.returns-then-state_count-state
returns-then-state_count-state c =
    let a =
    no_state_holds c.args.plan.now c.args.state.0 (sym c.check_plan.ensures.value ∙ c.in_ok-check_plan.was)
    (omega (arith, c.state_count.ensures))
    in
    record { value = a.0; result_value = a.1 }

pub returns : goal.returns
returns c =
    let a =
    looked c.args.plan.now c.args.state.0 (sym c.check_plan.ensures.value ∙ c.in_ok-check_plan.was) (omega (arith, c.type_inv.plan 1))
    (omega (arith, c.state_count.ensures)) c.new-index.result (blank_sized c.new-index.ensures) c.explore.result c.explore.ensures.value
    in
    record { value = a.0; result_value = a.1 }
