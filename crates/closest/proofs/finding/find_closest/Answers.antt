-- `closest::finding::find_closest` meets its contract.
use Rattle.std.proofs.Common.{sym}
use mathlib.Core.Path.{◌≡◌, ap, subst, ◌∙◌}
use mathlib.Core.List.{List}
use Prim.Native.Nat.{ℕ}
use Rattle.std.specs.Prelude.{Ok}
use Rattle.std.proofs.lemmas.Result.{err_from_is_err_and}
use Rattle.sheet.specs.Contents.{plan_body}
use Rattle.sheet.specs.Reading.{sheet_check}
use Rattle.sheet.specs.WellFormed.{WellFormedPlan}
use Rattle.sheet.proofs.Acceptance.Parts.{plan_kept}
use Rattle.judge.specs.InTurn.{QueriesInTurn}
use Rattle.closest.specs.Finding.{states_of, states_in_order}
use Rattle.closest.specs.Steps.{reachable_states}
use Rattle.closest.specs.Internal.Distances.{StepsFound}
use Rattle.closest.proofs.Queries.Answers.{finds_unread, finds_refused, finds_answer, few_in_order}
use Rattle.closest.proofs.finding.find_closest.Goals as goal
use Rattle.closest.proofs.finding.find_closest.Goals.{After-plan_body-plan, After-order_states-order, After-query_in_turn}

pub returns-in_err-check : goal.returns-in_err-check
returns-in_err-check c =
    let p = err_from_is_err_and c.from_residual.result c.from_residual.ensures.1 in
    rw (p.1, p.2) (finds_unread c.args.sheet.now c.args.table.now (sym c.in_err-check.ensures.value))

-- the plan
module _ (c : After-plan_body-plan) where
  abbrev sheet : List ℕ
  sheet = c.args.sheet.now

  accepted : sheet_check sheet ≡ Ok tt
  accepted = sym c.in_ok-check.ensures.value

  kept : WellFormedPlan c.plan_body-plan.result.now
  kept = subst WellFormedPlan (sym c.plan_body-plan.ensures) (plan_kept sheet accepted)

pub find_distances-distances-requires : goal.find_distances-distances-requires
find_distances-distances-requires c = kept c

pub order_states-order-requires : goal.order_states-order-requires
order_states-order-requires c = (kept (goal.at.order_states-order-requires c).After-plan_body-plan, c.find_distances-distances.ensures)

-- the states in order
module _ (c : After-order_states-order) where
  abbrev before : After-plan_body-plan
  before = (goal.at.After-order_states-order c).After-plan_body-plan

  in_order : c.order_states-order.result ≡ states_in_order (sheet before)
  in_order = c.order_states-order.ensures ∙ ap (λ (p : List ℕ). states_of (reachable_states p)) before.plan_body-plan.ensures

  found : StepsFound (plan_body (sheet before)) c.find_distances-distances.result
  found = subst (λ (p : List ℕ). StepsFound p c.find_distances-distances.result) before.plan_body-plan.ensures c.find_distances-distances.ensures

pub failing-requires : goal.failing-requires
failing-requires c =
    let b = (goal.at.failing-requires c).After-order_states-order in
    rw (in_order b) (few_in_order (sheet (before b)) (accepted (before b)))

-- the call of the judge
module _ (c : After-query_in_turn) where
  abbrev ordered : After-order_states-order
  ordered = (goal.at.After-query_in_turn c).After-order_states-order

  called : QueriesInTurn (sheet (before ordered)) (states_in_order (sheet (before ordered))) c.args.table.now c.query_in_turn.result c.query_in_turn.new.table
  called = subst (λ (l : List ℕ). QueriesInTurn (sheet (before ordered)) l c.args.table.now c.query_in_turn.result c.query_in_turn.new.table) (c.as_slice.ensures ∙ in_order ordered) c.query_in_turn.ensures

pub returns-in_err-judged : goal.returns-in_err-judged
returns-in_err-judged c =
    let b = (goal.at.returns-in_err-judged c).After-query_in_turn in
    let o = ordered b in
    let p = err_from_is_err_and c.from_residual-in_err-judged.result c.from_residual-in_err-judged.ensures.1 in
    rw (p.1, p.2) (finds_refused (sheet (before o)) (accepted (before o)) c.args.table.now (called b) c.in_err-judged.was)

pub returns : goal.returns
returns c =
    let b = (goal.at.returns c).After-query_in_turn in
    let o = ordered b in
    rw (c.failing.ensures, in_order o) (finds_answer (sheet (before o)) (accepted (before o)) c.args.table.now (called b) (found o) c.in_ok-judged.was)
