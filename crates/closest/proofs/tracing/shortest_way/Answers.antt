-- `closest::tracing::shortest_way` meets its contract.
use native.Mathlib.Omega.{arith}
use Rattle.std.proofs.Common.{sym}
use mathlib.Core.Path.{◌≡◌, ap, subst, ◌∙◌}
use mathlib.Core.List.{List}
use Prim.Native.Nat.{ℕ, ◌<◌}
use lib.ListN.{get_or}
use Rattle.std.specs.Prelude.{None, Ok}
use Rattle.std.proofs.lemmas.Result.{err_from_is_err_and}
use Rattle.sheet.specs.Contents.{plan_body}
use Rattle.sheet.specs.Plan.{state_count}
use Rattle.sheet.specs.Reading.{sheet_check}
use Rattle.sheet.specs.WellFormed.{WellFormedPlan}
use Rattle.sheet.proofs.Acceptance.Parts.{plan_kept}
use Rattle.closest.specs.Steps.{Steps}
use Rattle.closest.specs.Internal.Distances.{StepsFound}
use Rattle.closest.proofs.Traces.Backwards.{written}
use Rattle.closest.proofs.Traces.Traces.{traces_unread, traces_no_state, traces_unreached, traces_short, traces_way}
use Rattle.closest.proofs.Ways.Within.{steps_at}
use Rattle.closest.proofs.tracing.shortest_way.Goals as goal
use Rattle.closest.proofs.tracing.shortest_way.Goals.{After-plan_body-plan, After-find_distances-distances, In-Some, Start}

pub returns-in_err-check : goal.returns-in_err-check
returns-in_err-check c =
    let p = err_from_is_err_and c.from_residual.result c.from_residual.ensures.1 in
    rw (p.1, p.2) (traces_unread c.args.sheet.now c.args.state.0 (sym c.in_err-check.ensures.value) c.args.out.now)

-- the plan
module _ (c : After-plan_body-plan) where
  abbrev start : Start
  start = (goal.at.After-plan_body-plan c).Start

  abbrev sheet : List ℕ
  sheet = start.args.sheet.now

  accepted : sheet_check sheet ≡ Ok tt
  accepted = sym c.in_ok-check.ensures.value

  kept : WellFormedPlan c.plan_body-plan.result.now
  kept = subst WellFormedPlan (sym c.plan_body-plan.ensures) (plan_kept sheet accepted)

pub returns-then-state_count-state : goal.returns-then-state_count-state
returns-then-state_count-state c =
    let b = (goal.at.returns-then-state_count-state c).After-plan_body-plan in
    traces_no_state (sheet b) c.args.state.0 (accepted b) (omega (arith, c.if-state_count-state.true, c.state_count.ensures ∙ ap state_count c.plan_body-plan.ensures)) c.args.out.now

pub find_distances-distances-requires : goal.find_distances-distances-requires
find_distances-distances-requires c = kept (goal.at.find_distances-distances-requires c).After-plan_body-plan

-- the steps of the states
module _ (c : After-find_distances-distances) where
  abbrev before : After-plan_body-plan
  before = (goal.at.After-find_distances-distances c).After-plan_body-plan

  abbrev state : ℕ
  state = (start before).args.state.0

  abbrev plan : List ℕ
  plan = plan_body (sheet before)

  below : state < state_count plan
  below = omega (arith, c.if-state_count-state.false, c.state_count.ensures ∙ ap state_count before.plan_body-plan.ensures)

  found : StepsFound plan c.find_distances-distances.result
  found = subst (λ (p : List ℕ). StepsFound p c.find_distances-distances.result) before.plan_body-plan.ensures c.find_distances-distances.ensures

pub bounds : goal.bounds
bounds c =
    let b = (goal.at.bounds c).After-find_distances-distances in
    omega (arith, c.from.ensures, below b, (plan_kept (sheet (before b)) (accepted (before b))).few_states)

pub returns-in_default : goal.returns-in_default
returns-in_default c =
    let b = (goal.at.returns-in_default c).After-find_distances-distances in
    traces_unreached (sheet (before b)) (state b) (accepted (before b)) (below b)
    (λ n d. c.in_default.not-Some n (ap (λ (u : ℕ). get_or c.find_distances-distances.result u None) c.from.ensures ∙ (found b).all (state b) n d)) c.args.out.now

-- the steps of the state
module _ (c : In-Some) where
  abbrev known : After-find_distances-distances
  known = (goal.at.In-Some c).After-find_distances-distances

  counted : Steps (plan known) (state known) c.in-Some.steps
  counted = (found known).right (state known) c.in-Some.steps (ap (λ (u : ℕ). get_or known.find_distances-distances.result u None) (sym c.from.ensures) ∙ c.in-Some.is)

pub overflow_mul-from : goal.overflow_mul-from
overflow_mul-from c =
    let b = (goal.at.overflow_mul-from c).In-Some in
    let k = plan_kept (sheet (before (known b))) (accepted (before (known b))) in
    omega (arith, c.from-2.ensures, (steps_at (plan (known b)) k (state (known b)) c.in-Some.steps (counted b)).0, k.few_states)

pub returns-then-out-from : goal.returns-then-out-from
returns-then-out-from c =
    let b = (goal.at.returns-then-out-from c).In-Some in
    let k = known b in
    traces_short (sheet (before k)) (state k) (accepted (before k)) (below k) c.in-Some.steps (counted b) c.args.out.now (omega (arith, c.if-out-from.true, c.from-2.ensures))

pub find_lasts-requires : goal.find_lasts-requires
find_lasts-requires c = (kept (goal.at.find_lasts-requires c).After-plan_body-plan, c.find_distances-distances.ensures)

pub put_way-requires : goal.put_way-requires
put_way-requires c =
    let b = (goal.at.put_way-requires c).In-Some in
    record {
      kept = kept (before (known b));
      lasts_right = c.find_lasts.ensures;
      counted = subst (λ (p : List ℕ). Steps p c.args.state.0 c.in-Some.steps) (sym c.plan_body-plan.ensures) (counted b);
      room = omega (arith, c.if-out-from.false, c.from-2.ensures);
    }

pub returns : goal.returns
returns c =
    let b = (goal.at.returns c).In-Some in
    let k = known b in
    let out = c.args.out.now in
    traces_way (sheet (before k)) (state k) (accepted (before k)) (below k) c.in-Some.steps (counted b) out (omega (arith, c.if-out-from.false, c.from-2.ensures))
    (c.put_way.ensures ∙ ap (λ (p : List ℕ). written p c.in-Some.steps (state k) out) c.plan_body-plan.ensures)
