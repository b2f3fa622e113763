-- `reference::table1::Judge::some` meets its contract.
use Rattle.std.proofs.Common.{sym, ap, ◌∙◌, arith}
use Rattle.sheet.specs.Plan.{state_count}
use Rattle.sheet.specs.WellFormed.{WellFormedPlan}
use Rattle.sheet.proofs.Acceptance.Parts.{sheet_kept}
use Rattle.reference.proofs.Evaluation.Passing.{from_below, leads_start, leads_more, leads_still}
use Rattle.reference.proofs.table1.Judge.some.Goals as goal
use Rattle.reference.proofs.table1.Judge.some.Goals.{After-plan_body-plan, then-has_bit+then-contains, else-has_bit, else-has_bit-via-then-has_bit+else-contains, else-has_bit-via-else-has_bit}

module _ (c : After-plan_body-plan) where
  kept : WellFormedPlan c.plan_body-plan.result.now
  kept = rw c.plan_body-plan.ensures (sheet_kept _ c.args.self.now.accepted).bodies_kept.plan_kept

pub loop-i-init : goal.loop-i-init
loop-i-init c = rw c.none-found.ensures (leads_start _ _ _ _)

pub with-found-requires : goal.with-found-requires
with-found-requires c =
    let k = from_below _ c.args.self.now.masks c.args.entry c.args.states (kept (goal.at.with-found-requires c).After-plan_body-plan) c.loop-i.i
    (omega arith) _ c.transition-t.ensures in
    omega (arith, ap state_count c.plan_body-plan.ensures, c.args.self.now.few)

pub loop-i-preserved : goal.loop-i-preserved
loop-i-preserved c =
    let of_plan = kept (goal.at.loop-i-preserved c).After-plan_body-plan in
    elim c.if-has_bit.branch [
      | then-has_bit+then-contains w ↦
          leads_more _ _ _ _ of_plan _ (omega arith) _ c.loop-i.invariant _ c.transition-t.ensures
          (rw (← c.from.ensures) (sym c.has_bit.ensures ∙ w.if-has_bit.true)) (sym w.contains.ensures ∙ w.if-contains.true) _ (w.found-is ∙ w.with-found.ensures)
      | else-has_bit w ↦
          rw w.found-is
          (leads_still _ _ _ _ of_plan _ (omega arith) _ c.loop-i.invariant _ c.transition-t.ensures
          (elim w.else-has_bit.branch [
            | else-has_bit-via-then-has_bit+else-contains v ↦ (λ m k. cc)
            | else-has_bit-via-else-has_bit v ↦ (λ m k. cc)
          ]))
    ]
