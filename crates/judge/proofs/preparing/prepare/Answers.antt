-- `judge::preparing::prepare` meets its contract.
use Rattle.std.proofs.Common.{sym, refl, ◌∙◌, subst, true≢false, arith}
use Rattle.graph.specs.Explored.{Explored}
use Rattle.judge.proofs.Steps.PrepareSteps.{searched, masks_on, prepared}
use Rattle.judge.proofs.preparing.prepare.Goals as goal
use Rattle.judge.proofs.preparing.prepare.Goals.{After-explore}
use Rattle.sheet.specs.Contents.{plan_body}

module _ (c : After-explore) where
  right : Explored (plan_body c.args.sheet.now) c.args.index.now.plan c.explore.new.index c.args.state.0 c.explore.result
  right =
      searched c.args.sheet.now c.plan_body-plan.ensures c.requires.0 (λ i. omega (arith, c.type_inv.sheet i)) c.requires.2 c.requires.1.size
      c.explore.ensures.value c.explore.ensures.index_after

pub returns-then-not-explore : goal.returns-then-not-explore
returns-then-not-explore c = record {
  value = sym c.if-not-explore.true ∙ (right (goal.at.returns-then-not-explore c).After-explore).answer;
  prepared = λ e. absurd (true≢false (sym e));
}

pub returns : goal.returns
returns c =
    let x = right (goal.at.returns c).After-explore in
    record {
      value = sym c.if-not-explore.false ∙ x.answer;
      prepared = λ e.
          let y = subst (Explored _ _ _ _) c.if-not-explore.false x in
          let h = c.requires.1 in
          prepared c.args.sheet.now c.requires.0
          (record {
            size = y.size refl;
            offset_is = h.offset_is;
            nodes_are = h.nodes_are;
            marks_are = h.marks_are;
            binders_are = h.binders_are;
          })
          y (masks_on c.args.sheet.now c.plan_body-plan.ensures c.actions_body.ensures c.put_masks.ensures);
    }
