-- `judge::preparing::prepare_states` meets its contract.
use Rattle.std.proofs.Common.{subst, refl, arith}
use Rattle.graph.specs.Explored.{ExploredAll}
use Rattle.sheet.specs.Contents.{plan_body}
use Rattle.judge.proofs.Steps.PrepareSteps.{masks_on}
use Rattle.judge.proofs.Steps.PrepareAudit.{searched_all, states_looped, states_told}
use Rattle.judge.proofs.preparing.prepare_states.Goals as goal
use Rattle.judge.proofs.preparing.prepare_states.Goals.{After-explore_all}

module _ (c : After-explore_all) where
  right : ExploredAll (plan_body c.args.sheet.now) c.args.index.now.plan c.explore_all.new.index c.args.starts.now c.explore_all.result
  right =
      searched_all c.requires c.plan_body-plan.ensures (λ i. omega (arith, c.type_inv.sheet i)) c.explore_all.ensures.value
      c.explore_all.ensures.index_after

pub returns-then-not-explore_all : goal.returns-then-not-explore_all
returns-then-not-explore_all c =
    states_looped c.requires (subst (ExploredAll _ _ _ _) c.if-not-explore_all.true (right (goal.at.returns-then-not-explore_all c).After-explore_all))

pub returns : goal.returns
returns c =
    let r = c.requires.rule_told in
    let x = subst (ExploredAll _ _ _ _) c.if-not-explore_all.false (right (goal.at.returns c).After-explore_all) in
    states_told c.requires
    (record {
      headed = record {
        size = x.size refl;
        offset_is = r.headed.offset_is;
        nodes_are = r.headed.nodes_are;
        marks_are = r.headed.marks_are;
        binders_are = r.headed.binders_are;
      };
      ends_are = r.ends_are;
    })
    x (masks_on c.args.sheet.now c.plan_body-plan.ensures c.actions_body.ensures c.put_masks.ensures)
