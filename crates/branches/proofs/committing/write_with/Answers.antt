use borrow.Author.Rules.{rules}
use Rattle.text.proofs.Placing.{placed_first}
use Rattle.branches.proofs.Steps.Committing.{no_room, put_whole}
use Rattle.branches.proofs.committing.write_with.Goals as goal

pub returns-then-out-plan : goal.returns-then-out-plan
returns-then-out-plan c = let a = c.args in
    no_room a.sheet.now a.plan.now a.out.now c.actions_body-actions.ensures c.rule_body-rule.ensures c.if-out-plan.true

pub returns : goal.returns
returns c = let a = c.args in
    let written = put_whole a.sheet.now a.plan.now a.out.now c.actions_body-actions.ensures c.rule_body-rule.ensures
    c.if-out-plan.false c.head_of.ensures
    (placed_first c.new-writer.ensures.place c.new-writer.ensures.out_after (c.put.ensures.place, c.put.ensures.out_after))
    (c.put-2.ensures.place, c.put-2.ensures.out_after)
    (c.put-3.ensures.place, c.put-3.ensures.out_after)
    (c.put-4.ensures.place, c.put-4.ensures.out_after) in
    (written.0, search (rules, written.1))
