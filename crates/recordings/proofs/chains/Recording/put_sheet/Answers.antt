use Prim.Native.Nat.{ℕ}
use mathlib.Core.Path.{ap, ap₂, ◌∙◌}
use borrow.Author.Rules.{rules}
use Rattle.text.specs.Placing.{place_after, buffer_after}
use native.Mathlib.Omega.{arith}
use lib.ListN.{length}
use Rattle.sheet.specs.Plan.{action_count}
use Rattle.recordings.specs.Internal.Chains.{chain_head}
use Rattle.recordings.proofs.Steps.Chaining.{bytes_short, sizes, five_put}
use Rattle.recordings.proofs.chains.Recording.put_sheet.Goals as goal

pub overflow_cast-self : goal.overflow_cast-self
overflow_cast-self c = omega (arith, bytes_short c.args.self.sheet.now c.args.self.run.now c.args.self.chain.now c.args.self.judgeable)

pub overflow_cast-actions : goal.overflow_cast-actions
overflow_cast-actions c = omega (arith, ap (length {A = ℕ}) c.actions_body-actions.ensures, (sizes c.args.self.sheet.now c.args.self.run.now c.args.self.chain.now c.args.self.judgeable).actions_most)

pub overflow_cast-rule : goal.overflow_cast-rule
overflow_cast-rule c = omega (arith, ap (length {A = ℕ}) c.rule_body-rule.ensures, (sizes c.args.self.sheet.now c.args.self.run.now c.args.self.chain.now c.args.self.judgeable).rule_most)

pub returns : goal.returns
returns c =
    let A = c.action_count.ensures ∙ ap action_count c.plan_body.ensures in
    let put =
    five_put c.args.self.sheet.now c.args.self.run.now c.args.self.chain.now c.args.self.judgeable c.actions_body-actions.ensures c.rule_body-rule.ensures
    c.head_of-head.ensures (c.chain_head-start.ensures ∙ ap (λ (n : ℕ). chain_head n (length c.args.self.run.now)) A) c.args.room.now c.requires
    (c.put.ensures.place ∙ ap₂ (place_after c.head_of-head.result) c.new-writer.ensures.place c.new-writer.ensures.out_after, c.put.ensures.out_after ∙ ap₂ (buffer_after c.head_of-head.result) c.new-writer.ensures.place c.new-writer.ensures.out_after)
    (c.put-2.ensures.place, c.put-2.ensures.out_after) (c.put-3.ensures.place, c.put-3.ensures.out_after)
    (c.put-4.ensures.place, c.put-4.ensures.out_after) (c.put-5.ensures.place, c.put-5.ensures.out_after) in
    (put.0, search (rules, put.1))
