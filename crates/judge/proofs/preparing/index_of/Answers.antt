-- `judge::preparing::index_of` meets its contract.
use Rattle.std.proofs.Common.{ℕ, ◌+◌, length, ap, ◌∙◌, subst, List, arith}
use Rattle.sheet.specs.Rule.{node_count, binder_count}
use Rattle.sheet.proofs.Acceptance.Parts.{rule_kept, offset_is, offset_small}
use Rattle.graph.proofs.Search.Retaining.{blank_sized}
use Rattle.judge.specs.Internal.Preparing.{Binders}
use Rattle.judge.proofs.Steps.PrepareSteps.{binders_asked}
use Rattle.judge.proofs.preparing.index_of.Goals as goal

pub binders_of-requires : goal.binders_of-requires
binders_of-requires c = binders_asked c.args.sheet.now c.requires c.rule_body-rule.ensures

pub overflow_add-result-3 : goal.overflow_add-result-3
overflow_add-result-3 c =
    omega (arith, c.binder_count.ensures ∙ ap binder_count c.rule_body-rule.ensures, (rule_kept c.args.sheet.now c.requires).few_binders)

pub returns : goal.returns
returns c =
    let s = c.args.sheet.now in
    let r = c.rule_body-rule.ensures in
    record {
      size = blank_sized c.new.ensures;
      offset_is = omega (arith, offset_is s c.requires, offset_small s c.requires, ap length c.plan_body.ensures, ap length c.actions_body.ensures);
      nodes_are = c.node_count.ensures ∙ ap node_count r;
      marks_are = ap (λ (n : ℕ). n + 1) (c.binder_count.ensures ∙ ap binder_count r);
      binders_are = subst (λ (x : List ℕ). Binders x c.binders_of.result) r c.binders_of.ensures;
    }
