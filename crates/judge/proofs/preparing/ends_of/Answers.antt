-- `judge::preparing::ends_of` meets its contract.
use Rattle.std.proofs.Common.{◌≡◌, ◌<◌, arith, ap, ◌∙◌, length-set}
use Rattle.sheet.specs.Rule.{binder_count, binder_node, subtree_end}
use Rattle.judge.proofs.Steps.PrepareSteps.{filled_more}
use Rattle.judge.proofs.preparing.ends_of.Goals as goal
use Rattle.judge.proofs.preparing.ends_of.Goals.{After-subtree_end}

module _ (c : After-subtree_end) where
  left : c.loop-k.k < binder_count c.args.rule.now
  left = omega (arith, c.loop-k-test.true, c.binder_count-k-end.ensures)

  end_is : c.subtree_end.result ≡ subtree_end c.args.rule.now (binder_node c.args.rule.now c.loop-k.k)
  end_is = c.subtree_end.ensures ∙ ap (subtree_end c.args.rule.now) (c.requires.binders_are.filled c.loop-k.k left)

pub overflow_cast-ends : goal.overflow_cast-ends
overflow_cast-ends c = omega (arith, end_is c, c.requires.ends_small c.loop-k.k (left c))

pub loop-k-preserved : goal.loop-k-preserved
loop-k-preserved c = (
  length-set c.loop-k.ends c.loop-k.k c.subtree_end.result ∙ c.loop-k.invariant.0,
  filled_more (λ k v. v ≡ subtree_end c.args.rule.now (binder_node c.args.rule.now k)) c.loop-k.ends c.loop-k.k c.subtree_end.result
      (omega (arith, left c, c.requires.few_binders, c.loop-k.invariant.0)) c.loop-k.invariant.1 (end_is c),
)

pub returns : goal.returns
returns c = record { filled = λ k h. c.loop-k.invariant.1 k (omega (arith, c.loop-k-test.false, c.binder_count-k-end.ensures)) }
