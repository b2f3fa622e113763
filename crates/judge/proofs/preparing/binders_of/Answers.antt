-- `judge::preparing::binders_of` meets its contract.
use Rattle.std.proofs.Common.{◌≡◌, ◌+◌, ◌<◌, arith, sym, refl, ◌∙◌, true, length-set}
use Rattle.sheet.specs.Rule.{node_count, binder_node, is_binder}
use Rattle.sheet.proofs.Nodes.Binders.{binder_node_lem, binders_rise}
use Rattle.judge.proofs.Steps.PrepareSteps.{filled_more}
use Rattle.judge.proofs.Steps.BinderSteps.{passed_none, passed_other, passed_binder, binds}
use Rattle.judge.proofs.preparing.binders_of.Goals as goal
use Rattle.judge.proofs.preparing.binders_of.Goals.{After-is_binder, then-is_binder, else-is_binder}

pub loop-n-init : goal.loop-n-init
loop-n-init c = (refl, passed_none c.args.rule.now, λ k h. absurd (omega arith))

-- node n is a binder
module _ (c : After-is_binder) (e : c.is_binder.result ≡ true) where
  among : c.loop-n.n < node_count c.args.rule.now
  among = omega (arith, c.loop-n-test.true, c.node_count-n-end.ensures)

  is : is_binder c.args.rule.now c.loop-n.n ≡ true
  is = sym c.is_binder.ensures ∙ e

  one_of_six : c.loop-n.k < 6
  one_of_six =
      omega (
        arith,
        passed_binder _ _ _ c.loop-n.invariant.1 among is,
        binders_rise c.args.rule.now (c.loop-n.n + 1) (node_count c.args.rule.now) (omega (arith, among)),
        c.requires.few_binders,
      )

pub bounds-binders-k : goal.bounds-binders-k
bounds-binders-k c = one_of_six (goal.at.bounds-binders-k c).After-is_binder c.if-is_binder.true

pub overflow_add-k : goal.overflow_add-k
overflow_add-k c = omega (arith, one_of_six (goal.at.overflow_add-k c).After-is_binder c.if-is_binder.true)

pub loop-n-preserved : goal.loop-n-preserved
loop-n-preserved c =
    let before = (goal.at.loop-n-preserved c).After-is_binder in
    let i = c.loop-n.invariant in
    elim c.if-is_binder.branch [
      | then-is_binder w ↦
          let e = w.if-is_binder.true in
          rw (w.k-is, w.binders-is) (
            length-set c.loop-n.binders c.loop-n.k c.loop-n.n ∙ i.0,
            passed_binder _ _ _ i.1 (among before e) (is before e),
            filled_more (λ k v. v ≡ binder_node c.args.rule.now k) c.loop-n.binders c.loop-n.k c.loop-n.n
                (omega (arith, one_of_six before e, i.0)) i.2 (sym (binder_node_lem _ _ _ (binds _ _ _ i.1 (among before e) (is before e)))),
          )
      | else-is_binder w ↦
          rw (w.k-is, w.binders-is) (i.0, passed_other _ _ _ i.1 (sym c.is_binder.ensures ∙ w.if-is_binder.false), i.2)
    ]
