-- The recursion `reference::table1::Judge::evaluate` meets its contract.
use Rattle.std.proofs.Common.{ℕ, arith, sym, ap, ◌∙◌, set}
use borrow.Author.Tests.{eqb-true, eqb-false}
use Rattle.sheet.specs.KindNumbers.{node_kind_number}
use Rattle.reference.proofs.Evaluation.Clauses.{At, at_node, call_first, call_second, call_modal}
use Rattle.reference.proofs.Evaluation.Clauses.{step_false, step_true, step_or, step_and, step_some, step_every, step_variable, step_unknown}
use Rattle.reference.proofs.Evaluation.Rounds.{variable_six, binder_six, restart_asked, going_start, call_binder}
use Rattle.reference.proofs.Evaluation.Reached.{step_least, least_less, least_round, step_greatest, greatest_less, greatest_round}
use Rattle.reference.proofs.table1.Judge.+evaluate.Goals as goal
use Rattle.reference.proofs.table1.Judge.+evaluate.Goals.{After-node-kind}

-- where node n has been read
here : (t : ℕ) (c : After-node-kind t) → At c.args.self.now.sheet.now c.args.self.now.masks c.args.n.0 c.args.context.now c.node-kind.result
here t c = at_node c.args.self.now.accepted c.args.self.now.few c.args.self.now.met c.requires _ c.rule_body-rule.ensures _ c.node-kind.ensures

pub evaluate-requires : goal.evaluate-requires
evaluate-requires t c =
    let m = sym c.in-Ok.ensures ∙ ap node_kind_number c.in-Or.is in
    let k = call_first (here t (goal.at.evaluate-requires t c).After-node-kind) (omega (arith, m)) (omega (arith, m)) in (omega (arith, k.fewer), k.asked)

pub evaluate-requires-in-Or : goal.evaluate-requires-in-Or
evaluate-requires-in-Or t c =
    let m = sym c.in-Ok.ensures ∙ ap node_kind_number c.in-Or.is in
    let k = call_second (here t (goal.at.evaluate-requires-in-Or t c).After-node-kind) (omega (arith, m)) (omega (arith, m)) _ _ c.evaluate.ensures in
    (omega (arith, k.fewer), k.asked)

pub evaluate-requires-in-And : goal.evaluate-requires-in-And
evaluate-requires-in-And t c =
    let m = sym c.in-Ok.ensures ∙ ap node_kind_number c.in-And.is in
    let k = call_first (here t (goal.at.evaluate-requires-in-And t c).After-node-kind) (omega (arith, m)) (omega (arith, m)) in (omega (arith, k.fewer), k.asked)

pub evaluate-requires-in-And-2 : goal.evaluate-requires-in-And-2
evaluate-requires-in-And-2 t c =
    let m = sym c.in-Ok.ensures ∙ ap node_kind_number c.in-And.is in
    let k = call_second (here t (goal.at.evaluate-requires-in-And-2 t c).After-node-kind) (omega (arith, m)) (omega (arith, m)) _ _ c.evaluate-in-And.ensures in
    (omega (arith, k.fewer), k.asked)

pub evaluate-requires-in-Diamond : goal.evaluate-requires-in-Diamond
evaluate-requires-in-Diamond t c =
    let m = sym c.in-Ok.ensures ∙ ap node_kind_number c.in-Diamond.is in
    let k = call_modal (here t (goal.at.evaluate-requires-in-Diamond t c).After-node-kind) (omega (arith, m)) (omega (arith, m)) in (omega (arith, k.fewer), k.asked)

pub evaluate-requires-in-Box : goal.evaluate-requires-in-Box
evaluate-requires-in-Box t c =
    let m = sym c.in-Ok.ensures ∙ ap node_kind_number c.in-Box.is in
    let k = call_modal (here t (goal.at.evaluate-requires-in-Box t c).After-node-kind) (omega (arith, m)) (omega (arith, m)) in (omega (arith, k.fewer), k.asked)

pub set_of-requires : goal.set_of-requires
set_of-requires t c =
    let m = sym c.in-Ok.ensures ∙ ap node_kind_number c.in-Variable.is in
    variable_six (here t (goal.at.set_of-requires t c).After-node-kind) (omega (arith, m))

pub loop-rule-init : goal.loop-rule-init
loop-rule-init t c =
    let m = sym c.in-Ok.ensures ∙ ap node_kind_number c.in-Least.is in
    going_start (here t (goal.at.loop-rule-init t c).After-node-kind) (omega (arith, m)) (omega (arith, m))

pub evaluate-image-requires : goal.evaluate-image-requires
evaluate-image-requires t c =
    let m = sym c.in-Ok.ensures ∙ ap node_kind_number c.in-Least.is in
    let k = call_binder (here t (goal.at.evaluate-image-requires t c).After-node-kind) (omega (arith, m)) (omega (arith, m)) _ c.loop-rule.invariant in
    (omega (arith, k.fewer), k.asked)

pub set_of-states-requires : goal.set_of-states-requires
set_of-states-requires t c =
    let m = sym c.in-Ok.ensures ∙ ap node_kind_number c.in-Least.is in
    binder_six (here t (goal.at.set_of-states-requires t c).After-node-kind) (omega (arith, m)) (omega (arith, m))

pub returns-then-eq : goal.returns-then-eq
returns-then-eq t c =
    let m = sym c.in-Ok.ensures ∙ ap node_kind_number c.in-Least.is in
    step_least (here t (goal.at.returns-then-eq t c).After-node-kind) (omega (arith, m)) (omega (arith, m)) _ c.loop-rule.invariant _ _ c.evaluate-image.ensures _
    c.set_of-states.ensures (omega (arith, m)) (sym c.bitor-next.ensures ∙ eqb-true _ _ (sym c.eq.ensures ∙ c.if-eq.true))

pub put-requires : goal.put-requires
put-requires t c =
    let m = sym c.in-Ok.ensures ∙ ap node_kind_number c.in-Least.is in
    binder_six (here t (goal.at.put-requires t c).After-node-kind) (omega (arith, m)) (omega (arith, m))

pub restart-requires : goal.restart-requires
restart-requires t c =
    let m = sym c.in-Ok.ensures ∙ ap node_kind_number c.in-Least.is in
    restart_asked (here t (goal.at.restart-requires t c).After-node-kind) (omega (arith, m)) (omega (arith, m)) _ c.rule_body-rule.ensures 8 (omega (arith, m)) (omega (arith, m))

pub loop-rule-smaller : goal.loop-rule-smaller
loop-rule-smaller t c =
    let m = sym c.in-Ok.ensures ∙ ap node_kind_number c.in-Least.is in
    least_less (here t (goal.at.loop-rule-smaller t c).After-node-kind) (omega (arith, m)) (omega (arith, m)) _ c.loop-rule.invariant
    _ _ c.evaluate-image.ensures _
    c.set_of-states.ensures (omega (arith, m)) _ _ (c.put.ensures ∙ ap (set c.evaluate-image.new.context c.node-kind.result.x) c.bitor-next.ensures)
    _ c.rule_body-rule.ensures _ c.restart.ensures (λ q. eqb-false _ _ (sym c.eq.ensures ∙ c.if-eq.false) (c.bitor-next.ensures ∙ q))

pub loop-rule-preserved : goal.loop-rule-preserved
loop-rule-preserved t c =
    let m = sym c.in-Ok.ensures ∙ ap node_kind_number c.in-Least.is in
    least_round (here t (goal.at.loop-rule-preserved t c).After-node-kind) (omega (arith, m)) (omega (arith, m)) _ c.loop-rule.invariant
    _ _ c.evaluate-image.ensures _
    c.set_of-states.ensures (omega (arith, m)) _ c.args.self.now.whole
    _ (c.put.ensures ∙ ap (set c.evaluate-image.new.context c.node-kind.result.x) c.bitor-next.ensures) _ c.rule_body-rule.ensures _ c.restart.ensures

pub loop-rule-2-init : goal.loop-rule-2-init
loop-rule-2-init t c =
    let m = sym c.in-Ok.ensures ∙ ap node_kind_number c.in-Greatest.is in
    going_start (here t (goal.at.loop-rule-2-init t c).After-node-kind) (omega (arith, m)) (omega (arith, m))

pub evaluate-image-requires-in-loop-rule-2 : goal.evaluate-image-requires-in-loop-rule-2
evaluate-image-requires-in-loop-rule-2 t c =
    let m = sym c.in-Ok.ensures ∙ ap node_kind_number c.in-Greatest.is in
    let k = call_binder (here t (goal.at.evaluate-image-requires-in-loop-rule-2 t c).After-node-kind) (omega (arith, m)) (omega (arith, m)) _ c.loop-rule-2.invariant in
    (omega (arith, k.fewer), k.asked)

pub set_of-states-requires-in-loop-rule-2 : goal.set_of-states-requires-in-loop-rule-2
set_of-states-requires-in-loop-rule-2 t c =
    let m = sym c.in-Ok.ensures ∙ ap node_kind_number c.in-Greatest.is in
    binder_six (here t (goal.at.set_of-states-requires-in-loop-rule-2 t c).After-node-kind) (omega (arith, m)) (omega (arith, m))

pub returns-then-eq-2 : goal.returns-then-eq-2
returns-then-eq-2 t c =
    let m = sym c.in-Ok.ensures ∙ ap node_kind_number c.in-Greatest.is in
    step_greatest (here t (goal.at.returns-then-eq-2 t c).After-node-kind) (omega (arith, m)) (omega (arith, m)) _ c.loop-rule-2.invariant
    _ _ c.evaluate-image-in-loop-rule-2.ensures _
    c.set_of-states-in-loop-rule-2.ensures (omega (arith, m)) (sym c.bitand-next.ensures ∙ eqb-true _ _ (sym c.eq-in-loop-rule-2.ensures ∙ c.if-eq-2.true))

pub put-requires-in-loop-rule-2 : goal.put-requires-in-loop-rule-2
put-requires-in-loop-rule-2 t c =
    let m = sym c.in-Ok.ensures ∙ ap node_kind_number c.in-Greatest.is in
    binder_six (here t (goal.at.put-requires-in-loop-rule-2 t c).After-node-kind) (omega (arith, m)) (omega (arith, m))

pub restart-requires-in-loop-rule-2 : goal.restart-requires-in-loop-rule-2
restart-requires-in-loop-rule-2 t c =
    let m = sym c.in-Ok.ensures ∙ ap node_kind_number c.in-Greatest.is in
    restart_asked (here t (goal.at.restart-requires-in-loop-rule-2 t c).After-node-kind) (omega (arith, m)) (omega (arith, m)) _ c.rule_body-rule.ensures 7 (omega (arith, m)) (omega (arith, m))

pub loop-rule-2-smaller : goal.loop-rule-2-smaller
loop-rule-2-smaller t c =
    let m = sym c.in-Ok.ensures ∙ ap node_kind_number c.in-Greatest.is in
    greatest_less (here t (goal.at.loop-rule-2-smaller t c).After-node-kind) (omega (arith, m)) (omega (arith, m)) _ c.loop-rule-2.invariant
    _ _ c.evaluate-image-in-loop-rule-2.ensures _
    c.set_of-states-in-loop-rule-2.ensures (omega (arith, m)) _ (c.put-in-loop-rule-2.ensures ∙ ap (set c.evaluate-image-in-loop-rule-2.new.context c.node-kind.result.x) c.bitand-next.ensures)
    _ c.rule_body-rule.ensures _ _ c.none-in-loop-rule-2.ensures c.restart-in-loop-rule-2.ensures
    (λ q. eqb-false _ _ (sym c.eq-in-loop-rule-2.ensures ∙ c.if-eq-2.false) (c.bitand-next.ensures ∙ q))

pub loop-rule-2-preserved : goal.loop-rule-2-preserved
loop-rule-2-preserved t c =
    let m = sym c.in-Ok.ensures ∙ ap node_kind_number c.in-Greatest.is in
    greatest_round (here t (goal.at.loop-rule-2-preserved t c).After-node-kind) (omega (arith, m)) (omega (arith, m)) _ c.loop-rule-2.invariant
    _ _ c.evaluate-image-in-loop-rule-2.ensures _
    c.set_of-states-in-loop-rule-2.ensures (omega (arith, m)) _ (c.put-in-loop-rule-2.ensures ∙ ap (set c.evaluate-image-in-loop-rule-2.new.context c.node-kind.result.x) c.bitand-next.ensures)
    _ c.rule_body-rule.ensures _ _ c.none-in-loop-rule-2.ensures c.restart-in-loop-rule-2.ensures

pub returns-in-False : goal.returns-in-False
returns-in-False t c =
    let m = sym c.in-Ok.ensures ∙ ap node_kind_number c.in-False.is in
    rw c.none-in-False.ensures (step_false (here t (goal.at.returns-in-False t c).After-node-kind) (omega (arith, m)))

pub returns-in-True : goal.returns-in-True
returns-in-True t c =
    let m = sym c.in-Ok.ensures ∙ ap node_kind_number c.in-True.is in
    step_true (here t (goal.at.returns-in-True t c).After-node-kind) (omega (arith, m)) _ c.args.self.now.whole

pub returns-in-Or : goal.returns-in-Or
returns-in-Or t c =
    let m = sym c.in-Ok.ensures ∙ ap node_kind_number c.in-Or.is in
    rw c.bitor.ensures
    (step_or (here t (goal.at.returns-in-Or t c).After-node-kind) (omega (arith, m)) (omega (arith, m)) _ _ c.evaluate.ensures _ _ c.evaluate-in-Or.ensures (omega (arith, m)))

pub returns-in-And : goal.returns-in-And
returns-in-And t c =
    let m = sym c.in-Ok.ensures ∙ ap node_kind_number c.in-And.is in
    rw c.bitand.ensures
    (step_and (here t (goal.at.returns-in-And t c).After-node-kind) (omega (arith, m)) (omega (arith, m)) _ _ c.evaluate-in-And.ensures _ _ c.evaluate-in-And-2.ensures (omega (arith, m)))

pub returns-in-Diamond : goal.returns-in-Diamond
returns-in-Diamond t c =
    let m = sym c.in-Ok.ensures ∙ ap node_kind_number c.in-Diamond.is in
    step_some (here t (goal.at.returns-in-Diamond t c).After-node-kind) (omega (arith, m)) (omega (arith, m)) _ _ c.evaluate-in-Diamond.ensures (omega (arith, m)) _ c.some.ensures

pub returns-in-Box : goal.returns-in-Box
returns-in-Box t c =
    let m = sym c.in-Ok.ensures ∙ ap node_kind_number c.in-Box.is in
    rw c.bitxor-in-Box.ensures
    (step_every (here t (goal.at.returns-in-Box t c).After-node-kind) (omega (arith, m)) (omega (arith, m)) _ _ c.evaluate-in-Box.ensures
    (omega (arith, m)) _ _ c.args.self.now.whole (rw (← c.bitxor.ensures) c.some-in-Box.ensures))

pub returns-in-Variable : goal.returns-in-Variable
returns-in-Variable t c =
    let m = sym c.in-Ok.ensures ∙ ap node_kind_number c.in-Variable.is in
    step_variable (here t (goal.at.returns-in-Variable t c).After-node-kind) (omega (arith, m)) _ c.set_of.ensures

pub returns-in_default : goal.returns-in_default
returns-in_default t c = step_unknown (here t (goal.at.returns-in_default t c).After-node-kind) (omega (arith, c.in_default.ensures.1)) _
