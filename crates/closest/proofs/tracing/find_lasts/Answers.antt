use native.Mathlib.Omega.{arith}
use Prim.Native.Nat.{◌-◌}
use mathlib.Core.Path.{sym, ap, ◌∙◌}
use Rattle.sheet.specs.declared.Transition.{Transition}
use Rattle.closest.proofs.Traces.Lasts.{storing_starts, storing_unreached, storing_other, storing_nearer, storing_ends}
use Rattle.closest.proofs.Ways.Within.{steps_at}
use Rattle.closest.proofs.tracing.find_lasts.Goals as goal

pub loop-i-init : goal.loop-i-init
loop-i-init c = rw c.transition_count-i.ensures (storing_starts c.args.plan.now)

pub overflow_add-before : goal.overflow_add-before
overflow_add-before c =
    let k = c.requires.0 in
    omega (arith, (steps_at c.args.plan.now k _ c.in-Some.before (c.requires.1.right _ c.in-Some.before c.in-Some.is)).0, k.few_states)

pub loop-i-preserved-then-eq : goal.loop-i-preserved-then-eq
loop-i-preserved-then-eq c =
    storing_nearer c.loop-i.invariant (c.loop-i.i - 1) (omega (arith, c.loop-i-test.true)) c.requires.1 c.from.result c.from-to.result
    (c.from.ensures ∙ ap (λ (x : Transition). x.from.0) c.transition-last.ensures) (c.from-to.ensures ∙ ap (λ (x : Transition). x.to.0) c.transition-last.ensures)
    c.in-Some.before c.in-Some.is
    (let k = c.requires.0 in omega (arith, c.from-to.ensures, ap (λ (x : Transition). x.to.0) c.transition-last.ensures, k.target_below (c.loop-i.i - 1) (omega (arith, c.loop-i-test.true, c.loop-i.invariant.within)), k.few_states)) (sym c.eq.ensures ∙ c.if-eq.true)

pub loop-i-preserved-else-eq : goal.loop-i-preserved-else-eq
loop-i-preserved-else-eq c =
    storing_other c.loop-i.invariant (c.loop-i.i - 1) (omega (arith, c.loop-i-test.true)) c.requires.1 c.from.result c.from-to.result
    (c.from.ensures ∙ ap (λ (x : Transition). x.from.0) c.transition-last.ensures) (c.from-to.ensures ∙ ap (λ (x : Transition). x.to.0) c.transition-last.ensures)
    c.in-Some.before c.in-Some.is (sym c.eq.ensures ∙ c.if-eq.false)

pub loop-i-preserved : goal.loop-i-preserved
loop-i-preserved c =
    storing_unreached c.loop-i.invariant (c.loop-i.i - 1) (omega (arith, c.loop-i-test.true)) c.requires.1 c.from.result c.from-to.result
    (c.from.ensures ∙ ap (λ (x : Transition). x.from.0) c.transition-last.ensures) (c.from-to.ensures ∙ ap (λ (x : Transition). x.to.0) c.transition-last.ensures)
    c.in_default.not-Some

pub returns : goal.returns
returns c = storing_ends c.loop-i.invariant (omega arith)
