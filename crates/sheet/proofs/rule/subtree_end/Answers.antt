use mathlib.Core.Path.{◌≡◌, refl, ap, ◌∙◌}
use Prim.Native.Nat.{◌+◌, ◌-◌}
use native.Mathlib.Omega.{arith}
use Rattle.sheet.specs.Kinds.{child_count}
use Rattle.sheet.proofs.Steps.Nodes.{end_none, end_childless, end_only, end_second}
use Rattle.sheet.proofs.rule.subtree_end.Goals as goal
use Rattle.sheet.proofs.rule.subtree_end.Goals.{in-1, in_default}

pub loop-step-init : goal.loop-step-init
loop-step-init c = (omega arith, omega arith, rw c.from-at.ensures refl)

pub returns-in-0 : goal.returns-in-0
returns-in-0 c =
    let k = c.child_count.ensures ∙ ap child_count c.narrow_at.ensures in
    end_childless _ _ _ (omega arith) (omega (arith, k)) ∙ c.loop-step.invariant.2 ∙ rw c.from-at.ensures refl

pub loop-step-preserved : goal.loop-step-preserved
loop-step-preserved c =
    let k = c.child_count.ensures ∙ ap child_count c.narrow_at.ensures in
    let left : 64 - (c.loop-step._step + 1) ≡ 64 - c.loop-step._step - 1 = omega arith in
    let known = c.loop-step.invariant.2 in
    elim c.match-child_count.branch [
      | in-1 w ↦ (omega arith, omega (arith, w.at-is), rw (left, w.at-is) (end_only _ _ _ (omega arith) (omega (arith, k, w.in-1.is)) ∙ known))
      | in_default w ↦ (
        omega arith,
        omega (arith, w.at-is),
        rw (left, w.at-is, w.byte_at-at.ensures.0) (end_second _ _ _ (omega arith) (λ q. omega (arith, k)) (λ q. omega (arith, k)) ∙ known),
      )
    ]

pub returns : goal.returns
returns c =
    let z : 64 - c.loop-step._step ≡ 0 = omega arith in
    end_none _ _ ∙ ((rw z at c.loop-step.invariant.2) ∙ rw c.from-at.ensures refl)
