use native.Mathlib.Omega.{arith}
use Prim.Native.Nat.{ℕ}
use mathlib.Core.Path.{◌≡◌, ap, ◌∙◌}
use lib.ListN.{get_or}
use Rattle.sheet.specs.Plan.{origin, label, target}
use Rattle.sheet.specs.declared.Transition.{Transition}
use Rattle.closest.proofs.Ways.Within.{way_below}
use Rattle.closest.proofs.Traces.Backwards.{filling_starts, last, stored, filling_on, filling_ends}
use Rattle.closest.proofs.tracing.put_way.Goals as goal

pub loop-left-init : goal.loop-left-init
loop-left-init c = rw c.from-left.ensures (filling_starts c.requires)

pub offset_bounds-lasts-from : goal.offset_bounds-lasts-from
offset_bounds-lasts-from c = let k = c.requires.kept in omega (arith, c.from.ensures, way_below c.args.plan.now k c.loop-left.invariant.counted.way, k.few_states)

pub bounds-lasts-from : goal.bounds-lasts-from
bounds-lasts-from c = let k = c.requires.kept in omega (arith, c.from.ensures, way_below c.args.plan.now k c.loop-left.invariant.counted.way, k.few_states)

pub loop-left-preserved : goal.loop-left-preserved
loop-left-preserved c =
    let w = c.loop-left.invariant in
    let h = c.loop-left-test.true in
    let p = c.args.plan.now in
    let e : get_or c.args.lasts.now c.from.result 0 ≡ last w h = ap (λ (u : ℕ). get_or c.args.lasts.now u 0) c.from.ensures ∙ stored w h c.requires.lasts_right in
    filling_on w h _ _ _
    (ap (λ (x : Transition). x.from.0) c.transition-last.ensures ∙ ap (origin p) e)
    (ap (λ (x : Transition). x.action.0) c.transition-last.ensures ∙ ap (label p) e)
    (ap (λ (x : Transition). x.to.0) c.transition-last.ensures ∙ ap (target p) e)
    c.copy_from_slice.ensures.after

pub returns : goal.returns
returns c = filling_ends c.loop-left.invariant (omega arith)
