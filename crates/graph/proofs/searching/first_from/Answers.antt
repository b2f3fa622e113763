use native.Mathlib.Omega.{arith}
use Prim.Native.Nat.{◌+◌, ◌/◌}
use Rattle.graph.proofs.Search.Halving.{held_inside, halving_starts, halving_up, halving_down, halving_ends}
use Rattle.graph.proofs.searching.first_from.Goals as goal

pub loop-low-init : goal.loop-low-init
loop-low-init c = halving_starts _ _ _ c.requires.is_held

pub overflow_add-middle : goal.overflow_add-middle
overflow_add-middle c = omega (arith, c.loop-low.invariant.most, c.requires.is_held, c.requires.few)

pub origin_at-requires : goal.origin_at-requires
origin_at-requires c =
    let l = c.loop-low in
    held_inside c.args.plan.now ((l.low + l.high) / 2) (omega (arith, l.invariant.most))

pub overflow_add-low : goal.overflow_add-low
overflow_add-low c =
    let start = c in
    omega (arith, c.loop-low.invariant.most, start.requires.is_held, start.requires.few)

pub loop-low-preserved-then-origin_at-state : goal.loop-low-preserved-then-origin_at-state
loop-low-preserved-then-origin_at-state c =
    let l = c.loop-low in
    halving_up _ _ _ _ l.invariant (omega arith) (omega (arith, c.origin_at.ensures, c.if-origin_at-state.true))

pub loop-low-preserved : goal.loop-low-preserved
loop-low-preserved c =
    let l = c.loop-low in
    halving_down _ _ _ _ l.invariant (omega arith) (omega (arith, c.origin_at.ensures, c.if-origin_at-state.false))

pub returns : goal.returns
returns c =
    let l = c.loop-low in
    (halving_ends _ _ _ _ l.invariant c.loop-low-test.false, omega (arith, l.invariant.ordered, l.invariant.most, c.requires.is_held))
