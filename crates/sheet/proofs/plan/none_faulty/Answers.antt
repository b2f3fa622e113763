use native.Mathlib.Omega.{arith}
use mathlib.Core.Path.{◌≡◌, refl, sym, ◌∙◌}
use Prim.Native.Nat.{◌+◌, ◌-◌, ◌*◌, ◌≤◌}
use borrow.Author.Tests.{leb-true}
use Rattle.std.proofs.Common.{rules}
use Rattle.sheet.specs.Internal.Order.{faulty_elsewhere}
use Rattle.sheet.proofs.Steps.Order.{climb_start, climb_next, climb_end, next_floor}
use Rattle.sheet.proofs.plan.none_faulty.Goals as goal
use Rattle.sheet.proofs.plan.none_faulty.Goals.{then-count-eq1+in-Some-rise-2, else-count-eq1}

pub loop-i-init : goal.loop-i-init
loop-i-init c = (omega arith, climb_start _ (λ k. (c.type_inv.p k).fits))

pub rise-requires : goal.rise-requires
rise-requires c = record {
  states_are = search rules;
  actions_are = search rules;
  floor_is = c.loop-i.invariant.1.floor_is;
  inside = omega arith;
  small = omega arith;
}

pub rise-requires-in-loop-i : goal.rise-requires-in-loop-i
rise-requires-in-loop-i c = record {
  states_are = search rules;
  actions_are = search rules;
  floor_is = next_floor faulty_elsewhere _ _ _ (sym c.in-Some.is ∙ c.rise.ensures);
  inside = omega arith;
  small = omega arith;
}

pub rise-requires-then-count-eq1 : goal.rise-requires-then-count-eq1
rise-requires-then-count-eq1 c =
    let last : 2 * c.loop-i.i ≡ c.word_at-count.result - 1 = omega arith in
    record {
      states_are = search rules;
      actions_are = search rules;
      floor_is = rw (← last) c.loop-i.invariant.1.floor_is;
      inside = omega arith;
      small = omega arith;
    }

pub loop-i-preserved : goal.loop-i-preserved
loop-i-preserved c =
    let middle = climb_next c.loop-i.invariant.1 _ (omega arith) (sym c.in-Some.is ∙ c.rise.ensures) in
    let e : 2 * (c.loop-i.i + 1) ≡ 2 * c.loop-i.i + 1 + 1 = omega arith in
    (omega arith, rw e (climb_next middle _ (omega arith) (sym c.in-Some-rise.is ∙ c.rise-in-loop-i.ensures)))

pub returns : goal.returns
returns c e =
    let low : c.if-count-eq1.floor ≤ c.key_of.result = leb-true _ _ e in
    elim c.if-count-eq1.branch [
      | then-count-eq1+in-Some-rise-2 w ↦
          let last : 2 * c.loop-i.i ≡ c.word_at-count.result - 1 = omega arith in
          climb_end (climb_next c.loop-i.invariant.1 _ (omega arith) (sym w.in-Some-rise-2.is ∙ (w.rise-then-count-eq1.ensures ∙ rw last refl))) (omega arith) (omega (arith, w.floor-is))
      | else-count-eq1 w ↦ climb_end c.loop-i.invariant.1 (omega arith) (omega (arith, w.floor-is))
    ]
