use native.Mathlib.Omega.{arith}
use mathlib.Core.Path.{◌≡◌, refl, sym, ◌∙◌}
use Rattle.sheet.specs.Internal.Order.{floor_at}
use Rattle.sheet.specs.Plan.{transition_faulty}
use Rattle.sheet.proofs.Checks.Seeking.{seek_start, seek_here, seek_next, seek_end}
use Rattle.sheet.proofs.Steps.Order.{stopped, stepped, next_floor}
use Rattle.sheet.proofs.plan.lowest_faulty.Goals as goal

pub loop-i-init : goal.loop-i-init
unfolding floor_at
loop-i-init c = (refl, seek_start _ _ _ c.word_at-count.ensures.0)

pub step-requires : goal.step-requires
step-requires c = record {
  states_are = c.byte_at-states.ensures.0;
  actions_are = c.byte_at-actions.ensures.0;
  floor_is = c.loop-i.invariant.0;
  inside = omega arith;
  small = omega arith;
}

pub returns-in_default : goal.returns-in_default
returns-in_default c = (seek_here c.loop-i.invariant.1 (omega arith) (stopped transition_faulty _ _ (sym c.in_default.is ∙ c.step.ensures)), omega arith)

pub loop-i-preserved : goal.loop-i-preserved
loop-i-preserved c =
    let step = sym c.in-Some.is ∙ c.step.ensures in
    (next_floor transition_faulty _ _ _ step, seek_next c.loop-i.invariant.1 (omega arith) (stepped transition_faulty _ _ _ step).0)

pub returns : goal.returns
returns c = let at_end : c.word_at-count.result ≡ c.loop-i.i = omega arith in
    (at_end ∙ seek_end c.loop-i.invariant.1 (omega arith), omega arith)
