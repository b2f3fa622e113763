use Rattle.std.proofs.Common.{◌∙◌, ◌+◌, arith}
use Rattle.aut.proofs.Steps.Digits.{value_turn, value_full, value_end}
use Rattle.aut.proofs.comparing.value.Goals as goal

pub loop-digit-preserved : goal.loop-digit-preserved
loop-digit-preserved c =
    let l = c.loop-digit in (
      omega (arith, c.min-value.ensures),
      value_turn c.args.digits.now c.args.bound l.value l.digit-index (omega arith) (omega arith) l.invariant.0
          c.saturating_mul.ensures (c.from.ensures ∙ c.saturating_sub.ensures) c.saturating_add.ensures c.min-value.ensures
          ∙ l.invariant.1,
    )

pub returns-after-loop-digit : goal.returns-after-loop-digit
returns-after-loop-digit c =
    value_end c.args.digits.now c.args.bound c.loop-digit.value c.loop-digit.digit-index (omega arith) c.loop-digit.invariant.0
    ∙ c.loop-digit.invariant.1

pub returns-then-value-bound : goal.returns-then-value-bound
returns-then-value-bound c =
    let l = c.loop-digit in
    value_full c.args.digits.now c.args.bound c.min-value.result (l.digit-index + 1) c.if-value-bound.true
    ∙ value_turn c.args.digits.now c.args.bound l.value l.digit-index (omega arith) (omega arith) l.invariant.0
    c.saturating_mul.ensures (c.from.ensures ∙ c.saturating_sub.ensures) c.saturating_add.ensures c.min-value.ensures
    ∙ l.invariant.1
