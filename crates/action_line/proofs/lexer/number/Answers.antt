-- `action_line::lexer::number` meets its contract.
use Rattle.std.proofs.Common.{◌≡◌, ◌+◌, ◌-◌, ◌*◌, min, get_or, sym, ap, ◌∙◌, arith}
use Rattle.action_line.specs.Internal.Lexemes.{capped}
use Rattle.action_line.proofs.Steps.Numbers.{digit_held, digit_next, no_digit, with_zero, with_letter, number_held}
use Rattle.action_line.proofs.Steps.Words.{not_decimal}
use Rattle.action_line.proofs.lexer.number.Goals as goal

pub returns-then-has_leading_zero : goal.returns-then-has_leading_zero
returns-then-has_leading_zero c =
    let w = c.args.word.now in
    sym (ap capped (not_decimal w c.requires.1 (with_zero w (sym c.if-has_leading_zero.ensures))))

pub returns-then-not-is_ascii_digit : goal.returns-then-not-is_ascii_digit
returns-then-not-is_ascii_digit c =
    let w = c.args.word.now in
    let l = c.loop-digit in
    let n = no_digit w l.digit-index (omega arith) (sym c.if-not-is_ascii_digit.ensures.value) in
    sym (ap capped (not_decimal w c.requires.1 (with_letter w (l.invariant.digits ∙ n))))

pub loop-digit-preserved : goal.loop-digit-preserved
loop-digit-preserved c =
    let w = c.args.word.now in
    let l = c.loop-digit in
    let n : c.saturating_add-value.result ≡ min (10 * l.value + (get_or w l.digit-index 0 - 48)) 255 = omega arith in
    record {
      byte = omega arith;
      digits = l.invariant.digits ∙ digit_next w l.digit-index (omega arith) (sym c.if-not-is_ascii_digit.ensures.value);
      value = rw n (digit_held w l.digit-index (omega arith) l.value) ∙ l.invariant.value;
    }

pub returns : goal.returns
returns c =
    let l = c.loop-digit in
    number_held c.args.word.now l.digit-index l.value (omega arith) (omega arith) c.requires.0 (sym c.if-has_leading_zero.ensures) l.invariant.digits l.invariant.value
