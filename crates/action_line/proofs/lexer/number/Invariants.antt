-- What the loop keeps.
use Rattle.std.proofs.Common.{◌≡◌, ◌≤◌, drop, min}
use Rattle.text.specs.Numerals.{all_digits, decimal_from}
use Rattle.action_line.proofs.lexer.number.Given as goal

abbrev pub invariant-loop-digit : goal.invariant-loop-digit
invariant-loop-digit l = record {
  byte : l.value ≤ 255;
  digits : all_digits l.word ≡ all_digits (drop l.digit-index l.word);
  value : min (decimal_from l.value (drop l.digit-index l.word)) 255 ≡ min (decimal_from 0 l.word) 255;
}
