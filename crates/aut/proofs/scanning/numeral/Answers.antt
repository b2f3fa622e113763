use Rattle.std.proofs.Common.{◌∙◌, sym, ap, arith}
use Rattle.std.proofs.lemmas.List.Sums.{prefix_len-le-length}
use Rattle.text.specs.Numerals.{is_digit}
use Rattle.aut.specs.Scanning.{rest}
use Rattle.aut.proofs.Steps.Pieces.{digits_read}
use Rattle.aut.proofs.scanning.numeral.Goals as goal

pub split_at-requires-in-49-to-57 : goal.split_at-requires-in-49-to-57
split_at-requires-in-49-to-57 c = omega (arith, c.digit_count.ensures, prefix_len-le-length is_digit c.args.text.now)

pub returns-in-49-to-57 : goal.returns-in-49-to-57
returns-in-49-to-57 c =
    let k = digits_read c.args.text.now _ (omega arith) (omega arith) (omega arith) c.digit_count.ensures in
    let s = c.split_at-in-49-to-57.ensures in
    (s.front ∙ k.0, k.1 ∙ ap rest (sym s.back))
