-- The texts are put one behind the other, from the start of the buffer.
use Rattle.std.proofs.Common.{arith, rules}
use Rattle.text.specs.Decimal.{decimal_of}
use Rattle.text.specs.Words.{line_feed}
use Rattle.text.proofs.Placing.{placed_first, placed_next, placed_at_start}
use Rattle.closest_state.specs.Text.{holds_line}
use Rattle.closest_state.proofs.Lengths.{holds_length}
use Rattle.closest_state.proofs.lines.put_holds.Goals as goal

pub returns : goal.returns
unfolding holds_line
returns c =
    let word = placed_first c.new-line.ensures.place c.new-line.ensures.out_after (c.put.ensures.place, c.put.ensures.out_after) in
    let visits = placed_next (decimal_of c.args.visits) word (c.put_decimal.ensures.place, c.put_decimal.ensures.out_after) in
    let line = placed_at_start (placed_next line_feed visits (c.put-2.ensures.place, c.put-2.ensures.out_after)) (omega (arith, holds_length c.args.visits, c.requires)) in
    (line.0, search (rules, line.1))
