-- The texts are put one behind the other, from the start of the buffer.
use Rattle.std.proofs.Common.{arith, rules}
use Rattle.text.specs.Decimal.{decimal_of}
use Rattle.text.specs.Words.{space, line_feed}
use Rattle.text.proofs.Placing.{placed_first, placed_next, placed_at_start}
use Rattle.closest_state.specs.Text.{fails_line}
use Rattle.closest_state.proofs.Lengths.{fails_length}
use Rattle.closest_state.proofs.lines.put_fails.Goals as goal

pub returns : goal.returns
unfolding fails_line
returns c =
    let f = c.args.found in
    let word = placed_first c.new-line.ensures.place c.new-line.ensures.out_after (c.put.ensures.place, c.put.ensures.out_after) in
    let state = placed_next (decimal_of f.state.0) word (c.put_decimal.ensures.place, c.put_decimal.ensures.out_after) in
    let gap = placed_next space state (c.put-2.ensures.place, c.put-2.ensures.out_after) in
    let steps = placed_next (decimal_of f.steps) gap (c.put_decimal-2.ensures.place, c.put_decimal-2.ensures.out_after) in
    let second = placed_next space steps (c.put-3.ensures.place, c.put-3.ensures.out_after) in
    let visits = placed_next (decimal_of c.args.visits) second (c.put_decimal-3.ensures.place, c.put_decimal-3.ensures.out_after) in
    let line = placed_at_start (placed_next line_feed visits (c.put-4.ensures.place, c.put-4.ensures.out_after)) (omega (arith, fails_length f.state.0 f.steps c.args.visits, c.requires)) in
    (line.0, search (rules, line.1))
