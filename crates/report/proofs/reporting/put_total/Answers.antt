use borrow.Author.Rules.{rules}
use mathlib.Core.List.{◌++◌}
use Rattle.text.specs.Decimal.{decimal_of}
use Rattle.text.specs.Words.{space, line_feed}
use Rattle.text.proofs.Placing.{placed_first, placed_next, placed_fitting}
use Rattle.report.specs.Text.{total, total_line}
use Rattle.report.proofs.reporting.put_total.Goals as goal

pub returns : goal.returns
unfolding total_line
returns c =
    let word = placed_first {text = total ++ space} c.at-writer.ensures.place c.at-writer.ensures.out_after (c.put.ensures.place, c.put.ensures.out_after) in
    let visits = placed_next (decimal_of c.args.tally.visits) word (c.put_decimal.ensures.place, c.put_decimal.ensures.out_after) in
    let put = placed_fitting (placed_next line_feed visits (c.put-2.ensures.place, c.put-2.ensures.out_after)) c.requires in
    (put.0, search (rules, put.1))
