-- `plan_judge::line::put_verdict` meets its contract.
use Rattle.std.proofs.Common.{arith, rules}
use Rattle.std.specs.Prelude.{Ok}
use Rattle.text.specs.Decimal.{decimal_of}
use Rattle.text.specs.Words.{space, line_feed}
use Rattle.text.proofs.Placing.{placed_first, placed_next, placed_at_start}
use Rattle.plan_judge.specs.Line.{line_of}
use Rattle.plan_judge.proofs.Lines.{line_length_lem}
use Rattle.plan_judge.proofs.line.put_verdict.Goals as goal

pub returns : goal.returns
unfolding line_of
returns c =
    let j = c.args.judged in
    let word = placed_first c.new-line.ensures.place c.new-line.ensures.out_after (c.put_bool.ensures.place, c.put_bool.ensures.out_after) in
    let gap = placed_next space word (c.put.ensures.place, c.put.ensures.out_after) in
    let visits = placed_next (decimal_of j.visits) gap (c.put_decimal.ensures.place, c.put_decimal.ensures.out_after) in
    let line = placed_at_start (placed_next line_feed visits (c.put-2.ensures.place, c.put-2.ensures.out_after)) (omega (arith, line_length_lem (Ok j), c.requires)) in
    (line.0, search (rules, line.1))
