use Prim.Native.Nat.{ℕ}
use mathlib.Core.Path.{subst}
use borrow.Author.Rules.{rules}
use Rattle.text.specs.Decimal.{decimal_of}
use Rattle.text.specs.Words.{space, line_feed}
use Rattle.text.proofs.Placing.{Placed, placed_first, placed_next, placed_fitting}
use Rattle.report.specs.Text.{line_with}
use Rattle.report.proofs.line.put_words.Goals as goal

pub returns : goal.returns
unfolding line_with
returns c =
    let state =
    subst (λ (n : ℕ). Placed c.args.at c.args.out.now (decimal_of n) c.put_decimal.new.self.place c.put_decimal.new.self.out.now) c.from.ensures
    (placed_first c.at-writer.ensures.place c.at-writer.ensures.out_after (c.put_decimal.ensures.place, c.put_decimal.ensures.out_after)) in
    let gap = placed_next space state (c.put.ensures.place, c.put.ensures.out_after) in
    let word = placed_next c.args.word.now gap (c.put-2.ensures.place, c.put-2.ensures.out_after) in
    let second_gap = placed_next space word (c.put-3.ensures.place, c.put-3.ensures.out_after) in
    let visits = placed_next (decimal_of c.args.visits) second_gap (c.put_decimal-2.ensures.place, c.put_decimal-2.ensures.out_after) in
    let put = placed_fitting (placed_next line_feed visits (c.put-4.ensures.place, c.put-4.ensures.out_after)) c.requires in
    (put.0, search (rules, put.1))
