-- The line stands at the start of its own buffer.
use Rattle.std.proofs.Common.{◌≡◌, ap, ◌∙◌, ℕ, List, take}
use lib.ListN.{replicate}
use Rattle.text.specs.Decimal.{decimal_of}
use Rattle.text.specs.Placing.{buffer_after, place_after, Puts}
use Rattle.text.specs.RefusalLine.{refusal_line, refusal_length}
use Rattle.text.specs.Words.{space, line_feed}
use Rattle.text.proofs.Placing.{placed_first, placed_next, placed_at_start, puts_within, puts_taken}
use Rattle.text.proofs.RefusalLines.{refusal_fits}
use Rattle.text.proofs.Writer.put_refusal.Goals as goal
use Rattle.text.proofs.Writer.put_refusal.Goals.{After-put-3}

module _ (c : After-put-3) where
  abbrev line : List ℕ
  line = refusal_line c.args.number c.args.place

  abbrev zeros : List ℕ
  zeros = replicate refusal_length 0

  abbrev buffer : List ℕ
  buffer = c.put-3.new.self.out.now

  whole : Puts line c.put-3.new.self.place zeros buffer
  unfolding refusal_line
  whole =
      let first = placed_first c.new-line.ensures.place c.new-line.ensures.out_after (c.put.ensures.place, c.put.ensures.out_after) in
      let second = placed_next (decimal_of c.args.number) first (c.put_decimal.ensures.place, c.put_decimal.ensures.out_after) in
      let third = placed_next space second (c.put-2.ensures.place, c.put-2.ensures.out_after) in
      let fourth = placed_next (decimal_of c.args.place) third (c.put_decimal-2.ensures.place, c.put_decimal-2.ensures.out_after) in
      placed_at_start (placed_next line_feed fourth (c.put-3.ensures.place, c.put-3.ensures.out_after)) (refusal_fits c.args.number c.args.place)

  taken : take c.put-3.new.self.place buffer ≡ line
  taken = puts_taken line zeros whole

pub slice_bounds-put-end-4 : goal.slice_bounds-put-end-4
slice_bounds-put-end-4 c = let l = (goal.at.slice_bounds-put-end-4 c).After-put-3 in (puts_within (line l) (zeros l) (whole l)).1

pub returns-clause-place : goal.returns-clause-place
returns-clause-place c =
    let a = c.args.self.now in
    c.put-4.ensures.place ∙ ap (λ (text : List ℕ). place_after text a.place a.out.now) (taken (goal.at.returns-clause-place c).After-put-3)

pub returns-clause-out_after : goal.returns-clause-out_after
returns-clause-out_after c =
    let a = c.args.self.now in
    c.put-4.ensures.out_after ∙ ap (λ (text : List ℕ). buffer_after text a.place a.out.now) (taken (goal.at.returns-clause-out_after c).After-put-3)
