-- Transition i stands in the buffer, and its line is put behind those of the ones before it.
use Rattle.std.proofs.Common.{arith, rules, refl, ◌∙◌, ◌+◌, ◌*◌}
use Rattle.text.specs.Decimal.{decimal_of}
use Rattle.text.specs.Words.{space, line_feed}
use Rattle.text.proofs.Placing.{placed_next}
use Rattle.sheet.specs.Bytes.{byte}
use Rattle.closest_state.proofs.Putting.{putting_starts, putting_next, putting_ends}
use Rattle.closest_state.proofs.lines.put_way.Goals as goal

pub loop-i-init : goal.loop-i-init
loop-i-init c = (refl, rw (c.at-lines.ensures.out_after, c.at-lines.ensures.place) (putting_starts c.requires))

pub loop-i-preserved : goal.loop-i-preserved
loop-i-preserved c =
    let way = c.args.way.now in
    let i = c.loop-i.i in
    let from = placed_next (decimal_of (byte way (3 * i))) c.loop-i.invariant.1.placed (c.put_decimal.ensures.place, c.put_decimal.ensures.out_after) in
    let gap = placed_next space from (c.put.ensures.place, c.put.ensures.out_after) in
    let action = placed_next (decimal_of (byte way (3 * i + 1))) gap (c.put_decimal-in-loop-i.ensures.place, c.put_decimal-in-loop-i.ensures.out_after) in
    let second = placed_next space action (c.put-in-loop-i.ensures.place, c.put-in-loop-i.ensures.out_after) in
    let to = placed_next (decimal_of (byte way (3 * i + 2))) second (c.put_decimal-in-loop-i-2.ensures.place, c.put_decimal-in-loop-i-2.ensures.out_after) in (
      c.put-in-loop-i-2.ensures.same_buffer ∙ c.put_decimal-in-loop-i-2.ensures.same_buffer ∙ c.put-in-loop-i.ensures.same_buffer
          ∙ c.put_decimal-in-loop-i.ensures.same_buffer ∙ c.put.ensures.same_buffer ∙ c.put_decimal.ensures.same_buffer ∙ c.loop-i.invariant.0,
      putting_next c.loop-i-test.true (placed_next line_feed to (c.put-in-loop-i-2.ensures.place, c.put-in-loop-i-2.ensures.out_after)),
    )

pub returns : goal.returns
returns c =
    let lines = putting_ends (rw c.at-lines.ensures.out_after at c.loop-i.invariant.1) (omega (arith, c.loop-i-test.false)) c.requires in
    (lines.0, search (rules, lines.1, c.loop-i.invariant.0))
