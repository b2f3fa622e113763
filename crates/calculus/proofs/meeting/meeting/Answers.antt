-- `calculus::meeting::meeting` meets its contract.
use Rattle.std.proofs.Common.{◌≡◌, arith, sym, ◌∙◌}
use Rattle.calculus.specs.MeetingMask.{meeting_mask}
use Rattle.calculus.proofs.Masks.MeetingMask.{mask_start, mask_more, mask_still}
use Rattle.calculus.proofs.meeting.meeting.Goals as goal
use Rattle.calculus.proofs.meeting.meeting.Goals.{then-entry_meets, else-entry_meets}

pub loop-e-init : goal.loop-e-init
loop-e-init c = mask_start _ _ _

pub loop-e-preserved : goal.loop-e-preserved
loop-e-preserved c =
    elim c.if-entry_meets.branch [
      | then-entry_meets w ↦ w.mask-is ∙ mask_more _ _ _ _ _ c.loop-e.invariant (omega arith) (sym c.entry_meets.ensures ∙ w.if-entry_meets.true)
      | else-entry_meets w ↦ w.mask-is ∙ mask_still _ _ _ _ _ c.loop-e.invariant (sym c.entry_meets.ensures ∙ w.if-entry_meets.false)
    ]

pub returns : goal.returns
unfolding meeting_mask
returns c =
    let e : c.loop-e.e ≡ c.min-e-end.result = omega arith in cc
