-- The mask has the bits of the entries passed.
use Rattle.std.proofs.Common.{◌≡◌}
use Rattle.calculus.specs.MeetingMask.{mask_up_to}
use Rattle.calculus.proofs.meeting.meeting.Given as goal

abbrev pub invariant-loop-e : goal.invariant-loop-e
invariant-loop-e l = l.mask ≡ mask_up_to l.e l.count l.actions l.action.0
