-- The masks of the actions passed.
use Rattle.std.proofs.Common.{◌≡◌, ℕ, ◌<◌, length, get_or}
use Rattle.calculus.specs.MeetingMask.{meeting_mask}
use Rattle.reference.proofs.table1.meetings.Given as goal

abbrev pub invariant-loop-a : goal.invariant-loop-a
invariant-loop-a l = (length l.masks ≡ 256) × ((action : ℕ) → action < l.a → get_or l.masks action 0 ≡ meeting_mask l.count l.actions action)
