-- `judge::preparing::put_masks` meets its contract. Of the loop: the noted actions below a have their masks.
use Rattle.std.proofs.Common.{◌≡◌, ℕ, ◌<◌, true, false, get_or}
use Rattle.sheet.specs.Plan.{action_count}
use Rattle.calculus.specs.MeetingMask.{meeting_mask}
use Rattle.judge.proofs.preparing.put_masks.Given as goal

abbrev pub invariant-loop-a : goal.invariant-loop-a
invariant-loop-a l =
    (k : ℕ) → k < l.a → get_or l.noted k false ≡ true → get_or l.masks k 0 ≡ meeting_mask (action_count l.plan) l.actions k
