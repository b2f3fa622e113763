-- `calculus::meeting::has_bit` meets its contract: a number below 2 ^ 32 has no bit from 32 on.
use Rattle.std.proofs.Common.{refl, arith}
use Rattle.calculus.specs.MeetingMask.{bit}
use Rattle.calculus.proofs.Masks.Bits.{bit_high}
use Rattle.calculus.proofs.meeting.has_bit.Goals as goal

pub returns-then-entry-lt32 : goal.returns-then-entry-lt32
unfolding bit
returns-then-entry-lt32 c = refl

pub returns-else-entry-lt32 : goal.returns-else-entry-lt32
returns-else-entry-lt32 c = grind (arith, bit_high c.args.mask 32 c.args.entry)
