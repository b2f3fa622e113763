-- `reference::sets::States::contains` meets its contract: a number below 2 ^ 64 has no bit from 64 on.
use Rattle.std.proofs.Common.{arith}
use Rattle.calculus.specs.MeetingMask.{bit}
use Rattle.calculus.proofs.Masks.Bits.{bit_high}
use Rattle.reference.proofs.sets.States.contains.Goals as goal

pub returns-then-s-lt64 : goal.returns-then-s-lt64
unfolding bit
returns-then-s-lt64 c = cc

pub returns-else-s-lt64 : goal.returns-else-s-lt64
returns-else-s-lt64 c = grind (arith, bit_high c.args.self 64 c.args.s.0)
