use Rattle.std.proofs.Common.{arith}
use Rattle.hex.proofs.Pairs.{encode_step, encode_done}
use Rattle.hex.specs.Hex.{lower_digits}
use Rattle.trials.proofs.digits.spell.Goals as goal

pub loop-i-preserved : goal.loop-i-preserved
loop-i-preserved c =
    encode_step lower_digits c.args.bytes.now c.loop-i.digits c.loop-i.i _ _ (omega arith) (omega arith) c.digit.ensures c.digit-in-loop-i.ensures c.loop-i.invariant

pub returns : goal.returns
returns c =
    encode_done lower_digits _ _ c.loop-i.i (omega arith) (omega arith) c.loop-i.invariant
