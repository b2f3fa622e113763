-- `judge::packed::Packed::decides` meets its contract.
use Rattle.std.proofs.Common.{Bool, ap}
use mathlib.Core.Bool.{beq}
use Rattle.judge.proofs.packed.Packed.decides.Goals as goal

pub returns : goal.returns
returns c = ap (λ (b : Bool). beq b c.args.or) c.is_true.ensures
