use Rattle.std.proofs.Common.{arith}
use Rattle.aut.proofs.Steps.Digits.{below_same}
use Rattle.aut.proofs.comparing.below.Goals as goal

pub returns-then-digits-others-2 : goal.returns-then-digits-others-2
returns-then-digits-others-2 c = below_same c.args.digits.now c.args.others.now _ (omega arith) c.lt.ensures
