use Rattle.std.proofs.Common.{◌∙◌, arith}
use Rattle.aut.proofs.Steps.HeldLabels.{sum_turn, sum_end}
use Rattle.aut.proofs.labels.checksum.Goals as goal

pub loop-byte-preserved : goal.loop-byte-preserved
loop-byte-preserved c =
    let l = c.loop-byte in
    sum_turn c.args.label.now l.sum l.byte-index (omega arith) c.mix-sum.ensures ∙ l.invariant

pub returns : goal.returns
returns c = let l = c.loop-byte in sum_end c.args.label.now l.sum l.byte-index (omega arith) ∙ l.invariant
