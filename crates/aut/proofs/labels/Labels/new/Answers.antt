use Rattle.std.proofs.Common.{refl, arith}
use Rattle.aut.specs.Internal.Held.{labels_in}
use Rattle.aut.proofs.labels.Labels.new.Goals as goal

pub invariant_of-result : goal.invariant_of-result
unfolding labels_in
invariant_of-result c =
    record { array = refl; within = omega arith; summed = tt; different = record { at = λ i h. absurd (omega arith) } }

pub returns : goal.returns
unfolding labels_in
returns c = refl
