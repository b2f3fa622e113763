use Rattle.std.proofs.Common.{◌≡◌, drop}
use Rattle.aut.specs.Internal.Held.{sum_from, sum_of}
use Rattle.aut.proofs.labels.checksum.Given as goal

abbrev pub invariant-loop-byte : goal.invariant-loop-byte
invariant-loop-byte l = sum_from l.sum (drop l.byte-index l.label) ≡ sum_of l.label
