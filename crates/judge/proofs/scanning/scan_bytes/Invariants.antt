-- `judge::scanning::scan_bytes` meets its contract. Of the loop: what the bytes so far tell.
use Rattle.judge.proofs.Steps.ScanSteps.{BlockTo}
use Rattle.judge.proofs.scanning.scan_bytes.Given as goal

abbrev pub invariant-loop-byte : goal.invariant-loop-byte
invariant-loop-byte l = BlockTo l.bytes l.byte-index l.highest l.filled
