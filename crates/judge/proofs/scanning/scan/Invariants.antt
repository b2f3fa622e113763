-- `judge::scanning::scan` meets its contract. Of the loop: what the blocks so far tell.
use Rattle.std.proofs.Common.{◌≡◌, ℕ}
use Rattle.judge.proofs.Steps.ScanSteps.{Passed}
use Rattle.judge.proofs.scanning.scan.Given as goal

abbrev pub invariant-loop-block : goal.invariant-loop-block
invariant-loop-block l = record { size : l.block-iterator.size ≡ 224; at : ℕ; passed : Passed l.cells l.block-iterator.rest.now at l.filled }
