-- `judge::scanning::scan_states` meets its contract. Of the loop: the rows of the states before s are passed.
use Rattle.std.proofs.Common.{◌≡◌}
use Rattle.judge.proofs.Steps.StateScans.{StatesPassed}
use Rattle.judge.proofs.scanning.scan_states.Given as goal

abbrev pub invariant-loop-s : goal.invariant-loop-s
invariant-loop-s l = record {
  size : l.s-iterator.iter.size ≡ l.width;
  passed : StatesPassed l.cells l.s-iterator.iter.rest.now l.width l.filled l.s-iterator.count l.starts;
}
