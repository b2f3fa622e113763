-- Of the loop: the lines, the tally and the table are those of the queries so far.
use Rattle.std.proofs.Common.{take}
use Rattle.report.specs.Internal.Lines.{AddsLines}
use Rattle.report.proofs.reporting.put_lines.Given as goal

abbrev pub invariant-loop-state : goal.invariant-loop-state
invariant-loop-state l = AddsLines l.sheet (take l.state-index l.states) l.fn.table l.fn.out l.tally l.table l.out
