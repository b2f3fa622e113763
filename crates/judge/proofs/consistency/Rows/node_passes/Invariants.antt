-- `judge::consistency::Rows::node_passes` meets its contract. Of the loop: what is left of the search for a mark under which a cell does not pass,
-- and what is shown of the rows under every mark.
use Rattle.std.proofs.Common.{not}
use Rattle.sheet.specs.Bytes.{lowest}
use Rattle.sheet.specs.Contents.{rule_body}
use Rattle.sheet.proofs.Checks.Seeking.{Seeking}
use Rattle.judge.specs.Cells.{cell, marks}
use Rattle.judge.specs.Internal.Auditing.{cell_passes}
use Rattle.judge.proofs.Steps.AuditCells.{ShownOf}
use Rattle.judge.proofs.consistency.Rows.node_passes.Given as goal

abbrev pub invariant-loop-m : goal.invariant-loop-m
invariant-loop-m l =
    Seeking (λ j. not (cell_passes l.self.sheet.now l.self.table.now (cell j l.node.0 l.state.0))) l.self.index.now.marks
    (lowest (λ j. not (cell_passes l.self.sheet.now l.self.table.now (cell j l.node.0 l.state.0))) (marks (rule_body l.self.sheet.now))) l.m
    × ShownOf l.self.sheet.now l.self.table.now l.node.0 l.state.0 l.shown
