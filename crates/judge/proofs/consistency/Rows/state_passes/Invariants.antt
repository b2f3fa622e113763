-- `judge::consistency::Rows::state_passes` meets its contract. Of the loop: what is left of the search for a node with a cell that does not pass.
use Rattle.std.proofs.Common.{not}
use Rattle.sheet.specs.Bytes.{lowest}
use Rattle.sheet.specs.Contents.{rule_body}
use Rattle.sheet.specs.Rule.{node_count}
use Rattle.sheet.proofs.Checks.Seeking.{Seeking}
use Rattle.judge.specs.Internal.Auditing.{node_passes}
use Rattle.judge.proofs.consistency.Rows.state_passes.Given as goal

abbrev pub invariant-loop-n : goal.invariant-loop-n
invariant-loop-n l =
    Seeking (λ j. not (node_passes l.self.sheet.now l.self.table.now l.state.0 j)) l.self.index.now.nodes
    (lowest (λ j. not (node_passes l.self.sheet.now l.self.table.now l.state.0 j)) (node_count (rule_body l.self.sheet.now))) l.n
