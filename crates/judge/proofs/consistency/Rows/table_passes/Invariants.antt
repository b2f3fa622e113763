-- `judge::consistency::Rows::table_passes` meets its contract. Of the loop: what is left of the search for a state with a cell that does not pass.
use Rattle.std.proofs.Common.{not}
use Rattle.sheet.specs.Bytes.{lowest}
use Rattle.sheet.specs.Contents.{plan_body}
use Rattle.sheet.specs.Plan.{state_count}
use Rattle.sheet.proofs.Checks.Seeking.{Seeking}
use Rattle.judge.specs.Internal.Auditing.{state_passes}
use Rattle.judge.proofs.consistency.Rows.table_passes.Given as goal

abbrev pub invariant-loop-s : goal.invariant-loop-s
invariant-loop-s l =
    Seeking (λ j. not (state_passes l.self.sheet.now l.self.table.now j)) (state_count (plan_body l.self.sheet.now))
    (lowest (λ j. not (state_passes l.self.sheet.now l.self.table.now j)) (state_count (plan_body l.self.sheet.now))) l.s
