-- `judge::consistency::Rows::cell_passes` meets its contract.
use Rattle.std.proofs.Common.{sym, ◌∙◌, eq-eqb}
use Rattle.judge.proofs.Steps.AuditCells.{mark_few, byte_filled, mark_is, allowed_decidable, passes_row, passes_shown, passes_not}
use Rattle.judge.proofs.consistency.Rows.cell_passes.Goals as goal

pub mark_allowed-requires : goal.mark_allowed-requires
mark_allowed-requires c = mark_few c.requires.0

pub returns-then-b-shown : goal.returns-then-b-shown
returns-then-b-shown c =
    let q = c.requires in
    eq-eqb _ _ c.if-b-shown.true ∙ passes_shown q.0 q.1 (sym (mark_is q.0 c.mark_allowed.ensures) ∙ c.if-mark_allowed.true) q.2 c.if-b-shown.true

pub row_follows-requires : goal.row_follows-requires
row_follows-requires c =
    let q = c.requires in
    (allowed_decidable q.0 (sym (mark_is q.0 c.mark_allowed.ensures) ∙ c.if-mark_allowed.true), byte_filled q.0 q.1)

pub returns-else-b-shown : goal.returns-else-b-shown
returns-else-b-shown c =
    let q = c.requires in
    passes_row q.0 q.1 (sym (mark_is q.0 c.mark_allowed.ensures) ∙ c.if-mark_allowed.true) c.row_follows.ensures

pub returns-else-mark_allowed : goal.returns-else-mark_allowed
returns-else-mark_allowed c =
    let q = c.requires in
    c.if-mark_allowed.false ∙ passes_not q.0 q.1 (sym (mark_is q.0 c.mark_allowed.ensures) ∙ c.if-mark_allowed.false)
