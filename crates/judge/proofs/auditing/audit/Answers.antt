-- `judge::auditing::audit` meets its contract.
use Rattle.std.proofs.Common.{◌≡◌, ℕ, ◌*◌, Bool, true, List, take, Ok, ne_eqb, sym, refl, ap, ◌∙◌, ap₂, arith, length-take-le}
use Rattle.std.proofs.lemmas.Result.{err_from_is_err_and}
use Rattle.sheet.specs.Contents.{rule_body}
use Rattle.sheet.specs.Rule.{node_count}
use Rattle.judge.specs.Cells.{marks}
use Rattle.judge.specs.StoredCount.{number_at}
use Rattle.judge.specs.Internal.Auditing.{StatesScanned}
use Rattle.judge.specs.Internal.Preparing.{StatesTold}
use Rattle.judge.specs.declared.index.Index.{Index}
use Rattle.judge.proofs.Steps.AuditAnswers.{LongTable, AuditAsked, audit_miscounted, audit_passing, audit_unread, audit_short, block_small, scan_asked, blocks_over, blocks_told, states_asked, blocks_looped, blocks_free}
use Rattle.judge.proofs.auditing.audit.Goals as goal
use Rattle.judge.proofs.auditing.audit.Goals.{Else-table-table_bytes_for}

-- ---- what is read first
module _ (c : Else-table-table_bytes_for) where
  long : LongTable c.args.sheet.now c.prepare_rule-index.result c.args.table.now c.cell_bytes_prepared-cells.result
  long = record {
    accepted = sym c.in_ok-check.ensures.value;
    rule_told = c.prepare_rule-index.ensures;
    cells_are = c.cell_bytes_prepared-cells.ensures.0;
    long = omega (arith, c.cell_bytes_prepared-cells.ensures.0, c.table_bytes_for.ensures, c.if-table-table_bytes_for.false);
  }

  width_is : c.prepare_rule-index.result.nodes * c.prepare_rule-index.result.marks ≡ node_count (rule_body c.args.sheet.now) * marks (rule_body c.args.sheet.now)
  width_is = ap₂ ◌*◌ c.prepare_rule-index.ensures.headed.nodes_are c.prepare_rule-index.ensures.headed.marks_are

  -- with all prepared
  asked : {index : Index} {starts : List ℕ} {n : ℕ} {free : Bool} → StatesScanned (take c.cell_bytes_prepared-cells.result c.args.table.now) (c.prepare_rule-index.result.nodes * c.prepare_rule-index.result.marks) (Ok n) starts
      → free ≡ true → StatesTold c.args.sheet.now starts index free
      → AuditAsked c.args.sheet.now index c.args.table.now starts c.cell_bytes_prepared-cells.result n
  asked w f told = blocks_free long width_is (blocks_told long width_is w refl) f told

pub returns-in_err-check : goal.returns-in_err-check
returns-in_err-check c =
    let p = err_from_is_err_and c.from_residual.result c.from_residual.ensures.1 in
    rw (p.1, p.2) (audit_unread c.args.sheet.now c.args.table.now _ (sym c.in_err-check.ensures.value))

pub returns-then-table-table_bytes_for : goal.returns-then-table-table_bytes_for
returns-then-table-table_bytes_for c =
    audit_short c.args.sheet.now c.args.table.now (sym c.in_ok-check.ensures.value)
    (omega (arith, c.if-table-table_bytes_for.true, c.table_bytes_for.ensures, c.cell_bytes_prepared-cells.ensures.0))

pub overflow_mul-width : goal.overflow_mul-width
overflow_mul-width c = let n = (goal.at.overflow_mul-width c).Else-table-table_bytes_for in omega (arith, width_is n, block_small (long n))

pub slice_bounds-scan_states-end : goal.slice_bounds-scan_states-end
slice_bounds-scan_states-end c =
    let q = long (goal.at.slice_bounds-scan_states-end c).Else-table-table_bytes_for in sym (length-take-le _ _ (omega (arith, q.cells_are, q.long)))

pub scan_states-requires : goal.scan_states-requires
scan_states-requires c = let n = (goal.at.scan_states-requires c).Else-table-table_bytes_for in scan_asked (long n) (width_is n) refl

pub returns-in_err-filled : goal.returns-in_err-filled
returns-in_err-filled c =
    let n = (goal.at.returns-in_err-filled c).Else-table-table_bytes_for in
    let p = err_from_is_err_and c.from_residual-in_err-filled.result c.from_residual-in_err-filled.ensures.1 in
    rw (p.1, p.2) (blocks_over (long n) (width_is n) c.in_err-filled.ensures refl)

pub prepare_states-requires : goal.prepare_states-requires
prepare_states-requires c =
    let n = (goal.at.prepare_states-requires c).Else-table-table_bytes_for in
    states_asked (long n) (width_is n) (blocks_told (long n) (width_is n) c.in_ok-filled.ensures refl)

pub returns-then-not-prepare_states : goal.returns-then-not-prepare_states
returns-then-not-prepare_states c =
    let n = (goal.at.returns-then-not-prepare_states c).Else-table-table_bytes_for in
    blocks_looped (long n) (width_is n) (blocks_told (long n) (width_is n) c.in_ok-filled.ensures refl) c.if-not-prepare_states.true c.prepare_states.ensures

pub table_passes-requires : goal.table_passes-requires
table_passes-requires c =
    (asked (goal.at.table_passes-requires c).Else-table-table_bytes_for c.in_ok-filled.ensures c.if-not-prepare_states.false c.prepare_states.ensures).cells_asked

pub returns-then-stored-filled : goal.returns-then-stored-filled
returns-then-stored-filled c =
    audit_passing (asked (goal.at.returns-then-stored-filled c).Else-table-table_bytes_for c.in_ok-filled.ensures c.if-not-prepare_states.false c.prepare_states.ensures)
    (sym (c.number_at-stored.ensures ∙ ap (number_at c.args.table.now) c.cell_bytes_prepared-cells.ensures.0) ∙ c.if-stored-filled.true) c.table_passes.ensures

pub returns-else-stored-filled : goal.returns-else-stored-filled
returns-else-stored-filled c =
    rw (ne_eqb _ _ c.if-stored-filled.false)
    (audit_miscounted (asked (goal.at.returns-else-stored-filled c).Else-table-table_bytes_for c.in_ok-filled.ensures c.if-not-prepare_states.false c.prepare_states.ensures)
    (λ e. c.if-stored-filled.false (c.number_at-stored.ensures ∙ ap (number_at c.args.table.now) c.cell_bytes_prepared-cells.ensures.0 ∙ e)))
