-- `judge::table::fill_cell` meets its contract.
use Rattle.std.proofs.Common.{set, sym, ap, ◌∙◌}
use Rattle.judge.proofs.Steps.PackedVerdicts.{cell_filled, true_byte, false_byte}
use Rattle.judge.proofs.table.fill_cell.Goals as goal
use Rattle.judge.proofs.table.fill_cell.Goals.{then-is_true, else-is_true}

pub returns : goal.returns
returns c = record {
  one_visit_more = cell_filled _;
  table_after = ap (set c.args.table.now c.args.at) (elim c.if-is_true.branch [
    | then-is_true w ↦ w.table-is ∙ true_byte c.args.w.0 (sym c.is_true.ensures ∙ w.if-is_true.true)
    | else-is_true w ↦ w.table-is ∙ false_byte c.args.w.0 (sym c.is_true.ensures ∙ w.if-is_true.false)
  ]);
}
