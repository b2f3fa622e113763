-- `judge::counting::stored_count` meets its contract.
use Rattle.std.proofs.Common.{sym, ap, ◌∙◌, arith}
use Rattle.std.proofs.lemmas.Result.{err_from_is_err_and}
use Rattle.judge.specs.StoredCount.{number_at}
use Rattle.judge.proofs.Steps.CountSteps.{counts_refused, counts_short, counts_done}
use Rattle.judge.proofs.counting.stored_count.Goals as goal

pub returns-in_err-check : goal.returns-in_err-check
returns-in_err-check c =
    let p = err_from_is_err_and c.from_residual.result c.from_residual.ensures.1 in
    rw (p.1, p.2) (counts_refused c.args.sheet.now c.args.table.now _ (sym c.in_err-check.ensures.value))

pub returns-then-table-table_bytes_for : goal.returns-then-table-table_bytes_for
returns-then-table-table_bytes_for c =
    counts_short c.args.sheet.now c.args.table.now (sym c.in_ok-check.ensures.value)
    (omega (arith, c.table_bytes_for.ensures, c.cell_bytes-cells.ensures.0))

pub returns : goal.returns
returns c =
    let cells = c.cell_bytes-cells.ensures.0 in
    counts_done c.args.sheet.now c.args.table.now (sym c.in_ok-check.ensures.value)
    (omega (arith, c.table_bytes_for.ensures, cells)) _ (c.number_at.ensures ∙ ap (number_at c.args.table.now) cells)
