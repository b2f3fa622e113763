-- `judge::counting::right_count` meets its contract.
use Rattle.std.proofs.Common.{sym, ◌∙◌, arith}
use Rattle.std.proofs.lemmas.Result.{err_from_is_err_and}
use Rattle.judge.proofs.Steps.RightCount.{right_short, right_over, right_miscounted, right_counted}
use Rattle.judge.proofs.counting.right_count.Goals as goal

pub returns-then-table-table_bytes_for : goal.returns-then-table-table_bytes_for
returns-then-table-table_bytes_for c = right_short c.args.cells c.args.table.now (omega (arith, c.table_bytes_for.ensures))

pub returns-in_err-filled : goal.returns-in_err-filled
returns-in_err-filled c =
    let p = err_from_is_err_and c.from_residual.result c.from_residual.ensures.1 in
    rw (p.1, p.2) (right_over c.args.cells c.args.table.now (omega (arith, c.table_bytes_for.ensures, c.if-table-table_bytes_for.false)) c.in_err-filled.ensures)

pub returns-then-stored-filled : goal.returns-then-stored-filled
returns-then-stored-filled c =
    right_miscounted c.args.cells c.args.table.now (omega (arith, c.table_bytes_for.ensures, c.if-table-table_bytes_for.false)) c.in_ok-filled.ensures
    (λ e. c.if-stored-filled.true (c.number_at-stored.ensures ∙ e))

pub returns : goal.returns
returns c =
    rw c.number_at-stored.ensures (right_counted c.args.cells c.args.table.now (omega (arith, c.table_bytes_for.ensures, c.if-table-table_bytes_for.false)) c.in_ok-filled.ensures
    (sym c.number_at-stored.ensures ∙ c.if-stored-filled.false))
