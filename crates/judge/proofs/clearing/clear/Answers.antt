-- `judge::clearing::clear` meets its contract.
use Rattle.std.proofs.Common.{◌≡◌, ℕ, List, length-take-le, ◌++◌, drop, replicate, sym, ap, ◌∙◌, arith}
use Rattle.std.proofs.lemmas.Result.{err_from_is_err_and}
use Rattle.judge.specs.Cells.{table_bytes_for}
use Rattle.judge.proofs.Steps.ClearSteps.{clears_refused, clears_short, clears_done}
use Rattle.judge.proofs.clearing.clear.Goals as goal

pub returns-in_err-check : goal.returns-in_err-check
returns-in_err-check c =
    let p = err_from_is_err_and c.from_residual.result c.from_residual.ensures.1 in
    rw (p.1, p.2) (clears_refused c.args.sheet.now c.args.table.now _ (sym c.in_err-check.ensures.value))

pub returns-then-table-size : goal.returns-then-table-size
returns-then-table-size c =
    clears_short c.args.sheet.now c.args.table.now (sym c.in_ok-check.ensures.value)
    (omega (arith, c.table_bytes_for-size.ensures, c.cell_bytes-cells.ensures.0))

pub returns : goal.returns
returns c =
    let t = c.args.table.now in
    let held = c.table_bytes_for-size.result in
    let size = c.table_bytes_for-size.ensures ∙ ap table_bytes_for c.cell_bytes-cells.ensures.0 in
    let zeros : c.fill.new.self ≡ replicate held 0 =
    c.fill.ensures.after (λ y e. e) ∙ ap (λ (k : ℕ). replicate k 0) (length-take-le held t (omega arith)) in
    clears_done c.args.sheet.now t (sym c.in_ok-check.ensures.value) (omega (arith, size)) _
    (ap (λ (l : List ℕ). l ++ drop held t) zeros ∙ ap (λ (k : ℕ). replicate k 0 ++ drop k t) size)
