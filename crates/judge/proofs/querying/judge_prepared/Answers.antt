-- `judge::querying::judge_prepared` meets its contract.
use Rattle.std.proofs.Common.{sym, arith, length-take-le}
use Rattle.std.proofs.lemmas.Result.{err_from_is_err_and}
use Rattle.judge.proofs.Steps.QueryAnswers.{answers_turned_down, root_decidable, count_fits, answers_judged}
use Rattle.judge.proofs.Steps.RightCount.{Taken, taken_when, turned_down}
use Rattle.judge.proofs.querying.judge_prepared.Goals as goal
use Rattle.judge.proofs.querying.judge_prepared.Goals.{In_ok-stored}

-- the query takes the table
module _ (c : In_ok-stored) where
  taken : Taken c.args.sheet.now c.args.table.now c.cell_bytes_prepared-cells.result c.in_ok-stored.stored
  taken = taken_when c.args.sheet.now c.args.table.now c.cell_bytes_prepared-cells.ensures.0 c.in_ok-stored.ensures

pub returns-in_err-stored : goal.returns-in_err-stored
returns-in_err-stored c =
    let p = err_from_is_err_and c.from_residual.result c.from_residual.ensures.1 in
    rw (p.1, p.2) (answers_turned_down c.requires c.args.table.now (turned_down c.args.sheet.now c.args.table.now c.cell_bytes_prepared-cells.ensures.0 c.in_err-stored.ensures))

pub slice_bounds-decide-end : goal.slice_bounds-decide-end
slice_bounds-decide-end c = let k = taken (goal.at.slice_bounds-decide-end c).In_ok-stored in omega (arith, k.cells_are, k.long)

pub put_number-requires : goal.put_number-requires
put_number-requires c = let k = taken (goal.at.put_number-requires c).In_ok-stored in omega (arith, k.cells_are, k.long)

pub slice_bounds-decide-end-2 : goal.slice_bounds-decide-end-2
slice_bounds-decide-end-2 c = let k = taken (goal.at.slice_bounds-decide-end-2 c).In_ok-stored in sym (length-take-le _ _ (omega (arith, k.cells_are, k.long)))

pub decide-w-requires : goal.decide-w-requires
decide-w-requires c = root_decidable c.requires (taken (goal.at.decide-w-requires c).In_ok-stored)

pub overflow_add-count : goal.overflow_add-count
overflow_add-count c =
    omega (arith, count_fits c.requires (taken (goal.at.overflow_add-count c).In_ok-stored) _ _ _ c.decide-w.ensures c.visits-visits.ensures)

pub returns : goal.returns
returns c =
    answers_judged c.requires (taken (goal.at.returns c).In_ok-stored) _ _ _ _ _ c.decide-w.ensures c.is_true.ensures c.visits-visits.ensures c.put_number.ensures
