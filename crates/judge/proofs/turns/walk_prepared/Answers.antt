-- `judge::turns::walk_prepared` meets its contract.
use Rattle.std.proofs.Common.{sym, arith, length-take-le}
use Rattle.std.proofs.lemmas.Result.{err_from_is_err_and}
use Rattle.judge.proofs.Steps.RightCount.{Taken, taken_when, turned_down}
use Rattle.judge.proofs.Steps.TurnAnswers.{states_taken, in_turn_turned_down, walk_asked, turns_fit, in_turn_judged}
use Rattle.judge.proofs.turns.walk_prepared.Goals as goal
use Rattle.judge.proofs.turns.walk_prepared.Goals.{In_ok-stored}

-- the queries take the table
module _ (c : In_ok-stored) where
  taken : Taken c.args.sheet.now c.args.table.now c.cell_bytes_prepared-cells.result c.in_ok-stored.stored
  taken = taken_when c.args.sheet.now c.args.table.now c.cell_bytes_prepared-cells.ensures.0 c.in_ok-stored.ensures

pub returns-in_err-stored : goal.returns-in_err-stored
returns-in_err-stored c =
    let p = err_from_is_err_and c.from_residual.result c.from_residual.ensures.1 in
    rw (p.1, p.2)
    (in_turn_turned_down (states_taken c.requires) c.args.table.now (turned_down c.args.sheet.now c.args.table.now c.cell_bytes_prepared-cells.ensures.0 c.in_err-stored.ensures))

pub slice_bounds-walk_states-end : goal.slice_bounds-walk_states-end
slice_bounds-walk_states-end c = let k = taken (goal.at.slice_bounds-walk_states-end c).In_ok-stored in omega (arith, k.cells_are, k.long)

pub put_number-requires : goal.put_number-requires
put_number-requires c = let k = taken (goal.at.put_number-requires c).In_ok-stored in omega (arith, k.cells_are, k.long)

pub slice_bounds-walk_states-end-2 : goal.slice_bounds-walk_states-end-2
slice_bounds-walk_states-end-2 c =
    let k = taken (goal.at.slice_bounds-walk_states-end-2 c).In_ok-stored in sym (length-take-le _ _ (omega (arith, k.cells_are, k.long)))

pub walk_states-walked-requires : goal.walk_states-walked-requires
walk_states-walked-requires c = walk_asked c.requires (taken (goal.at.walk_states-walked-requires c).In_ok-stored)

pub overflow_cast-count : goal.overflow_cast-count
overflow_cast-count c = omega (arith, turns_fit c.requires (taken (goal.at.overflow_cast-count c).In_ok-stored) c.walk_states-walked.ensures)

pub overflow_add-count : goal.overflow_add-count
overflow_add-count c = omega (arith, turns_fit c.requires (taken (goal.at.overflow_add-count c).In_ok-stored) c.walk_states-walked.ensures)

pub returns : goal.returns
returns c = in_turn_judged c.requires (taken (goal.at.returns c).In_ok-stored) c.walk_states-walked.ensures _ c.put_number.ensures
