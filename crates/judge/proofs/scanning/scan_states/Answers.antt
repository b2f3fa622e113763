use Rattle.std.proofs.Common.{◌≡◌, length, ◌∙◌, arith}
use Rattle.std.proofs.lemmas.Result.{err_from_is_err_and}
use Rattle.judge.proofs.Steps.StateScans.{states_start, state_below, row_over, row_total, states_none, states_some, states_end}
use Rattle.judge.proofs.scanning.scan_states.Goals as goal
use Rattle.judge.proofs.scanning.scan_states.Goals.{In-Some, then-in_row-ne0, else-in_row-ne0}

-- the row that the iterator gave has a state's cells
module _ (c : In-Some) where
  row_long : length c.in-Some.row.now ≡ c.args.width
  row_long = c.in-Some.ensures.steps.0.1.1 ∙ c.loop-s.invariant.size

pub loop-s-init : goal.loop-s-init
loop-s-init c = record {
  size = cc;
  passed = rw (c.into_iter-s-iterator.ensures.into_iter_gives, c.enumerate-s-items.ensures.source, c.enumerate-s-items.ensures.count, c.chunks_exact.ensures.rest) (states_start c.requires);
}

pub returns-in_err-in_row : goal.returns-in_err-in_row
returns-in_err-in_row c =
    let p = err_from_is_err_and c.from_residual.result c.from_residual.ensures.1 in
    rw (p.1, p.2) (row_over c.requires c.loop-s.invariant.passed _ _ c.in-Some.ensures.steps.0.1.0 (row_long (goal.at.returns-in_err-in_row c).In-Some) c.in_err-in_row.ensures _)

pub bounds-starts-s : goal.bounds-starts-s
bounds-starts-s c =
    omega (arith, c.in-Some.ensures.steps.1, state_below c.requires c.loop-s.invariant.passed _ _ c.in-Some.ensures.steps.0.1.0 (row_long (goal.at.bounds-starts-s c).In-Some))

pub overflow_add-filled : goal.overflow_add-filled
overflow_add-filled c =
    omega (arith, row_total c.requires c.loop-s.invariant.passed _ _ c.in-Some.ensures.steps.0.1.0 (row_long (goal.at.overflow_add-filled c).In-Some) c.in_ok-in_row.ensures)

pub loop-s-preserved : goal.loop-s-preserved
loop-s-preserved c =
    let e = c.in-Some.ensures.steps in
    let long = row_long (goal.at.loop-s-preserved c).In-Some in
    record {
      size = e.0.0 ∙ c.loop-s.invariant.size;
      passed = rw e.2 (elim c.if-in_row-ne0.branch [
        | then-in_row-ne0 w ↦ rw (w.starts-is, e.1) (states_some c.requires c.loop-s.invariant.passed _ _ e.0.1.0 long c.in_ok-in_row.ensures w.if-in_row-ne0.true)
        | else-in_row-ne0 w ↦ rw w.starts-is (states_none c.requires c.loop-s.invariant.passed _ _ e.0.1.0 long c.in_ok-in_row.ensures w.if-in_row-ne0.false)
      ]);
    }

pub returns : goal.returns
returns c = states_end c.requires c.loop-s.invariant.passed (omega (arith, c.in-None.ensures.steps.0.1.0, c.loop-s.invariant.size))
