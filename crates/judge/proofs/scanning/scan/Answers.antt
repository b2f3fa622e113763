use Rattle.std.proofs.Common.{◌+◌, length, ◌∙◌, arith}
use Rattle.std.proofs.lemmas.Result.{err_from_is_err_and}
use Rattle.judge.proofs.Steps.ScanSteps.{scan_over, passed_none, passed_over, passed_more, passed_few, passed_all, passed_told}
use Rattle.judge.proofs.scanning.scan.Goals as goal

pub loop-block-init : goal.loop-block-init
loop-block-init c = record {
  size = cc;
  at = 0;
  passed = rw (c.into_iter-block-iterator.ensures.into_iter_gives, c.chunks-block-items.ensures.rest) (passed_none c.args.cells.now);
}

pub returns-in_err-scan_block : goal.returns-in_err-scan_block
returns-in_err-scan_block c =
    let p = err_from_is_err_and c.from_residual.result c.from_residual.ensures.1 in
    let b = passed_over c.loop-block.invariant.passed c.in-Some.block.now c.next.new.self.rest.now c.in-Some.ensures.steps.1.0 c.in_err-scan_block.ensures in
    rw (p.1, p.2, b.0) (scan_over c.args.cells.now b.1.0 b.1.1 b.1.2)

pub overflow_add-filled : goal.overflow_add-filled
overflow_add-filled c =
    let more = passed_more c.loop-block.invariant.passed c.in-Some.block.now c.next.new.self.rest.now c.in-Some.ensures.steps.1.0 c.in_ok-scan_block.ensures in
    omega (arith, passed_few more, c.from.ensures)

pub loop-block-preserved : goal.loop-block-preserved
loop-block-preserved c = record {
  size = c.in-Some.ensures.steps.0 ∙ c.loop-block.invariant.size;
  at = c.loop-block.invariant.at + length c.in-Some.block.now;
  passed = rw c.from.ensures (passed_more c.loop-block.invariant.passed c.in-Some.block.now c.next.new.self.rest.now c.in-Some.ensures.steps.1.0 c.in_ok-scan_block.ensures);
}

pub returns : goal.returns
returns c = let w = c.loop-block.invariant.passed in passed_told w (passed_all w c.in-None.ensures.steps.1.0)
