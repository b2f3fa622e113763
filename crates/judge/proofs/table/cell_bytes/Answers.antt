-- `judge::table::cell_bytes` meets its contract.
use Rattle.std.proofs.Common.{◌+◌, arith}
use Rattle.judge.proofs.Steps.Products.{small_product}
use Rattle.judge.proofs.table.cell_bytes.Goals as goal

pub overflow_mul-result : goal.overflow_mul-result
overflow_mul-result c = omega (arith, small_product c.from-states.result c.from-nodes.result 0 (omega arith) (omega arith) (omega arith))

pub overflow_mul-result-2 : goal.overflow_mul-result-2
overflow_mul-result-2 c = omega (arith, small_product c.from-states.result c.from-nodes.result (c.from-marks.result + 1) (omega arith) (omega arith) (omega arith))

pub returns : goal.returns
returns c = (
  rw (c.from-states.ensures, c.from-nodes.ensures, c.from-marks.ensures, c.state_count.ensures, c.node_count.ensures, c.binder_count.ensures, c.rule_body-rule.ensures, c.plan_body.ensures),
  omega (arith, small_product c.from-states.result c.from-nodes.result (c.from-marks.result + 1) (omega arith) (omega arith) (omega arith)),
)
