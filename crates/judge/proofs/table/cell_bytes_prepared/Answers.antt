-- `judge::table::cell_bytes_prepared` meets its contract.
use Rattle.std.proofs.Common.{arith}
use Rattle.judge.proofs.Steps.Products.{small_product}
use Rattle.judge.proofs.table.cell_bytes_prepared.Goals as goal

pub overflow_mul-result : goal.overflow_mul-result
overflow_mul-result c = omega (arith, small_product c.from-states.result c.args.index.now.nodes 0 (omega arith) (omega arith) (omega arith))

pub overflow_mul-result-2 : goal.overflow_mul-result-2
overflow_mul-result-2 c = omega (arith, small_product c.from-states.result c.args.index.now.nodes c.args.index.now.marks (omega arith) (omega arith) (omega arith))

pub returns : goal.returns
returns c = (
  rw (c.from-states.ensures, c.state_count.ensures, c.plan_body.ensures, c.requires.nodes_are, c.requires.marks_are),
  omega (arith, small_product c.from-states.result c.args.index.now.nodes c.args.index.now.marks (omega arith) (omega arith) (omega arith)),
)
