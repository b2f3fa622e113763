-- `judge::table::cell_position` meets its contract.
use Rattle.std.proofs.Common.{arith}
use Rattle.judge.proofs.Steps.Products.{place_fits}
use Rattle.judge.proofs.table.cell_position.Goals as goal

pub overflow_mul-result : goal.overflow_mul-result
overflow_mul-result c = omega (arith, place_fits c.args.state.0 c.args.index.now.nodes 0 0 (omega arith) (omega arith) (omega arith) (omega arith))

pub overflow_add-result : goal.overflow_add-result
overflow_add-result c = omega (arith, place_fits c.args.state.0 c.args.index.now.nodes 0 0 (omega arith) (omega arith) (omega arith) (omega arith))

pub overflow_mul-result-2 : goal.overflow_mul-result-2
overflow_mul-result-2 c = omega (arith, place_fits c.args.state.0 c.args.index.now.nodes c.args.node.0 c.args.index.now.marks (omega arith) (omega arith) (omega arith) (omega arith))

pub overflow_add-result-2 : goal.overflow_add-result-2
overflow_add-result-2 c = omega (arith, place_fits c.args.state.0 c.args.index.now.nodes c.args.node.0 c.args.index.now.marks (omega arith) (omega arith) (omega arith) (omega arith))
