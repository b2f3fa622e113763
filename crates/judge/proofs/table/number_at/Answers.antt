-- `judge::table::number_at` meets its contract.
use Rattle.std.proofs.Common.{arith}
use Rattle.judge.proofs.table.number_at.Goals as goal

pub returns : goal.returns
returns c = omega (arith, c.from_le_bytes.ensures)
