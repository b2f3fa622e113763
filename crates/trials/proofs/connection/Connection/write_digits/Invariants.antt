-- `trials::connection::Connection::write_digits` is safe. Of the loop: its pieces have at most 2,048 bytes.
use Rattle.std.proofs.Common.{◌≡◌}
use Rattle.std.specs.Slice.Iter.{chunks_size}
use Rattle.trials.proofs.connection.Connection.write_digits.Given as goal

abbrev pub invariant-loop-piece : goal.invariant-loop-piece
invariant-loop-piece l = chunks_size l.piece-iterator ≡ 2048
