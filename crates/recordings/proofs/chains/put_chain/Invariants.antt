use mathlib.Core.Path.{◌≡◌}
use Rattle.recordings.proofs.Steps.Chaining.{Chaining}
use Rattle.recordings.proofs.chains.put_chain.Given as goal

abbrev pub invariant-loop-i : goal.invariant-loop-i
invariant-loop-i l = record {
  chaining : Chaining l.run l.fn.room l.i l.writer.place l.writer.out.now;
  same_buffer : l.writer.out.ghost_name ≡ l.initial.writer.out.ghost_name;
}
