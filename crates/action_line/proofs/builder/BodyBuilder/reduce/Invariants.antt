-- What the loop keeps, and how far it still has to go.
use Rattle.std.proofs.Common.{◌≡◌, ◌+◌}
use Rattle.action_line.specs.Internal.Building.{kind_of, reduced, state_of}
use Rattle.action_line.proofs.builder.BodyBuilder.reduce.Given as goal

abbrev pub invariant-loop-operator : goal.invariant-loop-operator
invariant-loop-operator l = record {
  same : reduced (kind_of l.operator) (state_of l.self) ≡ reduced (kind_of l.operator) (state_of l.initial.self);
  total : l.self.top + l.self.count ≡ l.initial.self.top + l.initial.self.count;
  depth : l.self.depth ≡ l.initial.self.depth;
}

abbrev pub decreases-loop-operator : goal.decreases-loop-operator
decreases-loop-operator l = l.self.top
