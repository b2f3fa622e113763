-- The nodes passed.
use Rattle.sheet.specs.KindNumbers.{node_kind_number}
use Rattle.reference.specs.Internal.Evaluating.{Restarted}
use Rattle.reference.proofs.sets.Context.restart.Given as goal

abbrev pub invariant-loop-n : goal.invariant-loop-n
invariant-loop-n l = Restarted l.rule l.fn.first.0 l.n (node_kind_number l.kind) l.states l.initial.self l.self
