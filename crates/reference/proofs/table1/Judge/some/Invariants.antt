-- The states found in the transitions passed.
use Rattle.sheet.specs.Plan.{state_count}
use Rattle.reference.specs.Internal.Evaluating.{Members, TransitionInto}
use Rattle.reference.proofs.table1.Judge.some.Given as goal

abbrev pub invariant-loop-i : goal.invariant-loop-i
invariant-loop-i l = Members (state_count l.plan) l.found (TransitionInto l.plan l.self.masks l.entry l.states l.i)
