-- What the loop keeps.
use Rattle.action_line.specs.Internal.Lexemes.{tokens_left}
use Rattle.action_line.specs.Internal.Checking.{expected_by}
use Rattle.action_line.proofs.Steps.Passing.{Passes}
use Rattle.action_line.proofs.pass.pass_over.Given as goal

abbrev pub invariant-loop-token : goal.invariant-loop-token
invariant-loop-token l =
    Passes l.actions l.line l.initial.builder.made (expected_by l.expected) l.known l.entries l.builder (tokens_left l.token-iterator)
