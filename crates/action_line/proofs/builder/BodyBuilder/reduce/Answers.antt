-- `action_line::builder::BodyBuilder::reduce` meets its contract.
use Rattle.std.proofs.Common.{ℕ, sym, ap, ◌∙◌, arith}
use Rattle.action_line.specs.Precedence.{ParserState}
use Rattle.action_line.specs.Internal.Building.{Made, kind_of, made, reduced, stack_of}
use Rattle.action_line.proofs.Steps.Reducing.{one_reduced, all_reduced}
use Rattle.action_line.proofs.builder.BodyBuilder.reduce.Goals as goal

pub loop-operator-preserved : goal.loop-operator-preserved
loop-operator-preserved c =
    let s = c.loop-operator.self in
    let k = kind_of c.args.operator in
    let put = c.put_operator.ensures.state in record {
      same =
          ap (reduced k) put ∙ sym (one_reduced s.waiting k s.depth s.top (made s.count s.made) (sym c.loop-operator-test.ensures.value))
          ∙ c.loop-operator.invariant.same;
      total = omega (arith, ap (λ (t : ParserState ℕ Made). t.made.count) put);
      depth = ap (λ (t : ParserState ℕ Made). t.depth) put ∙ c.loop-operator.invariant.depth;
    }

pub returns-clause-state : goal.returns-clause-state
returns-clause-state c =
    let s = c.loop-operator.self in
    sym (all_reduced (kind_of c.args.operator) s.depth (stack_of s.waiting s.top) (made s.count s.made) (sym c.loop-operator-test.ensures.value))
    ∙ c.loop-operator.invariant.same
