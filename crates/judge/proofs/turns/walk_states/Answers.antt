use Rattle.std.proofs.Common.{◌≡◌, ◌+◌, length, sym, ap, ◌∙◌, arith}
use Rattle.judge.proofs.Steps.DecideSteps.{size_small}
use Rattle.judge.proofs.Steps.TurnSteps.{queried_start, state_decidable, sum_few, queried_next, queried_stop, queried_end}
use Rattle.judge.proofs.turns.walk_states.Goals as goal

pub loop-passed-init : goal.loop-passed-init
loop-passed-init c = queried_start c.requires

pub decide-w-requires : goal.decide-w-requires
decide-w-requires c = state_decidable c.requires c.loop-passed.invariant c.loop-passed-test.true

pub overflow_add-visits : goal.overflow_add-visits
overflow_add-visits c =
    omega (
      arith,
      c.visits-visits.ensures,
      size_small _ c.requires.prepared.accepted,
      sum_few c.requires c.loop-passed.invariant c.loop-passed-test.true c.decide-w.ensures,
    )

pub returns-then-not-is_true : goal.returns-then-not-is_true
returns-then-not-is_true c =
    queried_stop c.requires c.loop-passed.invariant c.loop-passed-test.true c.decide-w.ensures
    (sym c.is_true.ensures ∙ c.if-not-is_true.true) (ap (λ (k : _). c.loop-passed.visits + k) c.visits-visits.ensures)

pub loop-passed-preserved : goal.loop-passed-preserved
loop-passed-preserved c =
    queried_next c.requires c.loop-passed.invariant c.loop-passed-test.true c.decide-w.ensures
    (sym c.is_true.ensures ∙ c.if-not-is_true.false) (ap (λ (k : _). c.loop-passed.visits + k) c.visits-visits.ensures)

pub returns : goal.returns
returns c =
    let all : length c.args.states.now ≡ c.loop-passed.passed = omega arith in
    rw all (queried_end c.requires c.loop-passed.invariant c.loop-passed-test.false)
