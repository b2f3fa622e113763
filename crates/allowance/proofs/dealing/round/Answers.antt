use native.Mathlib.Omega.{arith}
use mathlib.Core.Path.{refl, ◌∙◌}
use mathlib.Core.Logic.{inl, inr}
use lib.ListN.{get_or, length-map}
use borrow.Author.Rules.{rules}
use Prim.Native.Nat.{◌+◌}
use Rattle.allowance.specs.Granting.{no_bench}
use Rattle.allowance.specs.Internal.Benches.{needs_in, grants_in}
use Rattle.allowance.proofs.Steps.Dealing.{round_starts, bench_served, bench_passed, round_ends}
use Rattle.allowance.proofs.dealing.round.Goals as goal
use Rattle.allowance.proofs.dealing.round.Goals.{then-left-gt0+then-bench, else-left-gt0, else-left-gt0-via-then-left-gt0+else-bench, else-left-gt0-via-else-left-gt0}

pub loop-bench-init : goal.loop-bench-init
loop-bench-init c =
    record { round = round_starts (needs_in c.args.benches.now) (grants_in c.args.benches.now) c.args.visits; needs_same = refl; verdicts_same = refl }

pub loop-bench-preserved : goal.loop-bench-preserved
loop-bench-preserved c = elim c.if-left-gt0.branch [
  | then-left-gt0+then-bench w ↦ bench_served c.loop-bench.invariant (omega arith) w.if-left-gt0.true w.if-bench.true (record (get_or c.loop-bench.benches c.loop-bench.bench-index no_bench) { grant = (get_or c.loop-bench.benches c.loop-bench.bench-index no_bench).grant + 1 }) (search rules) w.left-is refl refl refl
  | else-left-gt0 w ↦ elim w.else-left-gt0.branch [
    | else-left-gt0-via-then-left-gt0+else-bench v ↦ bench_passed c.loop-bench.invariant (omega arith) (inr v.if-bench.false) (w.benches-is ∙ v.benches-is) w.left-is
    | else-left-gt0-via-else-left-gt0 v ↦ bench_passed c.loop-bench.invariant (omega arith) (inl (omega (arith, v.if-left-gt0.false))) (w.benches-is ∙ v.benches-is) w.left-is
  ]
]

pub returns-clause-dealt : goal.returns-clause-dealt
returns-clause-dealt c = round_ends c.loop-bench.invariant.round (omega (arith, length-map c.args.benches.now (λ b. b.need)))
