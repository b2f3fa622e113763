use native.Mathlib.Omega.{arith}
use borrow.Author.Rules.{rules}
use Prim.Native.Nat.{ℕ, ◌+◌}
use mathlib.Core.List.{List}
use mathlib.Core.Path.{◌≡◌, refl, sym, subst₂}
use Rattle.allowance.specs.declared.Bench.{Bench}
use Rattle.allowance.proofs.Steps.Tables.{place_fits}
use Rattle.allowance.proofs.Steps.Granting.{Going, going_start, bench_each, room_now, turn_short, turn_idle, turn_queried, going_end}
use Rattle.allowance.specs.Internal.Benches.{grants_in}
use Rattle.allowance.proofs.granting.query_granted.Goals as goal
use Rattle.allowance.proofs.granting.query_granted.Goals.{Joined-bench, then-bench, else-bench+then-bench-eq0, else-bench+else-bench-eq0}

told : (c : Joined-bench) {benches : List Bench} {tables : List ℕ} → c.if-bench.benches ≡ benches → c.if-bench.tables ≡ tables
    → Going c.args.sheet.now c.args.states.now c.args.tables.now (grants_in c.args.benches.now) c.args.benches.now benches tables (c.loop-i.i + 1)
    → Going c.args.sheet.now c.args.states.now c.args.tables.now (grants_in c.args.benches.now) c.args.benches.now c.if-bench.benches c.if-bench.tables (c.loop-i.i + 1)
told c e f =
    subst₂ (λ (b : List Bench) (t : List ℕ). Going c.args.sheet.now c.args.states.now c.args.tables.now (grants_in c.args.benches.now) c.args.benches.now b t (c.loop-i.i + 1))
    (sym e) (sym f)

pub loop-i-init : goal.loop-i-init
loop-i-init c =
    going_start c.args.sheet.now c.args.states.now c.args.tables.now (grants_in c.args.benches.now) c.args.benches.now (bench_each c.requires)

pub overflow_mul-i : goal.overflow_mul-i
overflow_mul-i c = omega (arith, place_fits c.requires.right c.requires.sized c.loop-i.i (omega arith))

pub query_at-answer-requires : goal.query_at-answer-requires
query_at-answer-requires c = room_now c.requires c.loop-i.invariant (omega arith)

pub loop-i-preserved : goal.loop-i-preserved
loop-i-preserved c = elim c.if-bench.branch [
  | then-bench w ↦ told c w.benches-is w.tables-is (turn_short c.requires c.loop-i.invariant (omega arith) refl w.short.ensures w.if-bench.true)
  | else-bench+then-bench-eq0 w ↦
      told c w.benches-is w.tables-is
      (turn_idle c.requires c.loop-i.invariant (omega arith) refl (record { at = λ k. search rules }) w.idle.ensures w.if-bench-eq0.true)
  | else-bench+else-bench-eq0 w ↦
      told c w.benches-is w.tables-is
      (turn_queried c.requires c.loop-i.invariant (omega arith) refl w.query_at-answer.ensures.value w.queried.ensures w.if-bench.false
      w.query_at-answer.ensures.tables_after)
]

pub returns : goal.returns
returns c = going_end c.args.sheet.now c.args.states.now c.args.tables.now (grants_in c.args.benches.now) c.args.benches.now c.loop-i.invariant (omega arith)
