-- The beginnings of a run. The test at a length tells whether the rule fails on the beginning of that length; a shortest one that fails is the
-- only one.
use Prim.Native.Nat.{ℕ, ◌<◌, ◌≤◌}
use mathlib.Core.Path.{◌≡◌, refl, sym, ap, ◌∙◌}
use mathlib.Core.Bool.{true, false, not}
use mathlib.Core.List.{List}
use mathlib.Core.Logic.{◌↔◌, inl, inr}
use native.Mathlib.Omega.{arith}
use lib.ListN.{length, take}
use lib.Seq.{take_at, length-take-le}
use lib.Dec.{leb}
use borrow.Author.Tests.{leb-true, le-leb, not-true, not-false}
use Rattle.sheet.proofs.Checks.Bools.{differ}
use Rattle.sheet.proofs.Checks.Checks.{and_parts}
use Rattle.recordings.specs.Runs.{HoldsOn, Beginning, WellFormedRun}
use Rattle.recordings.specs.Shortest.{holds_on, fails_at}
use Rattle.recordings.specs.RecordingsCorrect.{BeginningOfEither, ShortestFailing, FirstHolds}
use Rattle.recordings.proofs.Plans.Runs.{within, taken, beginning_kept}
use Rattle.recordings.proofs.Plans.Queries.{holds_exactly}

front : (b : List ℕ) {run : List ℕ} → Beginning b run → take (length b) run ≡ b
front b p = ap (take (length b)) p.1 ∙ take_at b p.0 (length b) refl

-- ---- the test

module _ (s run : List ℕ) where
  pub fails_within : (n : ℕ) → fails_at s run n ≡ true → n ≤ length run
  unfolding fails_at
  fails_within n e = leb-true n (length run) (and_parts (leb n (length run)) (not (holds_on s (take n run))) e).0

  test_is : (b : List ℕ) → Beginning b run → fails_at s run (length b) ≡ not (holds_on s b)
  unfolding fails_at
  test_is b p = rw (le-leb (length b) (length run) (within b run p), front b p)

  module _ (r : WellFormedRun s run) (b : List ℕ) (p : Beginning b run) where
    computed : (holds_on s b ≡ true) ↔ HoldsOn s b
    computed = holds_exactly s b (beginning_kept s b run r p).below

    pub holding : fails_at s run (length b) ≡ false → HoldsOn s b
    holding e = computed.0 (not-false (holds_on s b) (sym (test_is b p) ∙ e))

    failing : fails_at s run (length b) ≡ true → HoldsOn s b → ⊥
    failing e h = differ (holds_on s b) (computed.1 h) (not-true (holds_on s b) (sym (test_is b p) ∙ e))

-- ---- the shortest that fails

-- the rule fails at the length n, and holds on every beginning that is shorter
pub shortest_taken : (s named other : List ℕ) → WellFormedRun s named → (n : ℕ) → fails_at s named n ≡ true
    → ((c : List ℕ) → BeginningOfEither named other c → length c < n → HoldsOn s c) → ShortestFailing s named other (take n named)
shortest_taken s named other r n e before =
    let size : length (take n named) ≡ n = length-take-le n named (fails_within s named n e) in
    record {
      beginning = taken n named;
      fails = failing s named r (take n named) (taken n named) (ap (fails_at s named) size ∙ e);
      shorter = λ c p h. before c p (omega (arith, size, h));
    }

module _ {s named other : List ℕ} where
  not_shorter : {b c : List ℕ} → ShortestFailing s named other b → ShortestFailing s named other c → length b < length c → ⊥
  not_shorter {b} f g h = f.fails (g.shorter b (inl f.beginning) h)

  pub shortest_same : {b c : List ℕ} → ShortestFailing s named other b → ShortestFailing s named other c → b ≡ c
  shortest_same {b} {c} f g =
      let size : length b ≡ length c = omega (arith, not_shorter f g, not_shorter g f) in
      sym (front b f.beginning) ∙ ap (λ (n : ℕ). take n named) size ∙ front c g.beginning

-- and it is not one of each recording
pub one_named : {s first second b c : List ℕ} → ShortestFailing s first second b → ShortestFailing s second first c → FirstHolds s first c → ⊥
one_named {b} {c} f g holds =
    let not_first : length b < length c → ⊥ = λ h. f.fails (g.shorter b (inr f.beginning) h) in
    let not-second : length c < length b → ⊥ = λ h. g.fails (f.shorter c (inr g.beginning) h) in
    f.fails (holds b f.beginning (omega (arith, not_first, not-second)))
