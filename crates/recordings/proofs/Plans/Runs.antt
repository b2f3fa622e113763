-- Runs that are not refused: the test of a run's places tells of its members, and a beginning of such a run is one.
use Prim.Native.Nat.{ℕ, zero, suc, ◌<◌, ◌≤◌}
use mathlib.Core.Path.{◌≡◌, refl, sym, ap, subst}
use mathlib.Core.Bool.{true, false}
use mathlib.Core.List.Memᴰ
use mathlib.Core.List.{List, [], ◌∷◌, Memᴰ}
use native.Mathlib.Omega.{arith}
use lib.ListN.{length, take, drop, length-append, take-append-drop}
use borrow.Author.Tests.{leb-true, leb-false, eqb-false}
use Rattle.sheet.specs.Bytes.{byte, lowest}
use Rattle.sheet.proofs.Checks.Checks.{none_found}
use Rattle.sheet.proofs.Checks.Lowest.{lowest_bound, lowest_found}
use Rattle.recordings.specs.Runs.{Beginning, WellFormedRun}
use Rattle.recordings.specs.Shortest.{over_at, actions_below}

member_below : (A : ℕ) {action : ℕ} {run : List ℕ} → Memᴰ action run → ((i : ℕ) → i < length run → byte run i < A) → action < A
member_below A (Memᴰ.head e) below = omega (arith, below 0 (omega arith), e)
member_below A (Memᴰ.tail m) below = member_below A m (λ i h. below (suc i) (omega arith))

at_member : (run : List ℕ) (i : ℕ) → i < length run → Memᴰ (byte run i) run
at_member [] i h = absurd (omega arith)
at_member (x ∷ run) zero h = Memᴰ.head refl
at_member (x ∷ run) (suc i) h = Memᴰ.tail (at_member run i (omega arith))

module _ (A : ℕ) (run : List ℕ) where
  pub all_below_lem : actions_below A run ≡ true → (action : ℕ) → Memᴰ action run → action < A
  unfolding actions_below
  all_below_lem e action m = member_below A m (λ i h. leb-false A (byte run i) ((none_found (over_at A run) (length run)).0 e i h))

  pub over_found : actions_below A run ≡ false → (action : ℕ) × Memᴰ action run × (A ≤ action)
  unfolding actions_below
  over_found e =
      let i : ℕ = lowest (over_at A run) (length run) in
      let h : i < length run = omega (arith, lowest_bound (over_at A run) (length run), eqb-false i (length run) e) in
      (byte run i, at_member run i h, leb-true A (byte run i) (lowest_found (over_at A run) (length run) h))

pub within : (b run : List ℕ) → Beginning b run → length b ≤ length run
within b run p = omega (arith, ap length p.1, length-append b p.0)

pub taken : (n : ℕ) (run : List ℕ) → Beginning (take n run) run
taken n run = (drop n run, sym (take-append-drop n run))

pub beginning_kept : (s b run : List ℕ) → WellFormedRun s run → Beginning b run → WellFormedRun s b
beginning_kept s b run r p = record {
  short = omega (arith, within b run p, r.short);
  below = λ action m. r.below action (subst (Memᴰ action) (sym p.1) (Memᴰ.append_left p.0 m));
}
