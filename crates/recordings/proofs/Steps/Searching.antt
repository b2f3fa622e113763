-- What the steps of the search show.
use Prim.Native.Nat.{ℕ, suc, ◌+◌, ◌<◌, ◌≤◌}
use mathlib.Core.Path.{◌≡◌, refl, sym}
use mathlib.Core.Bool.{Bool, true, false}
use mathlib.Core.List.{List}
use native.Mathlib.Omega.{arith}
use lib.ListN.{length}
use borrow.Author.Tests.{le-leb, lt-leb, leb-false, eq-eqb, ne_eqb}
use Rattle.std.specs.Bool.{MatchBool}
use Rattle.std.specs.List.{AllWithin, HoldsAt}
use Rattle.sheet.specs.Bytes.{byte, lowest}
use Rattle.sheet.specs.Contents.{plan_body}
use Rattle.sheet.specs.Plan.{action_count}
use Rattle.sheet.proofs.Checks.Checks.{none_found}
use Rattle.sheet.proofs.Checks.Seeking.{Seeking, seek_start, seek_here, seek_next, seek_end}
use Rattle.std.specs.Prelude.{Ok}
use Rattle.recordings.specs.Shortest.{fails_at, over_at, actions_below, either_fails, fewest, answer_found}
use Rattle.recordings.specs.Runs.{most_actions, WellFormedRun}
use Rattle.recordings.specs.declared.Failing.TheVariants.{First, Second}
use Rattle.std.specs.Prelude.{Some, None}
use Rattle.recordings.proofs.Plans.Runs.{all_below_lem}

-- all actions of the run are below A, or one is not
pub all_tell : (A : ℕ) (run : List ℕ) (r : Bool)
    → MatchBool r (AllWithin (λ action. action < A) run 0 (length run)) ((k : ℕ) × (k < length run) × HoldsAt (λ action. A ≤ action) run k)
    → r ≡ actions_below A run
unfolding actions_below
all_tell A run true all = sym ((none_found (over_at A run) (length run)).1 (λ i h. lt-leb A (byte run i) (all i 0 (omega arith) h)))
all_tell A run false over =
    sym (ne_eqb (lowest (over_at A run) (length run)) (length run)
    (λ q. omega (arith, over.2 0, leb-false A (byte run over.0) ((none_found (over_at A run) (length run)).0 (eq-eqb _ _ q) over.0 over.1))))

module _ (s first second : List ℕ) where
  -- the rule holds on the beginnings of fewer than n actions
  abbrev pub Searched : ℕ → Type 0
  Searched n = Seeking (either_fails s first second) (suc most_actions) (fewest s first second) n

  pub search_start : Searched 0
  unfolding fewest
  search_start = seek_start (either_fails s first second) (suc most_actions) (suc most_actions) refl

  module _ (n : ℕ) (t : Searched n) where
    pub first_fails : n ≤ most_actions → fails_at s first n ≡ true → Ok (Some (First n)) ≡ answer_found s first second
    first_fails h e =
        let is : n ≡ fewest s first second = seek_here t (omega arith) (rw e refl) in
        rw (sym is, le-leb n most_actions h, e) refl

    pub second_fails : n ≤ most_actions → fails_at s first n ≡ false → fails_at s second n ≡ true → Ok (Some (Second n)) ≡ answer_found s first second
    second_fails h d e =
        let is : n ≡ fewest s first second = seek_here t (omega arith) (rw (d, e) refl) in
        rw (sym is, le-leb n most_actions h, d) refl

    pub both_hold : n ≤ most_actions → fails_at s first n ≡ false → fails_at s second n ≡ false → Searched (n + 1)
    both_hold h d e = seek_next t (omega arith) (rw (d, e) refl)

    pub none_fails : most_actions < n → Ok None ≡ answer_found s first second
    none_fails h =
        let is : n ≡ fewest s first second = seek_end t (omega arith) in
        rw (sym is, lt-leb n most_actions h) refl

-- a run that is neither too long nor has an action over
pub run_kept : (s run : List ℕ) → length run ≤ most_actions → actions_below (action_count (plan_body s)) run ≡ true → WellFormedRun s run
run_kept s run h d = record { short = h; below = all_below_lem (action_count (plan_body s)) run d }
