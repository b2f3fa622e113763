-- What the parts of the call show together.
use Prim.Native.Nat.{ℕ, zero, suc, ◌+◌, ◌-◌, ◌<◌, ◌≤◌}
use mathlib.Core.Path.{◌≡◌, refl, sym, ap, ap₂, subst, ◌∙◌}
use mathlib.Core.Bool.{Bool, true, false, not, ◌&&◌}
use mathlib.Core.List.{List, ◌∷◌, ◌++◌}
use mathlib.Core.Logic.{◌≢◌}
use native.Mathlib.Omega.{arith}
use lib.ListN.{length, take, drop, get_or, replicate, length-append, length-drop, length-map, length-replicate, get_or-append}
use lib.Seq.{get_or-append_right, get_or-drop}
use lib.Dec.{eqb, leb, ltb}
use borrow.Author.Tests.{eq-eqb, ne_eqb, le-leb, lt-leb, ltb-true, ltb-false}
use Rattle.std.specs.Prelude.{Err, Ok}
use Rattle.sheet.specs.Bytes.{pick}
use Rattle.sheet.specs.Refusals.{number_of}
use Rattle.sheet.specs.Reading.{sheet_check}
use Rattle.sheet.specs.declared.Refusal.{Refusal}
use Rattle.sheet.proofs.Acceptance.Numbers.{refused_number}
use Rattle.sheet.proofs.Checks.Seeking.{seek_start, seek_here}
use Rattle.judge.specs.Cells.{table_bytes}
use Rattle.judge.specs.Querying.{Queried, reported_query, query_check, queried_of}
use Rattle.judge.specs.declared.QueryError.TheVariants.{Refused as QueryRefused}
use Rattle.allowance.specs.Dealing.{deal}
use Rattle.allowance.specs.Granting.{Answer, Granted, most_benches, refusal_of, bench_count_right, bench_queried, is_refused, lowest_refused, bench_of, no_bench, no_benches}
use Rattle.allowance.specs.Granting.{answer_benches, answer_of, grants_of, benches_granted, tables_granted, benches_by, tables_by, benches_for, tables_left, reported_answer, Grants}
use Rattle.allowance.specs.Internal.Benches.{needs_in, grants_in, verdicts_in, BenchesRequire, FindsNeeds, QueriesRequire, QueriesBenches}
use Rattle.allowance.specs.declared.Bench.{Bench}
use Rattle.allowance.specs.declared.GrantError.{GrantError}
use Rattle.allowance.specs.declared.GrantError.TheVariants.{BenchCountWrong, WrongCount, Refused}
use Rattle.allowance.proofs.Lists.ForBenches.{for_length, for_first, for_each, replicate_at}
use Rattle.allowance.proofs.Tables.Answers.{need_count}

pub take_none : {A : Type 0} (x : A) (k n : ℕ) → k ≤ n → take k (replicate n x) ≡ replicate k x
take_none x zero n h = refl
take_none x (suc k) zero h = absurd (omega arith)
take_none {A} x (suc k) (suc n) h = ap (λ (l : List A). x ∷ l) (take_none x k n (omega arith))

-- ---- the answers

count_passes : (states : List ℕ) → length states ≢ 0 → length states ≤ most_benches → bench_count_right states ≡ true
count_passes states n few = ap₂ (λ (a b : Bool). not a && b) (ne_eqb (length states) 0 n) (le-leb (length states) most_benches few)

module _ {s states : List ℕ} (right : BenchesRequire s states) where
  -- the answer is the benches'
  module _ (t : List ℕ) {a : Answer} (e : a ≡ answer_benches s states t) where
    answer_is : a ≡ answer_of s states t
    unfolding answer_of
    answer_is = e ∙ sym (ap (λ (b : Bool). pick b (answer_benches s states t) (Err BenchCountWrong))
        (count_passes states (λ z. omega (arith, right.some)) right.few))

module _ (s states t : List ℕ) (allowance : ℕ) where
  -- a call that is turned down
  refused_leaves : {e : GrantError} → Err e ≡ answer_of s states t → {g : Granted} → g ≡ Err e → Grants s states allowance t g t
  unfolding benches_for tables_left
  refused_leaves {e} is {g} down =
      subst (λ (x : Granted). Grants s states allowance t x t) (sym down)
      (is, (ap reported_answer is, (sym (nothing e).0 ∙ ap (benches_by s states t allowance) is, sym (nothing e).1 ∙ ap (tables_by s states t allowance) is)))
    where
      nothing : (e : GrantError) → (benches_by s states t allowance (Err e) ≡ no_benches) × (tables_by s states t allowance (Err e) ≡ t)
      nothing BenchCountWrong = (refl, refl)
      nothing WrongCount = (refl, refl)
      nothing (Refused x) = (refl, refl)

  -- 44
  pub wrong_bench_count : bench_count_right states ≡ false → {g : Granted} → g ≡ Err BenchCountWrong → Grants s states allowance t g t
  unfolding answer_of
  wrong_bench_count h = refused_leaves (sym (ap (λ (b : Bool). pick b (answer_benches s states t) (Err BenchCountWrong)) h))

  -- of the benches' own refusals the lowest
  pub needs_turned_down : {benches : List Bench} {e : GrantError} → BenchesRequire s states → FindsNeeds s states t (Err e) benches
      → {g : Granted} → g ≡ Err e → Grants s states allowance t g t
  needs_turned_down right f = refused_leaves (answer_is right t f.answers)

pub no_benches_given : (states : List ℕ) → length states ≡ 0 → bench_count_right states ≡ false
no_benches_given states h = ap (λ (b : Bool). not b && leb (length states) most_benches) (eq-eqb (length states) 0 h)

pub too_many_given : (states : List ℕ) → length states ≢ 0 → most_benches < length states → bench_count_right states ≡ false
too_many_given states n h = ap₂ (λ (a b : Bool). not a && b) (ne_eqb (length states) 0 n) (lt-leb (length states) most_benches h)

-- ---- a sheet that is refused is refused by the first bench

module _ (s states t : List ℕ) {x : Refusal} (failed : sheet_check s ≡ Err x) where
  all_refuse : (i : ℕ) → bench_queried s states t i ≡ Err (QueryRefused x)
  unfolding queried_of query_check
  all_refuse i = rw failed

  pub sheet_turned_down : length states ≢ 0 → length states ≤ most_benches → (allowance : ℕ) {g : Granted}
      → g ≡ Err (Refused x) → Grants s states allowance t g t
  unfolding answer_of
  sheet_turned_down n few allowance = refused_leaves s states t allowance (sym is)
    where
      first : 0 ≡ lowest_refused s states t
      first =
          seek_here (seek_start (is_refused s states t) (length states) (length states) refl) (omega (arith, n))
          (ap (λ (q : Queried). not (eqb (reported_query q).number 0)) (all_refuse 0)
          ∙ ap not (ne_eqb (number_of x) 0 (λ z. omega (arith, refused_number x))))

      is : answer_of s states t ≡ Err (Refused x)
      is =
          let apart : lowest_refused s states t ≡ length states → ⊥ = λ q. n (sym q ∙ sym first) in
          ap (λ (b : Bool). pick b (answer_benches s states t) (Err BenchCountWrong)) (count_passes states n few)
          ∙ ap (λ (b : Bool). pick b (Ok tt) (refusal_of (bench_queried s states t (lowest_refused s states t))))
          (ne_eqb (lowest_refused s states t) (length states) apart)
          ∙ ap refusal_of (all_refuse (lowest_refused s states t))

-- ---- nothing is refused

module _ {s states t : List ℕ} (right : BenchesRequire s states) {asked : List Bench} (f : FindsNeeds s states t (Ok tt) asked) where
  asked_each : length asked ≡ length states
  asked_each = sym (length-map asked (λ b. b.need)) ∙ ap (length {A = ℕ}) (f.found refl) ∙ need_count s states t

  pub none_dealt : grants_in asked ≡ replicate (length asked) 0
  none_dealt = f.none_granted refl ∙ ap (λ (n : ℕ). replicate n 0) (sym asked_each)

  module _ (allowance : ℕ) (benches : List Bench) (needs_same : needs_in benches ≡ needs_in asked) (verdicts_same : verdicts_in benches ≡ verdicts_in asked)
      (dealt : grants_in benches ≡ deal (needs_in asked) allowance) where
    pub queries_asked : {size : ℕ} → size ≡ table_bytes s → QueriesRequire s states t size benches
    queries_asked sized = record {
      right = right;
      sized = sized;
      none_refused = f.none_refused refl;
      needed = needs_same ∙ f.found refl;
      judged = verdicts_same ∙ f.judged refl;
    }

    grants_are : grants_in benches ≡ grants_of s states t allowance
    grants_are = dealt ∙ ap (λ (l : List ℕ). deal l allowance) (f.found refl)

    -- every visit is dealt, and the results stand before the places where there is no bench
    pub dealt_to_all : {results r : List Bench} {u : List ℕ} → QueriesBenches s states t (grants_in benches) results u
        → r ≡ results ++ drop (length states) no_benches → Grants s states allowance t (Ok r) u
    unfolding benches_for tables_left benches_granted
    dealt_to_all {results} {r} {u} q e =
        let is = answer_is right t (f.answers) in (
          is,
          (
            ap reported_answer is,
            (
              whole ∙ ap (benches_by s states t allowance) is,
              q.1 ∙ ap (tables_granted s states t) grants_are ∙ ap (tables_by s states t allowance) is,
            ),
          ),
        )
      where
        result : ℕ → Bench
        result j = pick (ltb j (length states)) (bench_of s states t (grants_in benches) j) no_bench

        result_each : length results ≡ length states
        result_each = ap (length {A = Bench}) q.0 ∙ for_length (bench_of s states t (grants_in benches)) (length states) 0

        rest_each : length (drop (length states) no_benches) ≡ most_benches - length states
        rest_each = length-drop (length states) no_benches ∙ ap (λ (n : ℕ). n - length states) (length-replicate most_benches no_bench)

        each : (j : ℕ) → j < most_benches → get_or r j no_bench ≡ result j
        each j l = ap (λ (x : List Bench). get_or x j no_bench) e ∙ go (ltb j (length states)) refl
          where
            go : (b : Bool) → ltb j (length states) ≡ b
                → get_or (results ++ drop (length states) no_benches) j no_bench ≡ pick b (bench_of s states t (grants_in benches) j) no_bench
            go true p =
                let h : j < length states = ltb-true j (length states) p in
                get_or-append results (drop (length states) no_benches) no_bench j (omega (arith, result_each))
                ∙ ap (λ (x : List Bench). get_or x j no_bench) q.0 ∙ for_first (bench_of s states t (grants_in benches)) (length states) j no_bench h
            go false p =
                let h : length states ≤ j = ltb-false j (length states) p in
                get_or-append_right results (drop (length states) no_benches) j no_bench (omega (arith, result_each))
                ∙ get_or-drop (length states) no_benches (j - length results) no_bench ∙ replicate_at most_benches (length states + (j - length results)) no_bench

        whole : r ≡ benches_granted s states t (grants_of s states t allowance)
        whole =
            for_each result most_benches r no_bench
            (ap (length {A = Bench}) e ∙ length-append results (drop (length states) no_benches) ∙ omega (arith, result_each, rest_each, right.few)) each
            ∙ ap (λ (g : List ℕ). benches_granted s states t g) grants_are
