-- The allowances to try, from the sheets to try.
use Prim.Native.Nat.{ℕ, zero, suc, ◌*◌, ◌<◌}
use mathlib.Core.Path.{◌≡◌, refl, sym, ap, ap₂, ◌∙◌}
use mathlib.Core.Bool.{true, false}
use mathlib.Core.List.{List, [], ◌∷◌}
use mathlib.Core.Logic.{inl, inr}
use native.Mathlib.Omega.{arith}
use lib.ListN.{replicate, get_or}
use lib.Dec.{leb}
use Rattle.sheet.specs.Bytes.{byte, slice, lowest_from}
use Rattle.sheet.specs.Refusals.{and_then, require}
use Rattle.sheet.specs.Refusals.{Check}
use Rattle.sheet.specs.declared.Refusal.TheVariants.{TableShort}
use Rattle.calculus.specs.KeySheet.{K}
use Rattle.judge.specs.Cells.{table_bytes}
use Rattle.judge.specs.Clearing.{clear_check, cleared_of, emptied, table_cleared}
use Rattle.judge.specs.Querying.{QueryReport, queried_of, table_queried, query_report_of}
use Rattle.judge.specs.Lists.{none, call}
use Rattle.judge.specs.SheetsToTry.{judged}
use Rattle.judge.proofs.Statements.SheetsToTry.{sheets_to_try}
use Rattle.allowance.specs.Dealing.{of_bench, deal_from, rounds, deal}
use Rattle.allowance.specs.Granting.{for_benches, bench_table, needs_of, grants_of, reported_answer, Grants}
use Rattle.allowance.specs.GrantsCorrect.{WrongBenchCount, NoneRefusedBefore, BenchRight, bench_at}
use Rattle.allowance.specs.GrantsToTry.{bench, GrantsToTry}
use Rattle.allowance.specs.declared.Bench.{Bench}
use Rattle.allowance.specs.Granting.{Granted, answer_in, benches_in}
use Rattle.allowance.proofs.Statements.GrantsCorrect.{grants_correct}

abbrev states : List ℕ
states = 0 ∷ 0 ∷ []

abbrev tables : List ℕ
tables = replicate 224 0

abbrev table : List ℕ
table = replicate 112 0

sized : table_bytes K ≡ 112
sized = sheets_to_try.p1.table_size_holds

-- ---- a query of state 0 on a cleared table

cleared : table_cleared K table ≡ table
unfolding table_cleared clear_check
cleared =
    ap₂ (λ (a : Check) (n : ℕ). emptied n table (and_then a (require (leb n 112) TableShort))) sheets_to_try.p1.accepted sized

on_cleared : query_report_of K 0 table ≡ judged true 17
on_cleared =
    let c = table_cleared K table in
    ap (query_report_of K 0) (sym cleared)
    ∙ ap (λ (l : List QueryReport). get_or l 0 (judged true 17))
    (sheets_to_try.p1.report table (omega arith) (cleared_of K table) c (query_report_of K 0 c ∷ []) (table_queried K 0 c) (refl, (refl, refl))
    (call (queried_of K 0 c) (refl, (refl, refl)) none)).0

-- ---- of each bench

table_of : (i : ℕ) → i < 2 → bench_table K tables i ≡ table
table_of i h = ap (λ (n : ℕ). slice tables (i * n) n) sized ∙ at i h
  where
    at : (i : ℕ) → i < 2 → slice tables (i * 112) 112 ≡ table
    at zero h = refl
    at (suc zero) h = refl
    at (suc (suc i)) h = absurd (omega arith)

reports_of : (i : ℕ) → i < 2 → query_report_of K (byte states i) (bench_table K tables i) ≡ judged true 17
reports_of i h = ap₂ (query_report_of K) (at i h) (table_of i h) ∙ on_cleared
  where
    at : (i : ℕ) → i < 2 → byte states i ≡ 0
    at zero h = refl
    at (suc zero) h = refl
    at (suc (suc i)) h = absurd (omega arith)

needs_are : needs_of K states tables ≡ 17 ∷ 17 ∷ []
unfolding for_benches
needs_are =
    ap₂ (λ (m n : ℕ). m ∷ n ∷ []) (ap (λ (q : QueryReport). q.visits) (reports_of 0 (omega arith)))
    (ap (λ (q : QueryReport). q.visits) (reports_of 1 (omega arith)))

need_of_lem : (i : ℕ) → of_bench (needs_of K states tables) i ≡ of_bench (17 ∷ 17 ∷ []) i
need_of_lem i = ap (λ (l : List ℕ). of_bench l i) needs_are

grant_of : (allowance i : ℕ) → of_bench (grants_of K states tables allowance) i ≡ of_bench (deal (17 ∷ 17 ∷ []) allowance) i
grant_of allowance i = ap (λ (l : List ℕ). of_bench (deal l allowance) i) needs_are

-- a bench whose query gives true and 17 visits, by its grant
whole : {state : ℕ} {before after : List ℕ} {need grant : ℕ} {b : Bench} → BenchRight K state before after need grant b
    → query_report_of K state before ≡ judged true 17 → need ≡ 17 → grant ≡ 17 → b ≡ bench 17 17 false true 17
whole {state} {before} {need = need} {grant = grant} {b = b} r q n g =
    let full : b.short ≡ false = r.whole_exactly.1 (g ∙ sym n) in
    let says = r.queries full (queried_of K state before) (table_queried K state before) (refl, (refl, refl)) in
    λ k. record {
      need = (r.need_is ∙ n) k;
      grant = (r.grant_is ∙ g) k;
      short = full k;
      verdict = (says.0 ∙ ap (λ (a : QueryReport). a.verdict) q) k;
      visits = (says.1.0 ∙ ap (λ (a : QueryReport). a.visits) q) k;
    }

short_by : {state : ℕ} {before after : List ℕ} {need grant : ℕ} {b : Bench} → BenchRight K state before after need grant b
    → need ≡ 17 → (g : ℕ) → grant ≡ g → g < 17 → b ≡ bench 17 g true false 0
short_by {need = need} {grant = grant} {b = b} r n g e h =
    let less : b.short ≡ true = r.short_exactly.1 (omega (arith, n, e)) in
    λ k. record {
      need = (r.need_is ∙ n) k;
      grant = (r.grant_is ∙ e) k;
      short = less k;
      verdict = (r.stays less).0 k;
      visits = (r.stays less).1.0 k;
    }

-- ---- the calls

right_count : WrongBenchCount states → ⊥
right_count (inl z) = omega (arith, z)
right_count (inr h) = omega (arith, h)

none_refused : NoneRefusedBefore K states tables 2
none_refused j h q w k = (
  ap (λ (a : QueryReport). a.number) (k.1.0 ∙ reports_of j h),
  ap (λ (a : QueryReport). a.place) (k.1.0 ∙ reports_of j h),
)

module _ (allowance : ℕ) (r : Granted) (u : List ℕ) (k : Grants K states allowance tables r u) where
  taken : (reported_answer (answer_in r)).number ≡ 0
  taken = (grants_correct.numbers K states allowance tables r u k).accepted.1 (right_count, none_refused)

  right_at : (i : ℕ) → i < 2 → BenchRight K (byte states i) (bench_table K tables i) (bench_table K u i)
      (of_bench (needs_of K states tables) i) (of_bench (grants_of K states tables allowance) i) (bench_at (benches_in r) i)
  right_at i h = (grants_correct.accepted K states allowance tables r u k taken).each i h

pub grants_to_try : GrantsToTry
unfolding deal rounds deal_from lowest_from
grants_to_try = record {
  enough = λ r u k. (
    taken 34 r u k,
    (
      whole (right_at 34 r u k 0 (omega arith)) (reports_of 0 (omega arith)) (need_of_lem 0) (grant_of 34 0),
      whole (right_at 34 r u k 1 (omega arith)) (reports_of 1 (omega arith)) (need_of_lem 1) (grant_of 34 1),
    ),
  );
  one_too_few = λ r u k. (
    taken 33 r u k,
    (
      whole (right_at 33 r u k 0 (omega arith)) (reports_of 0 (omega arith)) (need_of_lem 0) (grant_of 33 0),
      short_by (right_at 33 r u k 1 (omega arith)) (need_of_lem 1) 16 (grant_of 33 1) (omega arith),
    ),
  );
  as_before = λ r u k.
      let b = right_at 33 r u k 1 (omega arith) in
      (b.stays (b.short_exactly.1 (omega (arith, need_of_lem 1, grant_of 33 1)))).1.1 ∙ table_of 1 (omega arith);
  two_too_few = λ r u k. (
    taken 32 r u k,
    (
      short_by (right_at 32 r u k 0 (omega arith)) (need_of_lem 0) 16 (grant_of 32 0) (omega arith),
      short_by (right_at 32 r u k 1 (omega arith)) (need_of_lem 1) 16 (grant_of 32 1) (omega arith),
    ),
  );
}
