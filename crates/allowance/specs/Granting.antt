-- Document 02 (l): one allowance of visits for several benches. What the call answers and what it leaves in the buffer, for every list of
-- bytes as sheet, as states and as buffer, and every V. It says all of it by the judge's definition of a query.
use Rattle.std.specs.Prelude.{ℕ, zero, suc, ◌+◌, ◌*◌, ◌≡◌, Bool, true, false, not, ◌&&◌, List, [], ◌∷◌, ◌++◌, length, drop, replicate, eqb, ltb, leb, Result}
use Rattle.sheet.specs.Bytes.{byte, slice, pick, lowest}
use Rattle.sheet.specs.Refusals.{number_of, place_of}
use Rattle.judge.specs.Cells.{table_bytes}
use Rattle.judge.specs.Querying.{QueryReport, queried_of, table_queried, query_report_of}
use Rattle.std.specs.Prelude.{Ok, Err}
use Rattle.judge.specs.Querying.{Queried}
use Rattle.judge.specs.declared.QueryError.TheVariants.{WrongCount as QueryWrongCount, Refused as QueryRefused}
use Rattle.allowance.specs.Dealing.{of_bench, deal}
use Rattle.allowance.specs.declared.GrantError.{GrantError}
use Rattle.allowance.specs.declared.GrantError.TheVariants.{BenchCountWrong, WrongCount, Refused}
use Rattle.allowance.specs.declared.Bench.{Bench}

-- "It refuses k of 0 or over 8 with 44"
abbrev pub most_benches : ℕ
most_benches = 8

-- k, the number of states, is neither 0 nor over 8
abbrev pub bench_count_right : List ℕ → Bool
bench_count_right states = not (eqb (length states) 0) && leb (length states) most_benches

-- something of each of count benches, from bench i on
unfoldable pub for_benches : {A : Type 0} → (ℕ → A) → ℕ → ℕ → List A
for_benches f zero i = []
for_benches f (suc count) i = f i ∷ for_benches f count (i + 1)

-- tables end to end, of count benches from bench i on, and after them these bytes
unfoldable pub end_to_end : (ℕ → List ℕ) → ℕ → ℕ → List ℕ → List ℕ
end_to_end table zero i after = after
end_to_end table (suc count) i after = table i ++ end_to_end table count (i + 1) after

-- whether the visits are dealt, or why the call is turned down
abbrev pub Answer : Type 0
Answer = Result (Unit {0}) GrantError

-- what a bench's own refusal answers of the whole call; a query that is not refused turns nothing down
abbrev pub refusal_of : Queried → Answer
refusal_of (Ok j) = Ok tt
refusal_of (Err QueryWrongCount) = Err WrongCount
refusal_of (Err (QueryRefused x)) = Err (Refused x)

-- "A bench granted its whole need then queries in its own table": its results, q being what its query reports
abbrev pub queried_bench : ℕ → ℕ → QueryReport → Bench
queried_bench need grant q = record { need = need; grant = grant; short = false; verdict = q.verdict; visits = q.visits }

-- "any other is marked short, verdict false, visits 0"
abbrev pub short_bench : ℕ → ℕ → Bench
short_bench need grant = record { need = need; grant = grant; short = true; verdict = false; visits = 0 }

-- where there is no bench every result is 0
abbrev pub no_bench : Bench
no_bench = record { need = 0; grant = 0; short = false; verdict = false; visits = 0 }

abbrev pub no_benches : List Bench
no_benches = replicate most_benches no_bench

-- "a table (end to end from the start of one buffer, in bench order)": bench i's, or as much of it as the buffer has
abbrev pub bench_table : List ℕ → List ℕ → ℕ → List ℕ
bench_table s t i = slice t (i * table_bytes s) (table_bytes s)

module _ (s states t : List ℕ) where
  -- the query of bench i on its own table: what it would answer
  abbrev pub bench_queried : ℕ → Queried
  bench_queried i = queried_of s (byte states i) (bench_table s t i)

  -- what it would report
  abbrev pub bench_report : ℕ → QueryReport
  bench_report i = query_report_of s (byte states i) (bench_table s t i)

  -- "a need, the number of empty cells its query would fill": the visits that it would report (BenchRight of specs/GrantsCorrect.antt)
  abbrev pub need_of : ℕ → ℕ
  need_of i = (bench_report i).visits

  -- the needs of all benches
  abbrev pub needs_of : List ℕ
  needs_of = for_benches need_of (length states) 0

  -- "the benches' own refusals": bench i's query would be refused
  abbrev pub is_refused : ℕ → Bool
  is_refused i = not (eqb (bench_report i).number 0)

  -- the lowest bench that has one, or k
  abbrev pub lowest_refused : ℕ
  lowest_refused = lowest is_refused (length states)

  -- "of the benches' own refusals the lowest bench's turns the whole call down"
  abbrev pub answer_benches : Answer
  answer_benches = pick (eqb lowest_refused (length states)) (Ok tt) (refusal_of (bench_queried lowest_refused))

  -- "k of 0 or over 8 with 44, before anything else"
  unfoldable pub answer_of : Answer
  answer_of = pick (bench_count_right states) answer_benches (Err BenchCountWrong)

  -- the benches' grants, a number for each
  module _ (grants : List ℕ) where
    -- bench i is short: not "granted its whole need"
    abbrev pub is_short : ℕ → Bool
    is_short i = ltb (of_bench grants i) (need_of i)

    -- what the call gives of bench i
    abbrev pub bench_of : ℕ → Bench
    bench_of i = pick (is_short i) (short_bench (need_of i) (of_bench grants i)) (queried_bench (need_of i) (of_bench grants i) (bench_report i))

    -- bench i's table after the call: the query's, and of a short bench "table as before"
    abbrev pub table_of : ℕ → List ℕ
    table_of i = pick (is_short i) (bench_table s t i) (table_queried s (byte states i) (bench_table s t i))

    -- the results, with room for the most benches: one for each bench, and from k on none
    unfoldable pub benches_granted : List Bench
    benches_granted = for_benches (λ i. pick (ltb i (length states)) (bench_of i) no_bench) most_benches 0

    -- the buffer: the benches' tables, and the bytes after them as they were
    unfoldable pub tables_granted : List ℕ
    tables_granted = end_to_end table_of (length states) 0 (drop (length states * table_bytes s) t)

  -- "A controller grants V visits to k benches": V is the allowance, and the grants are dealt
  abbrev pub grants_of : ℕ → List ℕ
  grants_of allowance = deal needs_of allowance

  -- document 01: "A refused call gives verdict .. false, .. visits .. and any further result number 0"
  abbrev pub benches_by : ℕ → Answer → List Bench
  benches_by allowance (Ok tt) = benches_granted (grants_of allowance)
  benches_by allowance (Err BenchCountWrong) = no_benches
  benches_by allowance (Err WrongCount) = no_benches
  benches_by allowance (Err (Refused x)) = no_benches

  -- "turns the whole call down, and no table changes"
  abbrev pub tables_by : ℕ → Answer → List ℕ
  tables_by allowance (Ok tt) = tables_granted (grants_of allowance)
  tables_by allowance (Err BenchCountWrong) = t
  tables_by allowance (Err WrongCount) = t
  tables_by allowance (Err (Refused x)) = t

  -- the results of the benches, for every sheet, states, buffer and V
  unfoldable pub benches_for : ℕ → List Bench
  benches_for allowance = benches_by allowance answer_of

  -- the buffer that the call leaves, for every sheet, states, buffer and V
  unfoldable pub tables_left : ℕ → List ℕ
  tables_left allowance = tables_by allowance answer_of

-- What each answer says: number and place. Document 01: "An accepted call gives number 0 and place 0."; "Other places are 0."
pub record AnswerReport : Type 0 where
  pub number : ℕ
  pub place : ℕ

-- number and place of each answer
abbrev pub reported_answer : Answer → AnswerReport
reported_answer (Ok tt) = record { number = 0; place = 0 }
reported_answer (Err BenchCountWrong) = record { number = 44; place = 0 }
reported_answer (Err WrongCount) = record { number = 35; place = 0 }
reported_answer (Err (Refused x)) = record { number = number_of x; place = place_of x }

-- number and place for every sheet, states and buffer
abbrev pub answer_report_of : List ℕ → List ℕ → List ℕ → AnswerReport
answer_report_of s states t = reported_answer (answer_of s states t)

-- what the call gives: the results of the benches, with room for the most benches, or why it was turned down
abbrev pub Granted : Type 0
Granted = Result (List Bench) GrantError

-- the answer of a call
abbrev pub answer_in : Granted → Answer
answer_in (Ok benches) = Ok tt
answer_in (Err e) = Err e

-- the results of the benches; document 01: "A refused call gives verdict .. false, .. visits .. and any further result number 0"
abbrev pub benches_in : Granted → List Bench
benches_in (Ok benches) = benches
benches_in (Err e) = no_benches

-- The contract of `grant`: a call on the sheet s, the benches' states, the allowance and the buffer t answered r and left u. The theorems
-- of GrantsCorrect speak of it.
abbrev pub Grants : List ℕ → List ℕ → ℕ → List ℕ → Granted → List ℕ → Type 0
Grants s states allowance t r u =
    (answer_in r ≡ answer_of s states t)
    × ((reported_answer (answer_in r) ≡ answer_report_of s states t)
    × ((benches_in r ≡ benches_for s states t allowance) × (u ≡ tables_left s states t allowance)))
