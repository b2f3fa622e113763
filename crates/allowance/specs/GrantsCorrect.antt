-- Document 02 (l), closed, of every call of `grant` that keeps its contract: which number it gives, and, where it is accepted, what each
-- bench gets and what becomes of its table. Shown by grants_correct of proofs/Statements/GrantsCorrect.antt.
use Rattle.std.specs.Prelude.{ℕ, ◌+◌, ◌*◌, ◌<◌, ◌≤◌, ◌≡◌, true, false, ◌&&◌, List, ◌⊎◌, ◌↔◌, ◌≢◌, length, get_or}
use Rattle.sheet.specs.Bytes.{byte}
use Rattle.sheet.specs.RefusalOrder.{GivenInOrder}
use Rattle.sheet.specs.WellFormed.{WellFormedSheet}
use Rattle.rows.specs.Tables.{byte_at, empty, filled, count}
use Rattle.calculus.specs.Verdict.{Verdict}
use Rattle.judge.specs.Cells.{cell_bytes, table_bytes}
use Rattle.judge.specs.Clearing.{reported_clear, Clears}
use Rattle.judge.specs.Querying.{QueryReport, reported_query, Queries}
use Rattle.judge.specs.CallNumbers.{NoLoopAhead}
use Rattle.judge.specs.Lists.{Calls}
use Rattle.judge.specs.Auditing.{reported_audit, Audits}
use Rattle.judge.specs.Auditing.{Audited}
use Rattle.judge.specs.Clearing.{Cleared}
use Rattle.judge.specs.Querying.{Queried}
use Rattle.allowance.specs.Dealing.{of_bench}
use Rattle.allowance.specs.DealingCorrect.{WellDealt}
use Rattle.allowance.specs.Granting.{most_benches, bench_table, needs_of, grants_of, no_bench, no_benches}
use Rattle.allowance.specs.Granting.{AnswerReport, reported_answer, Grants}
use Rattle.allowance.specs.declared.Bench.{Bench}
use Rattle.allowance.specs.Granting.{Granted, answer_in, benches_in}

-- "k of 0 or over 8"
abbrev pub WrongBenchCount : List ℕ → Type 0
WrongBenchCount states = (length states ≡ 0) ⊎ (most_benches < length states)

-- bench i's own query, of its state on its table, gives this number and this place: every call of `query`
abbrev pub BenchGives : List ℕ → List ℕ → List ℕ → ℕ → ℕ → ℕ → Type 0
BenchGives s states t i number place =
    (q : Queried) (w : List ℕ) → Queries s (byte states i) (bench_table s t i) q w
    → ((reported_query q).number ≡ number) × ((reported_query q).place ≡ place)

-- no bench before bench i is refused
abbrev pub NoneRefusedBefore : List ℕ → List ℕ → List ℕ → ℕ → Type 0
NoneRefusedBefore s states t i = (j : ℕ) → j < i → BenchGives s states t j 0 0

-- "of the benches' own refusals the lowest bench's": that of bench i, of this number and this place. Which number it is, QueryNumbers of
-- specs/CallNumbers.antt of the judge says: 1 to 12, 20, 21 or 35
pub record LowestRefusal (s states t : List ℕ) (i number place : ℕ) : Type 0 where
  pub there : i < length states
  pub gives : BenchGives s states t i number place
  pub none_before : NoneRefusedBefore s states t i

-- document 01: "20: table buffer too short."; document 02 (f): "Number 20 now means four bytes more": too short for bench i, of which no
-- lower number applies
pub record TooShortFor (s states t : List ℕ) (i : ℕ) : Type 0 where
  pub there : i < length states
  pub free : NoLoopAhead s (byte states i)
  pub short : length t < (i + 1) * table_bytes s
  pub none_before : NoneRefusedBefore s states t i

-- A call on the sheet s, the benches' states and the buffer t said a, gave these results of the benches and left u: its number
pub record GrantNumbers (s states t : List ℕ) (a : AnswerReport) (benches : List Bench) (u : List ℕ) : Type 0 where
  -- "It refuses k of 0 or over 8 with 44, before anything else"
  pub forty_four : (a.number ≡ 44) ↔ WrongBenchCount states
  -- "of the benches' own refusals the lowest bench's turns the whole call down": a number other than 0 and 44, with its place
  pub own :
      (number place : ℕ) → number ≢ 0 → number ≢ 44
      → ((a.number ≡ number) × (a.place ≡ place))
      ↔ ((WrongBenchCount states → ⊥) × ((i : ℕ) × LowestRefusal s states t i number place))
  -- accepted: no number applies
  pub accepted : (a.number ≡ 0) ↔ ((WrongBenchCount states → ⊥) × NoneRefusedBefore s states t (length states))
  -- document 01: "They apply in rising order": 1 to 10, which are the sheet's and so the first bench's
  pub in_order : (WrongBenchCount states → ⊥) → GivenInOrder s a.number a.place
  -- a buffer that is too short for a bench is that bench's 20
  pub twenty : (a.number ≡ 20) ↔ ((WrongBenchCount states → ⊥) × ((i : ℕ) × TooShortFor s states t i))
  -- document 01: "Other places are 0."; "An accepted call gives number 0 and place 0."
  pub place : WrongBenchCount states ⊎ WellFormedSheet s → a.place ≡ 0
  -- document 01: "A refused call gives verdict .. false, .. visits .. and any further result number 0 .. and changes no buffer."
  pub refused : a.number ≢ 0 → (benches ≡ no_benches) × (u ≡ t)

-- a table just cleared for the sheet, or that a list of queries left since: calls of `clear`, which gave number 0, and of `query`
pub record LeftByQueries (s table : List ℕ) : Type 0 where
  pub lent : List ℕ
  pub answer : Cleared
  pub cleared : List ℕ
  pub clears : Clears s lent answer cleared
  pub number_0 : (reported_clear answer).number ≡ 0
  pub states : List ℕ
  pub answers : List QueryReport
  pub calls : Calls s cleared states answers table

-- A bench of this state, whose table was `before` and is `after`, with this need and this grant: its results b
pub record BenchRight (s : List ℕ) (state : ℕ) (before after : List ℕ) (need grant : ℕ) (b : Bench) : Type 0 where
  pub need_is : b.need ≡ need
  pub grant_is : b.grant ≡ grant
  -- "a need, the number of empty cells its query would fill", and so the visits that it would report
  pub need_cells :
      (q : Queried) (w : List ℕ) → Queries s state before q w
      → need ≡ count (cell_bytes s) (λ i. empty (byte_at before i) && filled (byte_at w i))
  pub need_visits : (q : Queried) (w : List ℕ) → Queries s state before q w → need ≡ (reported_query q).visits
  -- "A bench granted its whole need then queries in its own table; any other is marked short"
  pub short_exactly : (b.short ≡ true) ↔ (grant < need)
  pub whole_exactly : (b.short ≡ false) ↔ (grant ≡ need)
  pub queries :
      b.short ≡ false → (q : Queried) (w : List ℕ) → Queries s state before q w
      → (b.verdict ≡ (reported_query q).verdict) × ((b.visits ≡ (reported_query q).visits) × (after ≡ w))
  -- "verdict false, visits 0, table as before"
  pub stays : b.short ≡ true → (b.verdict ≡ false) × ((b.visits ≡ 0) × (after ≡ before))
  -- on a table just cleared, or that a list of queries left since, the verdict of a query is Table 1's, and the table is again such a one
  pub verdict_is : LeftByQueries s before → b.short ≡ false → (b.verdict ≡ true) ↔ Verdict s state
  pub again : LeftByQueries s before → LeftByQueries s after
  -- the same on a table from elsewhere to which the audit of document 02 (k) says yes, and it says yes again
  pub audited :
      (a : Audited) → Audits s before a → (reported_audit a).answer ≡ true → b.short ≡ false → (b.verdict ≡ true) ↔ Verdict s state
  pub audited_again :
      (a : Audited) → Audits s before a → (reported_audit a).answer ≡ true → (c : Audited) → Audits s after c
      → (reported_audit c).answer ≡ true

-- the results of bench i
abbrev pub bench_at : List Bench → ℕ → Bench
bench_at benches i = get_or benches i no_bench

-- A call on these, with this allowance, that gave number 0, these results of the benches, and left u
pub record GrantCorrect (s states : List ℕ) (allowance : ℕ) (t : List ℕ) (benches : List Bench) (u : List ℕ) : Type 0 where
  -- a need for each bench, and the grants dealt
  pub need_each : length (needs_of s states t) ≡ length states
  pub well_dealt : WellDealt (needs_of s states t) allowance (grants_of s states t allowance)
  -- each bench, its table before the call and after it
  pub each :
      (i : ℕ) → i < length states
      → BenchRight s (byte states i) (bench_table s t i) (bench_table s u i) (of_bench (needs_of s states t) i)
      (of_bench (grants_of s states t allowance) i) (bench_at benches i)
  -- there is room for eight benches; from k on every result is 0
  pub room : length benches ≡ most_benches
  pub none : (i : ℕ) → length states ≤ i → bench_at benches i ≡ no_bench
  -- the tables lie in the buffer; document 02 (f): "bytes past them never change"
  pub tables_fit : length states * table_bytes s ≤ length t
  pub past : (i : ℕ) → length states * table_bytes s ≤ i → byte_at u i ≡ byte_at t i
  pub length_kept : length u ≡ length t

-- of every call
pub record GrantsCorrect : Type 0 where
  pub numbers :
      (s states : List ℕ) (allowance : ℕ) (t : List ℕ) (r : Granted) (u : List ℕ) → Grants s states allowance t r u
      → GrantNumbers s states t (reported_answer (answer_in r)) (benches_in r) u
  pub accepted :
      (s states : List ℕ) (allowance : ℕ) (t : List ℕ) (r : Granted) (u : List ℕ) → Grants s states allowance t r u
      → (reported_answer (answer_in r)).number ≡ 0 → GrantCorrect s states allowance t (benches_in r) u
