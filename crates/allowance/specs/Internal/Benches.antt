-- What the functions over all benches ask and promise. Contracts of private functions cite it; no promise of a public call does.
use Rattle.std.specs.Prelude.{ℕ, ◌<◌, ◌≤◌, ◌≡◌, Bool, List, length, Ok, map, replicate}
use Rattle.sheet.specs.Reading.{sheet_check}
use Rattle.judge.specs.Cells.{table_bytes}
use Rattle.allowance.specs.Granting.{most_benches, for_benches, bench_report, needs_of, answer_benches, bench_of, no_bench, tables_granted}
use Rattle.allowance.specs.Granting.{Answer}
use Rattle.allowance.specs.declared.Bench.{Bench}

-- no bench below i is refused: its query is defined to report number 0
abbrev pub ReportsZeroBelow : List ℕ → List ℕ → List ℕ → ℕ → Type 0
ReportsZeroBelow s states t i = (j : ℕ) → j < i → (bench_report s states t j).number ≡ 0

-- the verdicts that the benches' queries would report
abbrev pub verdicts_of : List ℕ → List ℕ → List ℕ → List Bool
verdicts_of s states t = for_benches (λ i. (bench_report s states t i).verdict) (length states) 0

-- an accepted sheet and one to eight benches
pub record BenchesRequire (s states : List ℕ) : Type 0 where
  pub accepted : sheet_check s ≡ Ok tt
  pub some : 0 < length states
  pub few : length states ≤ most_benches

-- the needs, the grants and the verdicts of a list of benches
abbrev pub needs_in : List Bench → List ℕ
needs_in benches = map (λ b. b.need) benches

abbrev pub grants_in : List Bench → List ℕ
grants_in benches = map (λ b. b.grant) benches

abbrev pub verdicts_in : List Bench → List Bool
verdicts_in benches = map (λ b. b.verdict) benches

-- the same, the size of a table, and a place for each bench, of which nothing is known
pub record NeedsRequire (s states : List ℕ) (size : ℕ) (benches : List Bench) : Type 0 where
  pub right : BenchesRequire s states
  pub sized : size ≡ table_bytes s
  pub unknown : benches ≡ replicate (length states) no_bench

-- the lowest bench's refusal, or else the needs and the verdicts, and nothing granted
pub record FindsNeeds (s states t : List ℕ) (r : Answer) (benches : List Bench) : Type 0 where
  pub answers : r ≡ answer_benches s states t
  pub none_refused : r ≡ Ok tt → ReportsZeroBelow s states t (length states)
  pub found : r ≡ Ok tt → needs_in benches ≡ needs_of s states t
  pub judged : r ≡ Ok tt → verdicts_in benches ≡ verdicts_of s states t
  pub none_granted : r ≡ Ok tt → grants_in benches ≡ replicate (length states) 0

-- no bench is refused, and these are the needs and the verdicts
pub record QueriesRequire (s states t : List ℕ) (size : ℕ) (benches : List Bench) : Type 0 where
  pub right : BenchesRequire s states
  pub sized : size ≡ table_bytes s
  pub none_refused : ReportsZeroBelow s states t (length states)
  pub needed : needs_in benches ≡ needs_of s states t
  pub judged : verdicts_in benches ≡ verdicts_of s states t

-- the results of the benches, one for each, and the buffer
abbrev pub QueriesBenches : List ℕ → List ℕ → List ℕ → List ℕ → List Bench → List ℕ → Type 0
QueriesBenches s states t grants r u =
    (r ≡ for_benches (bench_of s states t grants) (length states) 0) × (u ≡ tables_granted s states t grants)
