-- Document 02 (f): "The terminal's progress bar wants one place in the table to read." The reading of the count, for every list of bytes as
-- sheet and as table. It takes the count as it stands, whatever the cells hold, and changes nothing.
use Rattle.std.specs.Prelude.{◌≡◌, ℕ, List, Err, Ok, Result}
use Rattle.sheet.specs.Refusals.{number_of, place_of}
use Rattle.sheet.specs.Refusals.{Check}
use Rattle.judge.specs.StoredCount.{stored_count}
use Rattle.judge.specs.Clearing.{clear_check}
use Rattle.sheet.specs.declared.Refusal.{Refusal}

-- what reading the count of a table answers
abbrev pub Counted : Type 0
Counted = Result ℕ Refusal

-- the stored count, or the refusal that clearing gives: 1 to 10, then 20
abbrev pub answer_counted : ℕ → Check → Counted
answer_counted n (Ok tt) = Ok n
answer_counted n (Err x) = Err x

-- the answer for every sheet and table
unfoldable pub counted_of : List ℕ → List ℕ → Counted
counted_of s t = answer_counted (stored_count s t) (clear_check s t)

-- what each answer reports: number, place and the count. "A refused call gives .. any further result number 0"
pub record CountReport : Type 0 where
  pub number : ℕ
  pub place : ℕ
  pub stored : ℕ

-- number, place and count of each answer
abbrev pub reported_count : Counted → CountReport
reported_count (Ok n) = record { number = 0; place = 0; stored = n }
reported_count (Err r) = record { number = number_of r; place = place_of r; stored = 0 }

-- what it reports for every sheet and table
abbrev pub count_report_of : List ℕ → List ℕ → CountReport
count_report_of s t = reported_count (counted_of s t)

-- The contract of `stored_count`: a call on the sheet s and the table t answered r.
abbrev pub ReadsCount : List ℕ → List ℕ → Counted → Type 0
ReadsCount s t r = (r ≡ counted_of s t) × (reported_count r ≡ count_report_of s t)
