-- Clearing: what it answers and what it leaves in the table's buffer, for every list of bytes as sheet and as buffer.
use Rattle.std.specs.Prelude.{◌≡◌, ℕ, List, ◌++◌, length, drop, replicate, nat_le, Err, Ok, Result}
use Rattle.sheet.specs.Refusals.{number_of, place_of, require, and_then}
use Rattle.sheet.specs.Reading.{sheet_check}
use Rattle.sheet.specs.declared.Refusal.TheVariants.{TableShort}
use Rattle.sheet.specs.Refusals.{Check}
use Rattle.judge.specs.Cells.{table_bytes}
use Rattle.sheet.specs.declared.Refusal.{Refusal}

-- what clearing answers
abbrev pub Cleared : Type 0
Cleared = Result (Unit {0}) Refusal

-- "clearing 1 to 10, then 20"
unfoldable pub clear_check : List ℕ → List ℕ → Check
clear_check s t = and_then (sheet_check s) (require (nat_le (table_bytes s) (length t)) TableShort)

-- what clearing answers for every sheet and buffer
abbrev pub answer_cleared : Check → Cleared
answer_cleared (Ok tt) = Ok tt
answer_cleared (Err r) = Err r

-- the answer for every sheet and buffer
unfoldable pub cleared_of : List ℕ → List ℕ → Cleared
cleared_of s t = answer_cleared (clear_check s t)

-- "Clearing sets them to 0", the cells and, by document 02 (f), the count after them; "bytes past them never change"; "A refused call ..
-- changes no buffer"
abbrev pub emptied : ℕ → List ℕ → Check → List ℕ
emptied size t (Ok tt) = replicate size 0 ++ drop size t
emptied size t (Err r) = t

-- the buffer that clearing leaves, for every sheet and buffer
unfoldable pub table_cleared : List ℕ → List ℕ → List ℕ
table_cleared s t = emptied (table_bytes s) t (clear_check s t)

-- what each answer reports: number and place
pub record ClearReport : Type 0 where
  pub number : ℕ
  pub place : ℕ

-- number and place of each answer: "An accepted call gives number 0 and place 0."
abbrev pub reported_clear : Cleared → ClearReport
reported_clear (Ok tt) = record { number = 0; place = 0 }
reported_clear (Err r) = record { number = number_of r; place = place_of r }

-- what clearing reports for every sheet and every buffer
abbrev pub clear_report_of : List ℕ → List ℕ → ClearReport
clear_report_of s t = reported_clear (cleared_of s t)

-- The contract of `clear`: a call on the sheet s and the buffer t answered r and left u. Demand 3 of the running calls speaks of it.
abbrev pub Clears : List ℕ → List ℕ → Cleared → List ℕ → Type 0
Clears s t r u = (r ≡ cleared_of s t) × ((reported_clear r ≡ clear_report_of s t) × (u ≡ table_cleared s t))
