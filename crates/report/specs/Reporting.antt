-- Document 02 (g): a report, what it answers and what it leaves in both buffers, for every list of bytes as sheet, states, table and
-- output. It says all of it by the judge's definitions of clearing and query.
use Rattle.std.specs.Prelude.{ℕ, ◌≡◌, Bool, true, false, List, length, leb, Result, Err, Ok}
use Rattle.text.specs.Placing.{starting_with}
use Rattle.sheet.specs.Refusals.{number_of, place_of, require, and_then}
use Rattle.sheet.specs.RunningCalls.{AllBytes}
use Rattle.sheet.specs.declared.Refusal.TheVariants.{OutputShort}
use Rattle.sheet.specs.Refusals.{Check}
use Rattle.judge.specs.Clearing.{clear_check, table_cleared}
use Rattle.judge.specs.Querying.{QueryReport}
use Rattle.judge.specs.Lists.{reports, table_after}
use Rattle.report.specs.Text.{text_of}
use Rattle.report.specs.declared.ReportError.{ReportError}
use Rattle.report.specs.declared.ReportError.TheVariants.{TooManyQueries, Refused}

-- "a list of up to 64 queries"
abbrev pub most_queries : ℕ
most_queries = 64

-- "an output under 1,036 bytes"
abbrev pub least_output : ℕ
least_output = 1036

-- "It refuses more than 64 queries with 36, before anything else"
abbrev pub few_queries : List ℕ → Bool
few_queries states = leb (length states) most_queries

-- "a number that clearing gives turns the whole report down, and after those 22 does, for an output under 1,036 bytes"
unfoldable pub report_check : List ℕ → List ℕ → List ℕ → Check
report_check s t out = and_then (clear_check s t) (require (leb least_output (length out)) OutputShort)

-- "It clears the table, runs a list of .. queries (state bytes) on one sheet": what each query reports
abbrev pub answers_of : List ℕ → List ℕ → List ℕ → List QueryReport
answers_of s states t = reports s (table_cleared s t) states

-- the table that clearing and the queries leave
abbrev pub table_after_queries : List ℕ → List ℕ → List ℕ → List ℕ
table_after_queries s states t = table_after s (table_cleared s t) states

-- "and writes a line for each to an output buffer .. The last line prints `total` and the tally": the text
abbrev pub report_text : List ℕ → List ℕ → List ℕ → List ℕ
report_text s states t = text_of states (answers_of s states t)

-- what a report answers: the length of its text, or why it was turned down
abbrev pub Report : Type 0
Report = Result ℕ ReportError

-- the length of the text, or the refusal
abbrev pub answer_report : ℕ → Bool → Check → Report
answer_report n true (Ok tt) = Ok n
answer_report n true (Err x) = Err (Refused x)
answer_report n false check = Err TooManyQueries

-- the answer for every sheet, list of states, table and output
unfoldable pub report_of : List ℕ → List ℕ → List ℕ → List ℕ → Report
report_of s states t out = answer_report (length (report_text s states t)) (few_queries states) (report_check s t out)

-- "A refused call .. changes no buffer.": what a buffer holds after each answer, by what it would hold after the text was written and what
-- it held before
abbrev pub leaves : List ℕ → List ℕ → Report → List ℕ
leaves after before (Ok n) = after
leaves after before (Err TooManyQueries) = before
leaves after before (Err (Refused x)) = before

-- the table that a report leaves
unfoldable pub table_reported : List ℕ → List ℕ → List ℕ → List ℕ → List ℕ
table_reported s states t out = leaves (table_after_queries s states t) t (report_of s states t out)

-- the output that it leaves: the text at its start, and past it the bytes are unchanged
unfoldable pub output_reported : List ℕ → List ℕ → List ℕ → List ℕ → List ℕ
output_reported s states t out = leaves (starting_with (report_text s states t) out) out (report_of s states t out)

-- What each answer says: number, place and the length of the text. "A refused call gives .. lengths .. 0"; "An accepted call gives number 0
-- and place 0."
pub record TextReport : Type 0 where
  pub number : ℕ
  pub place : ℕ
  pub size : ℕ

-- number, place and length of each answer
abbrev pub reported_text : Report → TextReport
reported_text (Ok n) = record { number = 0; place = 0; size = n }
reported_text (Err TooManyQueries) = record { number = 36; place = 0; size = 0 }
reported_text (Err (Refused x)) = record { number = number_of x; place = place_of x; size = 0 }

-- what a report gives for every sheet, list of states, table and output
abbrev pub text_report_of : List ℕ → List ℕ → List ℕ → List ℕ → TextReport
text_report_of s states t out = reported_text (report_of s states t out)

-- The contract of `report`: a call on the sheet s, the states, the table t and the output out answered r and left the table u and the
-- output v. The numbers of a lent slice are bytes. The theorems of ReportCorrect speak of it.
abbrev pub WritesReport : List ℕ → List ℕ → List ℕ → List ℕ → Report → List ℕ → List ℕ → Type 0
WritesReport s states t out r u v =
    (r ≡ report_of s states t out)
    × ((reported_text r ≡ text_report_of s states t out)
    × ((u ≡ table_reported s states t out) × ((v ≡ output_reported s states t out) × AllBytes states)))
