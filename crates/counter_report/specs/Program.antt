-- Document 02 (g): "Its program .. prints the lines or only the refusal line". What it prints for every list of bytes, and what that is by
-- Table 1.
use Rattle.std.specs.Prelude.{ℕ, ◌+◌, ◌<◌, ◌≤◌, ◌≡◌, List, ◌∷◌, ◌⊎◌, length, replicate, Err, Ok}
use Rattle.text.specs.RefusalLine.{refusal_line}
use Rattle.sheet.specs.Refusals.{number_of, place_of}
use Rattle.sheet.specs.Reading.{sheet_check}
use Rattle.sheet.specs.RunningCalls.{AllBytes}
use Rattle.sheet.specs.declared.Refusal.{Refusal}
use Rattle.calculus.specs.KeySheet.{K}
use Rattle.judge.specs.LargestTable.{largest_table}
use Rattle.report.specs.Text.{text_of}
use Rattle.report.specs.Reporting.{Report, most_queries, least_output, report_text, report_of, reported_text}
use Rattle.report.specs.ReportCorrect.{ReportCorrect}
use Rattle.report.specs.ReportsToTry.{key_text}
use Rattle.report.specs.declared.ReportError.TheVariants.{TooManyQueries, Refused}
use Rattle.counter_report.specs.Input.{input_count, input_states, input_sheet}

-- the program's table: room for that of every sheet
unfoldable pub own_table : List ℕ
own_table = replicate largest_table 0

-- its output: "room enough for the longest text"
unfoldable pub own_output : List ℕ
own_output = replicate least_output 0

-- "prints the lines or only the refusal line"
abbrev pub printed : List ℕ → Report → List ℕ
printed lines (Ok n) = lines
printed lines (Err TooManyQueries) = refusal_line (reported_text (Err TooManyQueries)).number (reported_text (Err TooManyQueries)).place
printed lines (Err (Refused x)) = refusal_line (reported_text (Err (Refused x))).number (reported_text (Err (Refused x))).place

-- the report on a sheet and a list of states, with these buffers
abbrev pub report_on : List ℕ → List ℕ → Report
report_on s states = report_of s states own_table own_output

-- and what is printed of it
unfoldable pub text_on : List ℕ → List ℕ → List ℕ
text_on s states = printed (report_text s states own_table) (report_on s states)

-- of a file
abbrev pub program_text : List ℕ → List ℕ
program_text file = text_on (input_sheet file) (input_states file)

-- the right text of a file: for every list of bytes one of three cases, which exclude one another
pub data RightText (file : List ℕ) : List ℕ → Type 0 where
  -- "It refuses more than 64 queries with 36, before anything else"
  too_many : most_queries < input_count file → RightText file (refusal_line 36 0)
  -- "a number that clearing gives turns the whole report down": 1 to 10
  unreadable :
      {x : Refusal} → input_count file ≤ most_queries → sheet_check (input_sheet file) ≡ Err x
      → RightText file (refusal_line (number_of x) (place_of x))
  -- the lines of a list of queries that is right by the rows and Table 1, and of its total (specs/ReportCorrect.antt of the report)
  reported :
      {n : ℕ} {left output : List ℕ} → input_count file ≤ most_queries → sheet_check (input_sheet file) ≡ Ok tt
      → (right : ReportCorrect (input_sheet file) (input_states file) own_table own_output n left output)
      → RightText file (text_of (input_states file) right.answers)

-- the program is right about every list of bytes
abbrev pub ProgramCorrect : Type 0
ProgramCorrect = (file : List ℕ) → AllBytes file → RightText file (program_text file)

-- an input that ends within its states or right behind them; no input at all is one of them
pub record EndsEarly : Type 0 where
  -- "an input that ends too early counts as one with an empty sheet": with the same count, as many states, whichever, and no more
  pub as_empty :
      (file states : List ℕ) → length file ≤ 1 + input_count file → length states ≡ input_count file
      → program_text file ≡ program_text (input_count file ∷ states)
  -- "1: under 17 bytes."
  pub one : (file : List ℕ) → length file ≤ 1 + input_count file → input_count file ≤ most_queries → program_text file ≡ refusal_line 1 0

-- it gives 0, 1 to 10 or 36: never 20 or 22, since both buffers are long enough
abbrev pub ProgramNumbers : Type 0
ProgramNumbers =
    (file : List ℕ)
    → ((reported_text (report_on (input_sheet file) (input_states file))).number ≤ 10)
    ⊎ ((reported_text (report_on (input_sheet file) (input_states file))).number ≡ 36)

-- K at the states 0, 1 and 2, as in P1 to P3: `0 true 17`, `1 true 0`, `2 false 9`, `total 26`
abbrev pub KeyPrinted : Type 0
KeyPrinted = program_text (3 ∷ 0 ∷ 1 ∷ 2 ∷ K) ≡ key_text
