-- Document 02 (g): what a report is, of every call of `report` that keeps its contract: which number it gives, and, where it is accepted,
-- what its text says. Shown by reports_correct of proofs/Statements/ReportCorrect.antt.
use Rattle.std.specs.Prelude.{ℕ, ◌<◌, ◌≤◌, ◌≡◌, List, ◌⊎◌, ◌↔◌, ◌≢◌, length}
use Rattle.text.specs.Placing.{Puts}
use Rattle.sheet.specs.RunningCalls.{AllBytes}
use Rattle.judge.specs.StoredCount.{stored_count}
use Rattle.judge.specs.Clearing.{reported_clear, Clears}
use Rattle.judge.specs.Querying.{QueryReport}
use Rattle.judge.specs.Counting.{reported_count, ReadsCount}
use Rattle.judge.specs.Lists.{JustCleared, Calls, visits_of}
use Rattle.judge.specs.Demand3.{ListCorrect}
use Rattle.judge.specs.Clearing.{Cleared}
use Rattle.judge.specs.Counting.{Counted}
use Rattle.report.specs.Text.{tally_of, text_of}
use Rattle.report.specs.Reporting.{most_queries, least_output, report_text, reported_text, WritesReport}
use Rattle.report.specs.Reporting.{Report}

-- "room enough for the longest text": no text is longer, whatever the sheet, where clearing gives number 0
abbrev pub RoomForEveryReport : Type 0
RoomForEveryReport =
    (s states t : List ℕ) → AllBytes states → length states ≤ most_queries → JustCleared s t
    → length (report_text s states t) ≤ least_output

-- A call on the sheet s, the states, the table t and the output out answered r and left the table u and the output v: its number
pub record ReportNumbers (s states t out : List ℕ) (r : Report) (u v : List ℕ) : Type 0 where
  -- "It refuses more than 64 queries with 36, before anything else"
  pub thirty_six : ((reported_text r).number ≡ 36) ↔ (most_queries < length states)
  -- "a number that clearing gives turns the whole report down", with its place
  pub clearing :
      length states ≤ most_queries → (c : Cleared) (w : List ℕ) → Clears s t c w → (reported_clear c).number ≢ 0
      → reported_text r ≡ record { number = (reported_clear c).number; place = (reported_clear c).place; size = 0 }
  -- "and after those 22 does, for an output under 1,036 bytes"
  pub twenty_two :
      ((reported_text r).number ≡ 22) ↔ ((length states ≤ most_queries) × (JustCleared s t × (length out < least_output)))
  -- accepted: no number applies
  pub accepted :
      ((reported_text r).number ≡ 0) ↔ ((length states ≤ most_queries) × (JustCleared s t × (least_output ≤ length out)))
  -- "Other places are 0.": those of 36 and 22; "An accepted call gives number 0 and place 0."
  pub place : (most_queries < length states) ⊎ JustCleared s t → (reported_text r).place ≡ 0
  -- "A refused call gives .. lengths .. 0 .. and changes no buffer."
  pub refused : (reported_text r).number ≢ 0 → ((reported_text r).size ≡ 0) × ((u ≡ t) × (v ≡ out))

-- A call on these that gave number 0 and the length n, and left the table u and the output v: its text
pub record ReportCorrect (s states t out : List ℕ) (n : ℕ) (u v : List ℕ) : Type 0 where
  -- "clears the table, runs a list of .. queries": what calls of `clear` and `query` report, and the table that they leave
  pub answers : List QueryReport
  pub calls :
      (c : Cleared) (w : List ℕ) (reported : List QueryReport) (left : List ℕ) → Clears s t c w
      → Calls s w states reported left ↔ ((reported ≡ answers) × (left ≡ u))
  -- demand 3: refused are the queries of a state that the plan doesn't have or from which a loop can be reached, and they have no visits;
  -- the other verdicts are Table 1's; the cells of the table are those needed for the queries
  pub list : ListCorrect s t states answers u
  -- "writes a line for each .. The last line prints `total` and the tally": the text at the start of the output, n its length, and past it
  -- the output is unchanged
  pub text : Puts (text_of states answers) n out v
  -- "under 1,036 bytes (room enough for the longest text)"
  pub room : n ≤ least_output
  -- "the tally, which must equal both the sum of the lines' visits and the stored count"
  pub sum : tally_of answers ≡ visits_of answers
  pub stored : tally_of answers ≡ stored_count s u
  -- and so of every call of `stored_count` on the table left
  pub counted : (a : Counted) → ReadsCount s u a → reported_count a ≡ record { number = 0; place = 0; stored = tally_of answers }

-- of every call
pub record ReportsCorrect : Type 0 where
  pub room : RoomForEveryReport
  pub numbers :
      (s states t out : List ℕ) (r : Report) (u v : List ℕ) → WritesReport s states t out r u v → ReportNumbers s states t out r u v
  pub texts :
      (s states t out : List ℕ) (r : Report) (u v : List ℕ) → WritesReport s states t out r u v → (reported_text r).number ≡ 0
      → ReportCorrect s states t out (reported_text r).size u v
