-- What the functions of the lines ask and promise. A list of queries runs on a table t that is cleared.
use Rattle.std.specs.Prelude.{ℕ, ◌+◌, ◌≤◌, ◌<◌, ◌^◌, ◌≡◌, List, length}
use Rattle.text.specs.Placing.{buffer_after, starting_with}
use Rattle.sheet.specs.RunningCalls.{AllBytes}
use Rattle.judge.specs.Clearing.{table_cleared}
use Rattle.judge.specs.Querying.{query_report_of, table_queried}
use Rattle.judge.specs.Lists.{JustCleared, reports, table_after}
use Rattle.report.specs.Text.{line_of, lines_of, tally_of}
use Rattle.report.specs.Reporting.{most_queries, least_output}
use Rattle.report.specs.declared.Tally.{Tally}

-- a text that is put at a place ends within the buffer
abbrev pub FitsAt : List ℕ → ℕ → List ℕ → Type 0
FitsAt text at out = at + length text ≤ length out

-- a text put at a place where it fits: the place behind it, and the buffer with it
abbrev pub PutsAt : List ℕ → ℕ → List ℕ → ℕ → List ℕ → Type 0
PutsAt text at out end out' = (end ≡ at + length text) × (out' ≡ buffer_after text at out)

-- the line of a query on the table t
abbrev pub line_queried : List ℕ → ℕ → List ℕ → List ℕ
line_queried s state t = line_of state (query_report_of s state t)

-- the tally brought up to date after a query of these visits, whose line ends at this place
abbrev pub updated_tally : Tally → ℕ → ℕ → Tally
updated_tally tally visits end = record { visits = tally.visits + visits; length = end }

-- the same after that query
abbrev pub tally_queried : List ℕ → ℕ → List ℕ → Tally → Tally
tally_queried s state t tally = updated_tally tally (query_report_of s state t).visits (tally.length + length (line_queried s state t))

-- the line fits, and so does the tally
abbrev pub LineRequires : List ℕ → ℕ → List ℕ → List ℕ → Tally → Type 0
LineRequires s state t out tally =
    FitsAt (line_queried s state t) tally.length out × (tally.visits + (query_report_of s state t).visits < 2 ^ 64)

-- what it leaves: the tally, the table and the output
abbrev pub AddsLine : List ℕ → ℕ → List ℕ → List ℕ → Tally → Tally → List ℕ → List ℕ → Type 0
AddsLine s state t out tally tally' t' out' =
    (tally' ≡ tally_queried s state t tally)
    × ((t' ≡ table_queried s state t) × (out' ≡ buffer_after (line_queried s state t) tally.length out))

-- the lines of all queries of a list, and the tally after them
abbrev pub lines_after : List ℕ → List ℕ → List ℕ → List ℕ
lines_after s states t = lines_of states (reports s t states)

abbrev pub tally_after : List ℕ → List ℕ → List ℕ → Tally
tally_after s states t = record { visits = tally_of (reports s t states); length = length (lines_after s states t) }

-- at most 64 queries, on a table that clearing has left, and an output that is long enough
pub record LinesRequire (s states t out : List ℕ) : Type 0 where
  pub few : length states ≤ most_queries
  pub bytes : AllBytes states
  pub lent : List ℕ
  pub just : JustCleared s lent
  pub cleared : t ≡ table_cleared s lent
  pub long : least_output ≤ length out

-- what they leave
pub record AddsLines (s states t out : List ℕ) (tally : Tally) (t' out' : List ℕ) : Type 0 where
  pub tally_is : tally ≡ tally_after s states t
  pub table_is : t' ≡ table_after s t states
  pub output_is : out' ≡ starting_with (lines_after s states t) out
