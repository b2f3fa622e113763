-- Queries in turn: the states of a list are queried on one table, one after the other up to the first whose verdict is false; what is
-- refused looks at the whole list. The search of document 02 (m) rests on it. What the call answers and what it leaves in the table's
-- buffer, for every list of bytes as sheet, as states and as buffer.
use Rattle.std.specs.Prelude.{◌≡◌, ℕ, suc, Bool, true, false, List, [], ◌∷◌, map, length, nat_le, nat_lt, Err, Ok, Result}
use Rattle.sheet.specs.Bytes.{pick}
use Rattle.sheet.specs.Refusals.{require, and_then}
use Rattle.sheet.specs.Contents.{plan_body, rule_body}
use Rattle.sheet.specs.Plan.{state_count}
use Rattle.sheet.specs.Reading.{sheet_check}
use Rattle.sheet.specs.declared.Refusal.TheVariants.{NoSuchState, Loop as LoopRefusal, TableShort, TableByte}
use Rattle.sheet.specs.Refusals.{Check}
use Rattle.graph.specs.LoopTest.{all_pass, loop_free}
use Rattle.rows.specs.Rows.{conjunction, joined, looked, value, need}
use Rattle.rows.specs.Tables.{Result as CellResult, out, visits, count, fills, filling}
use Rattle.judge.specs.Cells.{Cell, cell, enough, position_of, cell_at, cell_bytes, table_bytes, cells_in}
use Rattle.judge.specs.OneSolution.{changed_rows}
use Rattle.judge.specs.Querying.{error_number, error_place, bytes_right, count_right, left_by}
use Rattle.judge.specs.declared.JudgedInTurn.{JudgedInTurn}
use Rattle.judge.specs.declared.QueryError.{QueryError}
use Rattle.judge.specs.declared.QueryError.TheVariants.{WrongCount, Refused}

-- what queries in turn answer
abbrev pub InTurn : Type 0
InTurn = Result JudgedInTurn QueryError

-- refusals as for the queries: "1 to 12, then 20 and 21", of which 11 and 12 look at every state of the list; 35 comes after these
unfoldable pub in_turn_check : List ℕ → List ℕ → List ℕ → Check
in_turn_check s states t =
    and_then (sheet_check s)
    (and_then (require (all_pass (λ state. nat_lt state (state_count (plan_body s))) states) NoSuchState)
    (and_then (require (all_pass (λ state. loop_free (plan_body s) state) states) LoopRefusal)
    (and_then (require (nat_le (table_bytes s) (length t)) TableShort) (require (bytes_right (cell_bytes s) t) TableByte))))

-- "On a table from elsewhere .. solution and need are those of the rows so changed": by the table t, as the first query finds it
abbrev pub solution_by : List ℕ → List ℕ → Cell → Bool
solution_by s t = value (changed_rows s t) enough

-- the verdict at a state
abbrev pub holds_by : List ℕ → List ℕ → ℕ → Bool
holds_by s t state = solution_by s t (cell 0 0 state)

-- the cells (0, 0, state) of a list of states
abbrev pub root_cells : List ℕ → List Cell
root_cells states = map (cell 0 0) states

-- the cells needed for the states up to the first whose verdict is false: of an "and" of their cells, those needed for the entries looked
-- at
abbrev pub needed_in_turn : List ℕ → List ℕ → List ℕ → List Cell
needed_in_turn s states t = looked conjunction (solution_by s t) (need (changed_rows s t) enough) (root_cells states)

-- whether all verdicts are true, how many cells are filled, and the cells then: the needed ones that were empty, each with its solution
abbrev pub result_in_turn : List ℕ → List ℕ → List ℕ → CellResult
result_in_turn s states t =
    out (joined conjunction (solution_by s t) (root_cells states))
    (count (cell_bytes s) (fills (position_of (rule_body s)) (cells_in s t) (needed_in_turn s states t)))
    (filling (position_of (rule_body s)) (cell_bytes s) (cell_at (rule_body s)) (solution_by s t) (needed_in_turn s states t) (cells_in s t))

-- how many states of a list come before the first that fails a test; all of them where none does
unfoldable pub passed_before : (ℕ → Bool) → List ℕ → ℕ
passed_before v [] = 0
passed_before v (state ∷ states) = pick (v state) (suc (passed_before v states)) 0

-- how many states come before the first whose verdict is false, and how many cells were filled; or the refusal
abbrev pub answer_in_turn : ℕ → ℕ → Check → Bool → InTurn
answer_in_turn passed n (Ok tt) true = Ok (record { passed = passed; visits = n })
answer_in_turn passed n (Ok tt) false = Err WrongCount
answer_in_turn passed n (Err x) right = Err (Refused x)

-- the answer for every sheet, list of states and table
unfoldable pub in_turn_of : List ℕ → List ℕ → List ℕ → InTurn
in_turn_of s states t =
    answer_in_turn (passed_before (holds_by s t) states) (visits (result_in_turn s states t)) (in_turn_check s states t) (count_right s t)

-- the table left: the cells of the result, the count with the visits added, and past both as it was; a refused call changes nothing
unfoldable pub table_in_turn : List ℕ → List ℕ → List ℕ → List ℕ
table_in_turn s states t = left_by s (result_in_turn s states t) t (in_turn_check s states t) (count_right s t)

-- what each answer reports: number, place, how many states passed and the visits; 0 on a refusal
pub record InTurnReport : Type 0 where
  pub number : ℕ
  pub place : ℕ
  pub passed : ℕ
  pub visits : ℕ

-- the parts of each answer
abbrev pub reported_in_turn : InTurn → InTurnReport
reported_in_turn (Ok j) = record { number = 0; place = 0; passed = j.passed; visits = j.visits }
reported_in_turn (Err e) = record { number = error_number e; place = error_place e; passed = 0; visits = 0 }

-- what is reported for every sheet, list of states and table
abbrev pub in_turn_report_of : List ℕ → List ℕ → List ℕ → InTurnReport
in_turn_report_of s states t = reported_in_turn (in_turn_of s states t)

-- The contract of `query_in_turn`: a call on the sheet s, a list of states and the table t answered r and left u.
abbrev pub QueriesInTurn : List ℕ → List ℕ → List ℕ → InTurn → List ℕ → Type 0
QueriesInTurn s states t r u =
    (r ≡ in_turn_of s states t) × ((reported_in_turn r ≡ in_turn_report_of s states t) × (u ≡ table_in_turn s states t))
