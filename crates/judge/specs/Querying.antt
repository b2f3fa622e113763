-- A query: what it answers and what it leaves in the table's buffer, for every list of bytes as sheet and as buffer and every state.
use Rattle.std.specs.Prelude.{◌≡◌, ℕ, ◌+◌, ◌<◌, Bool, true, false, ltb, ◌↔◌, List, length, ◌==◌, nat_le, nat_lt, Err, Ok, Result}
use Rattle.sheet.specs.Bytes.{lowest}
use Rattle.sheet.specs.Refusals.{number_of, place_of, require, and_then}
use Rattle.sheet.specs.Contents.{plan_body, rule_body}
use Rattle.sheet.specs.Plan.{state_count}
use Rattle.sheet.specs.Reading.{sheet_check}
use Rattle.sheet.specs.declared.Refusal.TheVariants.{NoSuchState, Loop as LoopRefusal, TableShort, TableByte}
use Rattle.sheet.specs.Refusals.{Check}
use Rattle.graph.specs.Loops.{LoopReachable}
use Rattle.graph.specs.LoopTest.{loop_free}
use Rattle.rows.specs.Tables.{byte_at, Result as CellResult, verdict, visits, table, query}
use Rattle.graph.specs.Successors.{successors}
use Rattle.judge.specs.Cells.{Cell, cell, written_rows, enough, position_of, cell_at, cell_bytes, table_bytes, cells_in}
use Rattle.judge.specs.StoredCount.{stored_count, filled_cells, table_with}
use Rattle.judge.specs.declared.Judged.{Judged}
use Rattle.judge.specs.declared.QueryError.{QueryError}
use Rattle.judge.specs.declared.QueryError.TheVariants.{WrongCount, Refused}

-- what a query answers
abbrev pub Queried : Type 0
Queried = Result Judged QueryError

-- "21: a table byte over 2"; document 02 (f): "21 reads the cells alone"
unfoldable pub bytes_right : ℕ → List ℕ → Bool
bytes_right size t = lowest (λ i. ltb 2 (byte_at t i)) size == size

-- "a query 1 to 12, then 20 and 21"; 35 comes after these (`count_right`, below)
unfoldable pub query_check : List ℕ → ℕ → List ℕ → Check
query_check s state t =
    and_then (sheet_check s)
    (and_then (require (nat_lt state (state_count (plan_body s))) NoSuchState)
    (and_then (require (loop_free (plan_body s) state) LoopRefusal)
    (and_then (require (nat_le (table_bytes s) (length t)) TableShort) (require (bytes_right (cell_bytes s) t) TableByte))))

-- document 02 (f): "A query refuses with 35, after 21, a table whose count differs from its filled cells."
unfoldable pub count_right : List ℕ → List ℕ → Bool
count_right s t = stored_count s t == filled_cells s t

-- the query of a cell of a sheet, on the bytes of its cells: verdict, visits and the cells that it leaves
abbrev pub result_at : List ℕ → Cell → List ℕ → CellResult
result_at s c cells = query (position_of (rule_body s)) (cell_bytes s) (cell_at (rule_body s)) (written_rows s) enough cells c

-- the query of a sheet at (0, 0, state), on the cells of a table
abbrev pub result_of : List ℕ → ℕ → List ℕ → CellResult
result_of s state t = result_at s (cell 0 0 state) (cells_in s t)

-- "It gives the solution at (0, 0, s) .. and reports how many it filled as its visits", or its refusal: 1 to 21, then 35
abbrev pub answer_queried : CellResult → Check → Bool → Queried
answer_queried r (Ok tt) true = Ok (record { verdict = verdict r; visits = visits r })
answer_queried r (Ok tt) false = Err WrongCount
answer_queried r (Err x) right = Err (Refused x)

-- the answer for every sheet, state and table
unfoldable pub queried_of : List ℕ → ℕ → List ℕ → Queried
queried_of s state t = answer_queried (result_of s state t) (query_check s state t) (count_right s t)

-- the cells of the result; document 02 (f): "every query adds its visits; bytes past them never change"; "A refused call .. changes no
-- buffer"
abbrev pub left_by : List ℕ → CellResult → List ℕ → Check → Bool → List ℕ
left_by s r t (Ok tt) true = table_with s (table r) (stored_count s t + visits r) t
left_by s r t (Ok tt) false = t
left_by s r t (Err x) right = t

-- the table that a query leaves, for every sheet, state and table
unfoldable pub table_queried : List ℕ → ℕ → List ℕ → List ℕ
table_queried s state t = left_by s (result_of s state t) t (query_check s state t) (count_right s t)

-- the number and the place of what turns a query down: 35 for a wrong count
abbrev pub error_number : QueryError → ℕ
error_number WrongCount = 35
error_number (Refused r) = number_of r

abbrev pub error_place : QueryError → ℕ
error_place WrongCount = 0
error_place (Refused r) = place_of r

-- What each answer reports: number, place, verdict and visits. "A refused call gives verdict .. false, .. visits .. 0"; "An accepted call
-- gives number 0 and place 0."
pub record QueryReport : Type 0 where
  pub number : ℕ
  pub place : ℕ
  pub verdict : Bool
  pub visits : ℕ

-- number, place, verdict and visits of each answer
abbrev pub reported_query : Queried → QueryReport
reported_query (Ok j) = record { number = 0; place = 0; verdict = j.verdict; visits = j.visits }
reported_query (Err e) = record { number = error_number e; place = error_place e; verdict = false; visits = 0 }

-- what a query reports for every sheet, state and table
abbrev pub query_report_of : List ℕ → ℕ → List ℕ → QueryReport
query_report_of s state t = reported_query (queried_of s state t)

-- The contract of `query`: a call on the sheet s, a state and the table t answered r and left u. Demand 3 of the running calls and
-- QueriesCorrect speak of it.
abbrev pub Queries : List ℕ → ℕ → List ℕ → Queried → List ℕ → Type 0
Queries s state t r u =
    (r ≡ queried_of s state t) × ((reported_query r ≡ query_report_of s state t) × (u ≡ table_queried s state t))

-- Document 02 (b): "A query now gives 12 exactly when a loop can be reached from the queried state (12 coming in its order)": after 1 to
-- 10, so the sheet is accepted; after 11, so the plan has the state; before 20, 21 and 35, whatever the table
abbrev pub TwelveExactly : Type 0
TwelveExactly =
    (s : List ℕ) (state : ℕ) (t : List ℕ)
    → ((query_report_of s state t).number ≡ 12)
    ↔ ((sheet_check s ≡ Ok tt) × (state < state_count (plan_body s)) × LoopReachable (successors (plan_body s)) state)
