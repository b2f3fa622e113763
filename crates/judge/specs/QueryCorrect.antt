-- Document 01, "Guard check, clearing, query": what a query gives, fills and reports, said of cells, for every call that is not refused.
-- The contract (specs/Querying.antt) computes solution and need; here they are what document 01's sentences say.
use Rattle.std.specs.Prelude.{◌≡◌, ℕ, ◌+◌, ◌≤◌, Bool, false, ◌&&◌, ◌≢◌, List, length}
use Rattle.sheet.specs.Contents.{rule_body}
use Rattle.rows.specs.Rows.{Needed}
use Rattle.rows.specs.Tables.{byte_at, empty, filled, byte_of, count}
use Rattle.judge.specs.Cells.{Cell, cell, position_of, cell_bytes, table_bytes, InTable}
use Rattle.judge.specs.StoredCount.{stored_count, filled_cells}
use Rattle.judge.specs.Querying.{QueryReport, reported_query, Queries}
use Rattle.judge.specs.OneSolution.{changed_rows, ComesTo, OneSolution}
use Rattle.judge.specs.Querying.{Queried}

-- the byte of a cell in a table of the sheet
abbrev pub cell_byte : List ℕ → List ℕ → Cell → ℕ
cell_byte s t c = byte_at t (position_of (rule_body s) c)

-- The query of a state on the table t reported q and left u. "On a table from elsewhere a filled cell has, in place of its row, an empty
-- "or" (false) or an empty "and" (true); solution and need are those of the rows so changed."
pub record QueryCorrect (s : List ℕ) (state : ℕ) (t : List ℕ) (q : QueryReport) (u : List ℕ) : Type 0 where
  -- "the rows of the cells it can come to have one solution"
  pub solution : Cell → Bool
  pub one_solution : OneSolution s (changed_rows s t) (ComesTo (changed_rows s t) (cell 0 0 state)) solution
  -- "It gives the solution at (0, 0, s)"
  pub gives : q.verdict ≡ solution (cell 0 0 state)
  -- "fills exactly the needed cells that were empty, each with its own solution"
  pub fills :
      (c : Cell) → InTable s c → cell_byte s t c ≡ 0 → Needed (changed_rows s t) solution (cell 0 0 state) c
      → cell_byte s u c ≡ byte_of (solution c)
  -- "changes no other cell"
  pub others :
      (c : Cell) → InTable s c → (cell_byte s t c ≡ 0 → Needed (changed_rows s t) solution (cell 0 0 state) c → ⊥)
      → cell_byte s u c ≡ cell_byte s t c
  -- document 02 (f): "bytes past them never change"
  pub past : (i : ℕ) → table_bytes s ≤ i → byte_at u i ≡ byte_at t i
  pub length_kept : length u ≡ length t
  -- "and reports how many it filled as its visits"
  pub visits_are : q.visits ≡ count (cell_bytes s) (λ i. empty (byte_at t i) && filled (byte_at u i))
  -- document 02 (f): "every query adds its visits", and the count is again "the number of filled cells"
  pub count_grows : stored_count s u ≡ stored_count s t + q.visits
  pub count_right_holds : stored_count s u ≡ filled_cells s u

-- of every call of `query`, on any bytes as sheet and table (`queries_correct` of proofs/Statements/QueryCorrect.antt)
pub record QueriesCorrect : Type 0 where
  pub judged :
      (s : List ℕ) (state : ℕ) (t : List ℕ) (r : Queried) (u : List ℕ) → Queries s state t r u → (reported_query r).number ≡ 0
      → QueryCorrect s state t (reported_query r) u
  -- "A refused call gives verdict .. false, .. visits .. 0 .., and changes no buffer."
  pub refused :
      (s : List ℕ) (state : ℕ) (t : List ℕ) (r : Queried) (u : List ℕ) → Queries s state t r u → (reported_query r).number ≢ 0
      → ((reported_query r).verdict ≡ false) × ((reported_query r).visits ≡ 0) × (u ≡ t)
