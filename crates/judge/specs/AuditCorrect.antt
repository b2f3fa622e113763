-- Document 02 (k), closed: which number each call of `audit` gives and when it says yes, exactly; what a yes means; and that each table
-- that a list of demand 3 leaves gets one. Shown by audits_correct of proofs/Statements/AuditCorrect.antt.
use Rattle.std.specs.Prelude.{◌≡◌, ℕ, ◌<◌, ◌≤◌, Bool, true, false, ◌≢◌, ◌↔◌, List, length, Err}
use Rattle.sheet.specs.Contents.{plan_body, rule_body}
use Rattle.sheet.specs.Refusals.{number_of, place_of}
use Rattle.sheet.specs.Reading.{sheet_check}
use Rattle.sheet.specs.RefusalOrder.{GivenInOrder}
use Rattle.sheet.specs.WellFormed.{WellFormedSheet}
use Rattle.sheet.specs.declared.Refusal.{Refusal}
use Rattle.calculus.specs.Verdict.{Verdict}
use Rattle.rows.specs.Tables.{byte_at, filled, known, byte_of}
use Rattle.rows.specs.FollowsFrom.{FollowsFrom}
use Rattle.graph.specs.Loops.{LoopReachable}
use Rattle.graph.specs.Successors.{successors}
use Rattle.judge.specs.Cells.{Cell, cell, MarkRight, written_rows, position_of, cell_bytes, table_bytes, InTable, TableLayout}
use Rattle.judge.specs.StoredCount.{stored_count, filled_cells}
use Rattle.judge.specs.Clearing.{reported_clear, table_cleared, Clears}
use Rattle.judge.specs.Querying.{QueryReport, reported_query, Queries}
use Rattle.judge.specs.Auditing.{reported_audit, audit_report_of, Audits}
use Rattle.judge.specs.OneSolution.{LoopFreeCell, OneSolution}
use Rattle.judge.specs.QueryCorrect.{cell_byte}
use Rattle.judge.specs.Lists.{JustCleared, table_after, Calls}
use Rattle.judge.specs.Demand3.{RefusedState}
use Rattle.judge.specs.Auditing.{Audited}
use Rattle.judge.specs.Clearing.{Cleared}
use Rattle.judge.specs.Querying.{Queried}

-- "A cell is filled when its byte is 1 or 2.": a cell that has a byte, and is filled
pub record FilledCell (s t : List ℕ) (c : Cell) : Type 0 where
  pub in_table : InTable s c
  pub is_filled : filled (cell_byte s t c) ≡ true

-- what 21, 12 and 0 ask, each that no earlier number applies. An accepted sheet, and a table that is long enough
pub record TableLong (s t : List ℕ) : Type 0 where
  pub accepted : WellFormedSheet s
  pub long : table_bytes s ≤ length t

-- and no byte of the cells is over 2
pub record BytesSmall (s t : List ℕ) : Type 0 where
  pub there : TableLong s t
  pub small : (i : ℕ) → i < cell_bytes s → byte_at t i ≤ 2

-- and no loop can be reached from a state with a filled cell: nothing is refused
pub record AuditNotRefused (s t : List ℕ) : Type 0 where
  pub bytes : BytesSmall s t
  pub none : (c : Cell) → FilledCell s t c → LoopReachable (successors (plan_body s)) c.state → ⊥

-- "the stored count is right, each filled cell has mark 0 or the mark of a binder above its node, and each filled cell follows from filled
-- cells of its row: one that decides it, or all of them where none does", by the rows as written
pub record AuditRight (s t : List ℕ) : Type 0 where
  pub count_right_holds : stored_count s t ≡ filled_cells s t
  pub mark_right : (c : Cell) → FilledCell s t c → MarkRight (rule_body s) c.mark c.node
  pub follows_from_holds : (c : Cell) → FilledCell s t c → FollowsFrom (position_of (rule_body s)) t (written_rows s c) (known (cell_byte s t c))

-- 1 to 10, 20, 21, 12, then yes or no: a call of `audit` on the sheet s and the table t answered r
pub record AuditAnswered (s t : List ℕ) (r : Audited) : Type 0 where
  -- the reader's refusal
  pub unreadable :
      (x : Refusal) → sheet_check s ≡ Err x → reported_audit r ≡ record { number = number_of x; place = place_of x; answer = false }
  -- "They apply in rising order": 1 to 10
  pub in_order : GivenInOrder s (reported_audit r).number (reported_audit r).place
  -- "20: table buffer too short."; document 02 (f): "Number 20 now means four bytes more"
  pub twenty : ((reported_audit r).number ≡ 20) ↔ (WellFormedSheet s × (length t < table_bytes s))
  -- "21: a table byte over 2"; document 02 (f): "21 reads the cells alone"
  pub twenty_one : ((reported_audit r).number ≡ 21) ↔ (TableLong s t × ((i : ℕ) × (i < cell_bytes s) × (2 < byte_at t i)))
  -- "A loop reachable from a state with a filled cell falls under 12, here after 21."
  pub twelve :
      ((reported_audit r).number ≡ 12)
      ↔ (BytesSmall s t × ((c : Cell) × FilledCell s t c × LoopReachable (successors (plan_body s)) c.state))
  -- not refused
  pub none : ((reported_audit r).number ≡ 0) ↔ AuditNotRefused s t
  -- "Say yes exactly when .."
  pub yes_exactly : ((reported_audit r).answer ≡ true) ↔ (AuditNotRefused s t × AuditRight s t)
  -- "A wrong count here is a no, not 35."
  pub wrong_count :
      AuditNotRefused s t → stored_count s t ≢ filled_cells s t → reported_audit r ≡ record { number = 0; place = 0; answer = false }
  -- "Other places are 0."; "An accepted call gives number 0 and place 0."
  pub place : WellFormedSheet s → (reported_audit r).place ≡ 0

-- what a yes means
pub record TableSolved (s t : List ℕ) : Type 0 where
  -- the rows as written have one solution, of the cells from whose states no loop can be reached
  pub solution : Cell → Bool
  pub one_solution : OneSolution s (written_rows s) (LoopFreeCell s) solution
  -- "every filled cell is the rows' solution": it is such a cell, and has its solution
  pub loop_free_holds : (c : Cell) → FilledCell s t c → LoopFreeCell s c
  pub solved : (c : Cell) → FilledCell s t c → cell_byte s t c ≡ byte_of (solution c)
  -- so a filled cell (0, 0, state) has Table 1's verdict
  pub table1 : (state : ℕ) → FilledCell s t (cell 0 0 state) → (cell_byte s t (cell 0 0 state) ≡ 2) ↔ Verdict s state
  -- and a query on the table is refused exactly as on one just cleared, and else gives Table 1's verdict
  pub refusals : (state : ℕ) (q : Queried) (u : List ℕ) → Queries s state t q u → ((reported_query q).number ≢ 0) ↔ RefusedState s state
  pub verdicts :
      (state : ℕ) (q : Queried) (u : List ℕ) → Queries s state t q u → (reported_query q).number ≡ 0
      → ((reported_query q).verdict ≡ true) ↔ Verdict s state

-- of every call of `audit`, on any bytes as sheet and table
pub record AuditsCorrect : Type 0 where
  -- each byte of the cells is that of one cell
  pub layout : TableLayout
  pub answered : (s t : List ℕ) (r : Audited) → Audits s t r → AuditAnswered s t r
  -- "A yes must mean that every filled cell is the rows' solution"
  pub sound : (s t : List ℕ) (r : Audited) → Audits s t r → (reported_audit r).answer ≡ true → TableSolved s t
  -- "and each table that a list of demand 3 leaves gets a yes": by what clearing and query are defined to leave
  pub lists :
      (s t states : List ℕ) → JustCleared s t
      → audit_report_of s (table_after s (table_cleared s t) states) ≡ record { number = 0; place = 0; answer = true }
  -- and of the running calls
  pub calls :
      (s t states : List ℕ) (r : Cleared) (u : List ℕ) (answers : List QueryReport) (left : List ℕ) (a : Audited)
      → Clears s t r u → (reported_clear r).number ≡ 0 → Calls s u states answers left → Audits s left a
      → reported_audit a ≡ record { number = 0; place = 0; answer = true }
  -- each table that queries leave, on a table that got a yes, gets one too
  pub stays :
      (s t states : List ℕ) (r : Audited) (answers : List QueryReport) (left : List ℕ) (a : Audited)
      → Audits s t r → (reported_audit r).answer ≡ true → Calls s t states answers left → Audits s left a
      → reported_audit a ≡ record { number = 0; place = 0; answer = true }
