-- Demand 3: one statement about whole lists of queries. Document 01, "Lists of queries", and document 02 (b) and (f). It is said of what
-- clearing and query are defined to answer and leave (`demand3` of proofs/Statements/Demand3.antt), and of the running calls (`delivered`
-- of proofs/Statements/RunningCalls.antt).
use Rattle.std.specs.Prelude.{◌≡◌, ℕ, ◌+◌, ◌*◌, ◌≤◌, Bool, true, false, ◌≢◌, ◌⊎◌, ◌↔◌, List, length, Ok}
use mathlib.Core.List.{Memᴰ}
use Rattle.sheet.specs.Contents.{plan_body, rule_body}
use Rattle.sheet.specs.Plan.{state_count}
use Rattle.sheet.specs.Rule.{node_count, binder_count}
use Rattle.sheet.specs.Reading.{sheet_check}
use Rattle.calculus.specs.Verdict.{Verdict}
use Rattle.calculus.specs.Exchange.{exchanged}
use Rattle.calculus.specs.GuardCheck.{guarded_rule}
use Rattle.rows.specs.Rows.{Needed}
use Rattle.rows.specs.Tables.{byte_at, filled, byte_of}
use Rattle.graph.specs.Loops.{LoopReachable}
use Rattle.graph.specs.Successors.{successors}
use Rattle.judge.specs.Cells.{Cell, cell, written_rows, table_bytes, InTable, TableLayout}
use Rattle.judge.specs.StoredCount.{stored_count, filled_cells}
use Rattle.judge.specs.Clearing.{table_cleared, reported_clear, Clears}
use Rattle.judge.specs.Querying.{QueryReport}
use Rattle.judge.specs.Counting.{reported_count, ReadsCount}
use Rattle.judge.specs.OneSolution.{ComesTo, OneSolution}
use Rattle.judge.specs.QueryCorrect.{cell_byte}
use Rattle.judge.specs.Lists.{JustCleared, reports, table_after, Calls, Reported, SameAnswers, visits_of, judged_states}
use Rattle.judge.specs.Clearing.{Cleared}
use Rattle.judge.specs.Counting.{Counted}

-- Document 02 (b): "a state that the plan doesn't have or from which a loop can be reached"
abbrev pub RefusedState : List ℕ → ℕ → Type 0
RefusedState s state = (state_count (plan_body s) ≤ state) ⊎ LoopReachable (successors (plan_body s)) state

-- a cell that the queries of some states can come to, by the rows as written
abbrev pub ComesFrom : List ℕ → List ℕ → Cell → Type 0
ComesFrom s states c = (state : ℕ) × Memᴰ state states × ComesTo (written_rows s) (cell 0 0 state) c

-- "Needed for some queries is each cell needed for (0, 0, s), s the state of at least one of them; need and solution are here by the rows
-- as written, whatever the table holds."
abbrev pub NeededFor : List ℕ → (Cell → Bool) → List ℕ → Cell → Type 0
NeededFor s solution states c = (state : ℕ) × Memᴰ state states × Needed (written_rows s) solution (cell 0 0 state) c

-- "Exchanging fixed points turns 7 into 8 or 8 into 7 in any choice of binder nodes ..; the exchanged sheet has a table of its own, just
-- cleared for it, and gets the same list."
pub record SameUnderExchange (s states : List ℕ) (answers : List QueryReport) (choice : ℕ → Bool) : Type 0 where
  pub accepted : sheet_check (exchanged choice s) ≡ Ok tt
  -- Table 1's verdict is unchanged at every state whose queries are not refused
  pub same_verdicts : (state : ℕ) → (RefusedState s state → ⊥) → (Verdict s state ↔ Verdict (exchanged choice s) state)
  -- the same queries are refused, and the others have the same verdicts
  pub same_answers :
      (t u : List ℕ) (r : Cleared) (answers' : List QueryReport) (left : List ℕ)
      → Clears (exchanged choice s) t r u → (reported_clear r).number ≡ 0 → Calls (exchanged choice s) u states answers' left
      → SameAnswers answers answers'

-- A sheet s, a buffer t that was lent to clearing, which gave number 0, a list of states, what their queries reported, and the table that
-- the list left.
pub record ListCorrect (s t states : List ℕ) (answers : List QueryReport) (left : List ℕ) : Type 0 where
  -- "A query is refused when its number isn't 0." Document 02 (b): "refused are exactly the queries of a state that the plan doesn't have
  -- or from which a loop can be reached, and the rest of it stands for the queries not refused"
  pub refusals : Reported (λ state q. (q.number ≢ 0) ↔ RefusedState s state) states answers
  -- "A refused call gives verdict .. false, .. visits .. 0"
  pub refused : Reported (λ state q. q.number ≢ 0 → (q.verdict ≡ false) × (q.visits ≡ 0)) states answers
  -- the verdict of a query not refused is Table 1's, on the rule as written
  pub verdicts : Reported (λ state q. q.number ≡ 0 → ((q.verdict ≡ true) ↔ Verdict s state)) states answers
  -- in a guarded rule fixed points can be exchanged
  pub exchange : guarded_rule s ≡ true → (choice : ℕ → Bool) → SameUnderExchange s states answers choice
  -- "the rows of the cells it can come to have one solution": of the cells that the queries not refused can come to, by the rows as written
  pub solution : Cell → Bool
  pub one_solution : OneSolution s (written_rows s) (ComesFrom s (judged_states states answers)) solution
  -- "A cell is filled when its byte is 1 or 2.": filled are exactly the cells needed for the queries not refused
  pub cells :
      (c : Cell) → InTable s c → (filled (cell_byte s left c) ≡ true) ↔ NeededFor s solution (judged_states states answers) c
  -- each with its solution
  pub solved : (c : Cell) → InTable s c → filled (cell_byte s left c) ≡ true → cell_byte s left c ≡ byte_of (solution c)
  -- every other cell is empty
  pub empties : (c : Cell) → InTable s c → filled (cell_byte s left c) ≡ false → cell_byte s left c ≡ 0
  -- document 02 (f): "bytes past them never change"
  pub past : (i : ℕ) → table_bytes s ≤ i → byte_at left i ≡ byte_at t i
  pub length_kept : length left ≡ length t
  -- the visits' sum is the number of filled cells
  pub sum : visits_of answers ≡ filled_cells s left
  -- document 02 (f): "After every list of demand 3 the stored count is the sum of the visits its queries reported", and so, by `sum`, "the
  -- number of filled cells"
  pub stored : stored_count s left ≡ visits_of answers
  -- and at most states × nodes × (binders + 1)
  pub at_most_holds : visits_of answers ≤ state_count (plan_body s) * node_count (rule_body s) * (binder_count (rule_body s) + 1)

-- Demand 3, whole
pub record Demand3 : Type 0 where
  -- each byte of the cells is that of one cell, so as many cells are filled as of these bytes
  pub layout : TableLayout
  -- "as it does for an accepted sheet on every buffer long enough"
  pub clears : (s t : List ℕ) → sheet_check s ≡ Ok tt → table_bytes s ≤ length t → JustCleared s t
  -- Document 02 (b): "every accepted sheet, loops included", every table just cleared for it, every list of states
  pub lists :
      (s t states : List ℕ) → JustCleared s t
      → ListCorrect s t states (reports s (table_cleared s t) states) (table_after s (table_cleared s t) states)

-- Demand 3 of the running calls: of every call of `clear` that answered r and left u, and every list of calls of `query` after it
pub record Demand3OfCalls : Type 0 where
  pub layout : TableLayout
  pub clears :
      (s t : List ℕ) (r : Cleared) (u : List ℕ) → Clears s t r u → sheet_check s ≡ Ok tt → table_bytes s ≤ length t
      → (reported_clear r).number ≡ 0
  pub lists :
      (s t states : List ℕ) (r : Cleared) (u : List ℕ) (answers : List QueryReport) (left : List ℕ)
      → Clears s t r u → (reported_clear r).number ≡ 0 → Calls s u states answers left → ListCorrect s t states answers left
  -- document 02 (f), "The terminal's progress bar": a call of `stored_count` on the table that the list left gives the sum of the visits
  pub progress :
      (s t states : List ℕ) (r : Cleared) (u : List ℕ) (answers : List QueryReport) (left : List ℕ) (a : Counted)
      → Clears s t r u → (reported_clear r).number ≡ 0 → Calls s u states answers left → ReadsCount s left a
      → reported_count a ≡ record { number = 0; place = 0; stored = visits_of answers }
