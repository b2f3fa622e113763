-- Document 02 (m), closed, of every call of `find_closest` that keeps its contract: which number it gives, what it finds, fills and leaves,
-- said of ways and of cells, and that it is by Table 1. The contract (specs/Finding.antt) computes order, solution and need; here they are
-- what the sentences say. Shown by closest_correct of proofs/Statements/ClosestCorrect.antt.
use Rattle.std.specs.Prelude.{ℕ, ◌+◌, ◌≤◌, ◌≡◌, Bool, true, false, ◌&&◌, ◌⊎◌, ◌↔◌, ◌≢◌, length}
use mathlib.Core.List.{List, ◌++◌, Memᴰ}
use Rattle.sheet.specs.Contents.{plan_body}
use Rattle.sheet.specs.RefusalOrder.{GivenInOrder}
use Rattle.rows.specs.Rows.{Needed}
use Rattle.rows.specs.Tables.{byte_at, empty, filled, byte_of, count}
use Rattle.graph.specs.Loops.{Reachable, LoopReachable}
use Rattle.graph.specs.Successors.{successors}
use Rattle.calculus.specs.Verdict.{Verdict}
use Rattle.judge.specs.Cells.{Cell, cell, cell_bytes, table_bytes, InTable}
use Rattle.judge.specs.StoredCount.{stored_count, filled_cells}
use Rattle.judge.specs.Clearing.{reported_clear, Clears}
use Rattle.judge.specs.Querying.{QueryReport, reported_query, Queries}
use Rattle.judge.specs.OneSolution.{changed_rows, ComesTo, OneSolution}
use Rattle.judge.specs.QueryCorrect.{cell_byte}
use Rattle.judge.specs.Lists.{Calls, Reported, visits_of}
use Rattle.judge.specs.Auditing.{reported_audit, Audits}
use Rattle.judge.specs.Auditing.{Audited}
use Rattle.judge.specs.Clearing.{Cleared}
use Rattle.judge.specs.Querying.{Queried}
use Rattle.closest.specs.Steps.{Steps, Earlier}
use Rattle.closest.specs.Finding.{ClosestAnswer, states_in_order, ClosestReport, reported_closest, refused_report, Finds}

-- a "reachable state": state 0, or one that a way leads to from state 0
abbrev pub ReachableState : List ℕ → ℕ → Type 0
ReachableState s state = Reachable (successors (plan_body s)) 0 state

-- ---- what is found

-- A call reported q; Holds says at which states the rule holds.
pub record RightlyFound (s : List ℕ) (Holds : ℕ → Type 0) (q : ClosestReport) : Type 0 where
  -- "the state where the rule fails .. and that step count"
  pub fails : q.found ≡ true → Holds q.state → ⊥
  pub steps_are : q.found ≡ true → Steps (plan_body s) q.state q.steps
  -- "with the fewest steps from state 0, the lowest number between equals": at every state before it the rule holds
  pub closest :
      q.found ≡ true → (state n : ℕ) → Steps (plan_body s) state n → Earlier n state q.steps q.state → Holds state
  -- "The answer "holds everywhere" comes exactly when no reachable state breaks it."
  pub everywhere : (q.found ≡ false) ↔ ((state : ℕ) → ReachableState s state → Holds state)
  -- state and steps are 0 then
  pub no_state_holds : q.found ≡ false → (q.state ≡ 0) × (q.steps ≡ 0)

-- ---- what is filled

-- "the reachable states taken by step count, then number, up to the answer, or .. all of them where none fails": this state is one of them
pub record TakenBy (s : List ℕ) (q : ClosestReport) (state : ℕ) : Type 0 where
  pub steps : ℕ
  pub counted : Steps (plan_body s) state steps
  pub up_to : q.found ≡ true → (state ≡ q.state) ⊎ Earlier steps state q.steps q.state

-- the cells that the queries of reachable states can come to, by the rows as the table t changes them
abbrev pub ComesFromReachable : List ℕ → List ℕ → Cell → Type 0
ComesFromReachable s t c = (state : ℕ) × ReachableState s state × ComesTo (changed_rows s t) (cell 0 0 state) c

-- the cells "needed for the reachable states taken"
abbrev pub NeededByTaken : List ℕ → List ℕ → (Cell → Bool) → ClosestReport → Cell → Type 0
NeededByTaken s t solution q c = (state : ℕ) × TakenBy s q state × Needed (changed_rows s t) solution (cell 0 0 state) c

-- A call on the sheet s and the table t, with number 0, reported q and left u. "On a table from elsewhere the changed rows say where the
-- rule fails"
pub record ClosestCorrect (s t : List ℕ) (q : ClosestReport) (u : List ℕ) : Type 0 where
  -- document 02 (b): "the rows of the cells it can come to have one solution"
  pub solution : Cell → Bool
  pub one_solution : OneSolution s (changed_rows s t) (ComesFromReachable s t) solution
  pub found : RightlyFound s (λ state. solution (cell 0 0 state) ≡ true) q
  -- "The cells filled, each with its own solution, are exactly the empty ones needed for the reachable states taken .. up to the answer"
  pub fills :
      (c : Cell) → InTable s c → cell_byte s t c ≡ 0 → NeededByTaken s t solution q c → cell_byte s u c ≡ byte_of (solution c)
  -- document 01: "changes no other cell"
  pub others :
      (c : Cell) → InTable s c → (cell_byte s t c ≡ 0 → NeededByTaken s t solution q c → ⊥) → cell_byte s u c ≡ cell_byte s t c
  -- document 02 (f): "bytes past them never change"
  pub past : (i : ℕ) → table_bytes s ≤ i → byte_at u i ≡ byte_at t i
  pub length_kept : length u ≡ length t
  -- the visits are the number of cells filled, "and the count grows by those cells"
  pub visits_are : q.visits ≡ count (cell_bytes s) (λ i. empty (byte_at t i) && filled (byte_at u i))
  pub count_grows : stored_count s u ≡ stored_count s t + q.visits
  pub count_right_holds : stored_count s u ≡ filled_cells s u

-- the states taken could have been queried one after the other, "by step count, then number": these calls of `query` are not refused, fill
-- as many cells and leave the same table
pub record AsQueries (s t : List ℕ) (q : ClosestReport) (u : List ℕ) : Type 0 where
  pub states : List ℕ
  pub taken : (state : ℕ) → Memᴰ state states ↔ TakenBy s q state
  pub in_order : (rest : List ℕ) × (states_in_order s ≡ states ++ rest)
  pub answers : List QueryReport
  pub calls : Calls s t states answers u
  pub judged : Reported (λ state a. a.number ≡ 0) states answers
  pub sum : visits_of answers ≡ q.visits

-- ---- by Table 1, on a table just cleared, left since by queries, or that gets a yes from the audit of document 02 (k)

pub record ByTable1 (s : List ℕ) (q : ClosestReport) : Type 0 where
  -- document 02 (b): refused is exactly a sheet with a loop that can be reached from state 0
  pub refused : (q.number ≢ 0) ↔ LoopReachable (successors (plan_body s)) 0
  -- else the answer is by Table 1
  pub found : q.number ≡ 0 → RightlyFound s (Verdict s) q

-- of every call, on any bytes as sheet and table
pub record SearchesCorrect : Type 0 where
  -- "Refusals go as for a query of state 0": number and place are those of such a query (QueryNumbers of specs/CallNumbers.antt of the
  -- judge says which); a plan has a state 0, so the number is never 11
  pub numbers :
      (s t : List ℕ) (r : ClosestAnswer) (u : List ℕ) → Finds s t r u → (a : Queried) (w : List ℕ) → Queries s 0 t a w
      → ((reported_closest r).number ≡ (reported_query a).number) × ((reported_closest r).place ≡ (reported_query a).place)
  -- document 01: "They apply in rising order": 1 to 10
  pub in_order :
      (s t : List ℕ) (r : ClosestAnswer) (u : List ℕ) → Finds s t r u → GivenInOrder s (reported_closest r).number (reported_closest r).place
  pub never_eleven : (s t : List ℕ) (r : ClosestAnswer) (u : List ℕ) → Finds s t r u → (reported_closest r).number ≢ 11
  -- document 01: "A refused call gives .. any further result number 0 .., and changes no buffer."
  pub refused :
      (s t : List ℕ) (r : ClosestAnswer) (u : List ℕ) → Finds s t r u → (reported_closest r).number ≢ 0
      → (reported_closest r ≡ refused_report (reported_closest r).number (reported_closest r).place) × (u ≡ t)
  pub accepted :
      (s t : List ℕ) (r : ClosestAnswer) (u : List ℕ) → Finds s t r u → (reported_closest r).number ≡ 0
      → ClosestCorrect s t (reported_closest r) u
  pub as_queries :
      (s t : List ℕ) (r : ClosestAnswer) (u : List ℕ) → Finds s t r u → (reported_closest r).number ≡ 0 → AsQueries s t (reported_closest r) u
  -- on a table just cleared, or that a list of queries left since: calls of `clear`, which gave number 0, and of `query`
  pub on_lists :
      (s lent : List ℕ) (c : Cleared) (cleared states : List ℕ) (answers : List QueryReport) (t : List ℕ) (r : ClosestAnswer) (u : List ℕ)
      → Clears s lent c cleared → (reported_clear c).number ≡ 0 → Calls s cleared states answers t → Finds s t r u
      → ByTable1 s (reported_closest r)
  -- on a table from elsewhere to which the audit says yes; and it says yes to the table left
  pub on_audited :
      (s t : List ℕ) (a : Audited) (r : ClosestAnswer) (u : List ℕ) → Audits s t a → (reported_audit a).answer ≡ true → Finds s t r u
      → ByTable1 s (reported_closest r)
  pub audited_again :
      (s t : List ℕ) (a : Audited) (r : ClosestAnswer) (u : List ℕ) (b : Audited) → Audits s t a → (reported_audit a).answer ≡ true
      → Finds s t r u → Audits s u b → (reported_audit b).answer ≡ true
