-- Document 01, "Refusal numbers": which number each call of `clear`, of `query` and of `stored_count` gives, exactly, for every list of
-- bytes as sheet and table. "They apply in rising order": each number asks that no lower one applies. Shown by call_numbers of
-- proofs/Statements/CallNumbers.antt.
use Rattle.std.specs.Prelude.{◌≡◌, ℕ, ◌<◌, ◌≤◌, ◌≢◌, ◌↔◌, List, length, Err}
use Rattle.sheet.specs.Contents.{plan_body}
use Rattle.sheet.specs.Plan.{state_count}
use Rattle.sheet.specs.Refusals.{number_of, place_of}
use Rattle.sheet.specs.Reading.{sheet_check}
use Rattle.sheet.specs.RefusalOrder.{GivenInOrder}
use Rattle.sheet.specs.WellFormed.{WellFormedSheet}
use Rattle.sheet.specs.declared.Refusal.{Refusal}
use Rattle.rows.specs.Tables.{byte_at}
use Rattle.graph.specs.Loops.{LoopReachable}
use Rattle.graph.specs.Successors.{successors}
use Rattle.judge.specs.Cells.{cell_bytes, table_bytes}
use Rattle.judge.specs.StoredCount.{stored_count, filled_cells}
use Rattle.judge.specs.Clearing.{reported_clear, Clears}
use Rattle.judge.specs.Querying.{reported_query, Queries}
use Rattle.judge.specs.Counting.{reported_count, ReadsCount}
use Rattle.judge.specs.Clearing.{Cleared}
use Rattle.judge.specs.Counting.{Counted}
use Rattle.judge.specs.Querying.{Queried}

-- "clearing 1 to 10, then 20": a call of `clear` on the sheet s and the buffer t answered r and left u
pub record ClearNumbers (s t : List ℕ) (r : Cleared) (u : List ℕ) : Type 0 where
  -- the reader's refusal
  pub unreadable : (x : Refusal) → sheet_check s ≡ Err x → reported_clear r ≡ record { number = number_of x; place = place_of x }
  -- "They apply in rising order": 1 to 10
  pub in_order : GivenInOrder s (reported_clear r).number (reported_clear r).place
  -- "20: table buffer too short."; document 02 (f): "Number 20 now means four bytes more"
  pub twenty : ((reported_clear r).number ≡ 20) ↔ (WellFormedSheet s × (length t < table_bytes s))
  pub done : ((reported_clear r).number ≡ 0) ↔ (WellFormedSheet s × (table_bytes s ≤ length t))
  -- "Other places are 0."; "An accepted call gives number 0 and place 0."
  pub place : WellFormedSheet s → (reported_clear r).place ≡ 0
  -- "Clearing sets them to 0", the cells and the count; document 02 (f): "bytes past them never change"
  pub cleared : (reported_clear r).number ≡ 0 → (i : ℕ) → i < table_bytes s → byte_at u i ≡ 0
  pub after : (reported_clear r).number ≡ 0 → (i : ℕ) → table_bytes s ≤ i → byte_at u i ≡ byte_at t i
  pub length_kept : length u ≡ length t
  -- "A refused call .. changes no buffer."
  pub unchanged : (reported_clear r).number ≢ 0 → u ≡ t

-- of a sheet, a state and a table, what 12, 20, 21, 35 and 0 ask: each that no lower number applies
pub record StateThere (s : List ℕ) (state : ℕ) : Type 0 where
  pub accepted : WellFormedSheet s
  pub below : state < state_count (plan_body s)

pub record NoLoopAhead (s : List ℕ) (state : ℕ) : Type 0 where
  pub there : StateThere s state
  pub none : LoopReachable (successors (plan_body s)) state → ⊥

pub record TableThere (s : List ℕ) (state : ℕ) (t : List ℕ) : Type 0 where
  pub free : NoLoopAhead s state
  pub long : table_bytes s ≤ length t

pub record CellsRight (s : List ℕ) (state : ℕ) (t : List ℕ) : Type 0 where
  pub there : TableThere s state t
  pub small : (i : ℕ) → i < cell_bytes s → byte_at t i ≤ 2

-- "a query 1 to 12, then 20 and 21", then 35: a call of `query` on the sheet s, a state and the table t answered r
pub record QueryNumbers (s : List ℕ) (state : ℕ) (t : List ℕ) (r : Queried) : Type 0 where
  -- the reader's refusal
  pub unreadable :
      (x : Refusal) → sheet_check s ≡ Err x → ((reported_query r).number ≡ number_of x) × ((reported_query r).place ≡ place_of x)
  -- "They apply in rising order": 1 to 10
  pub in_order : GivenInOrder s (reported_query r).number (reported_query r).place
  -- "11: queried state not below S."
  pub eleven : ((reported_query r).number ≡ 11) ↔ (WellFormedSheet s × (state_count (plan_body s) ≤ state))
  -- document 02 (b): "12 exactly when a loop can be reached from the queried state (12 coming in its order)"
  pub twelve : ((reported_query r).number ≡ 12) ↔ (StateThere s state × LoopReachable (successors (plan_body s)) state)
  -- "20: table buffer too short."; document 02 (f): "Number 20 now means four bytes more"
  pub twenty : ((reported_query r).number ≡ 20) ↔ (NoLoopAhead s state × (length t < table_bytes s))
  -- "21: a table byte over 2 (query only)."; document 02 (f): "21 reads the cells alone"
  pub twenty_one :
      ((reported_query r).number ≡ 21) ↔ (TableThere s state t × ((i : ℕ) × (i < cell_bytes s) × (2 < byte_at t i)))
  -- document 02 (f): "A query refuses with 35, after 21, a table whose count differs from its filled cells."
  pub thirty_five : ((reported_query r).number ≡ 35) ↔ (CellsRight s state t × (stored_count s t ≢ filled_cells s t))
  -- not refused
  pub none : ((reported_query r).number ≡ 0) ↔ (CellsRight s state t × (stored_count s t ≡ filled_cells s t))
  -- "Other places are 0."; "An accepted call gives number 0 and place 0."
  pub place : WellFormedSheet s → (reported_query r).place ≡ 0

-- 1 to 10, then 20, as clearing: a call of `stored_count` on the sheet s and the table t answered r
pub record CountNumbers (s t : List ℕ) (r : Counted) : Type 0 where
  -- the reader's refusal
  pub unreadable : (x : Refusal) → sheet_check s ≡ Err x → reported_count r ≡ record { number = number_of x; place = place_of x; stored = 0 }
  -- "They apply in rising order": 1 to 10
  pub in_order : GivenInOrder s (reported_count r).number (reported_count r).place
  -- "20: table buffer too short."; document 02 (f): "Number 20 now means four bytes more"
  pub short : WellFormedSheet s → length t < table_bytes s → reported_count r ≡ record { number = 20; place = 0; stored = 0 }
  -- the count, as it stands
  pub done : WellFormedSheet s → table_bytes s ≤ length t → reported_count r ≡ record { number = 0; place = 0; stored = stored_count s t }

-- of every call
pub record CallNumbers : Type 0 where
  pub clears : (s t : List ℕ) (r : Cleared) (u : List ℕ) → Clears s t r u → ClearNumbers s t r u
  pub queries : (s : List ℕ) (state : ℕ) (t : List ℕ) (r : Queried) (u : List ℕ) → Queries s state t r u → QueryNumbers s state t r
  pub counts : (s t : List ℕ) (r : Counted) → ReadsCount s t r → CountNumbers s t r
