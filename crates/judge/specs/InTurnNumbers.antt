-- Which number each call of `query_in_turn` gives, exactly, for every list of bytes as sheet, as states and as table. "They apply in rising
-- order": each number asks that no lower one applies. Shown by in_turn_numbers of proofs/Statements/InTurnNumbers.antt.
use Rattle.std.specs.Prelude.{◌≡◌, ℕ, ◌<◌, ◌≤◌, ◌≢◌, ◌↔◌, List, length, Err}
use mathlib.Core.List.{Memᴰ}
use Rattle.sheet.specs.Contents.{plan_body}
use Rattle.sheet.specs.Plan.{state_count}
use Rattle.sheet.specs.Refusals.{number_of, place_of}
use Rattle.sheet.specs.Reading.{sheet_check}
use Rattle.sheet.specs.RefusalOrder.{GivenInOrder}
use Rattle.sheet.specs.WellFormed.{WellFormedSheet}
use Rattle.sheet.specs.declared.Refusal.{Refusal}
use Rattle.rows.specs.Tables.{byte_at}
use Rattle.graph.specs.Loops.{LoopReachable}
use Rattle.graph.specs.Successors.{successors}
use Rattle.judge.specs.Cells.{cell_bytes, table_bytes}
use Rattle.judge.specs.StoredCount.{stored_count, filled_cells}
use Rattle.judge.specs.InTurn.{reported_in_turn, QueriesInTurn}
use Rattle.judge.specs.InTurn.{InTurn}

-- a state of the list of which something holds
abbrev pub SomeState : List ℕ → (ℕ → Type 0) → Type 0
SomeState states P = (state : ℕ) × Memᴰ state states × P state

-- of a sheet, a list of states and a table, what 12, 20, 21, 35 and 0 ask: each that no lower number applies
pub record StatesThere (s states : List ℕ) : Type 0 where
  pub accepted : WellFormedSheet s
  pub below : (state : ℕ) → Memᴰ state states → state < state_count (plan_body s)

pub record NoLoopsAhead (s states : List ℕ) : Type 0 where
  pub there : StatesThere s states
  pub none : (state : ℕ) → Memᴰ state states → LoopReachable (successors (plan_body s)) state → ⊥

pub record TableThereFor (s states t : List ℕ) : Type 0 where
  pub free : NoLoopsAhead s states
  pub long : table_bytes s ≤ length t

pub record CellsRightFor (s states t : List ℕ) : Type 0 where
  pub there : TableThereFor s states t
  pub small : (i : ℕ) → i < cell_bytes s → byte_at t i ≤ 2

-- 1 to 12, then 20 and 21, then 35: a call on the sheet s, a list of states and the table t answered r and left u
pub record InTurnNumbers (s states t : List ℕ) (r : InTurn) (u : List ℕ) : Type 0 where
  -- the reader's refusal
  pub unreadable :
      (x : Refusal) → sheet_check s ≡ Err x → ((reported_in_turn r).number ≡ number_of x) × ((reported_in_turn r).place ≡ place_of x)
  -- "They apply in rising order": 1 to 10
  pub in_order : GivenInOrder s (reported_in_turn r).number (reported_in_turn r).place
  -- "11: queried state not below S.": one of the list
  pub eleven : ((reported_in_turn r).number ≡ 11) ↔ (WellFormedSheet s × SomeState states (λ state. state_count (plan_body s) ≤ state))
  -- document 02 (b): "12 exactly when a loop can be reached from the queried state (12 coming in its order)": from one of the list
  pub twelve : ((reported_in_turn r).number ≡ 12) ↔ (StatesThere s states × SomeState states (LoopReachable (successors (plan_body s))))
  -- "20: table buffer too short."; document 02 (f): "Number 20 now means four bytes more"
  pub twenty : ((reported_in_turn r).number ≡ 20) ↔ (NoLoopsAhead s states × (length t < table_bytes s))
  -- "21: a table byte over 2 (query only)."; document 02 (f): "21 reads the cells alone"
  pub twenty_one : ((reported_in_turn r).number ≡ 21) ↔ (TableThereFor s states t × ((i : ℕ) × (i < cell_bytes s) × (2 < byte_at t i)))
  -- document 02 (f): "A query refuses with 35, after 21, a table whose count differs from its filled cells."
  pub thirty_five : ((reported_in_turn r).number ≡ 35) ↔ (CellsRightFor s states t × (stored_count s t ≢ filled_cells s t))
  -- not refused
  pub none : ((reported_in_turn r).number ≡ 0) ↔ (CellsRightFor s states t × (stored_count s t ≡ filled_cells s t))
  -- "Other places are 0."
  pub place : WellFormedSheet s → (reported_in_turn r).place ≡ 0
  -- "A refused call gives .. visits .. 0 .., and changes no buffer."
  pub refused : (reported_in_turn r).number ≢ 0 → ((reported_in_turn r).passed ≡ 0) × ((reported_in_turn r).visits ≡ 0) × (u ≡ t)

-- of every call
abbrev pub EachNumbered : Type 0
EachNumbered = (s states t : List ℕ) (r : InTurn) (u : List ℕ) → QueriesInTurn s states t r u → InTurnNumbers s states t r u
