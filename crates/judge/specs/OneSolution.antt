-- Document 02 (b): where no loop can be reached from the queried state, "the rows of the cells it can come to have one solution". This is
-- document 01's "On a plan without loops no chain of rows returns to its cell, so the rows have one solution", said of those cells alone.
use Rattle.std.specs.Prelude.{◌≡◌, ℕ, ◌<◌, Bool, List, Ok}
use mathlib.Core.List.{Memᴰ}
use Rattle.sheet.specs.Contents.{plan_body, rule_body}
use Rattle.sheet.specs.Plan.{state_count}
use Rattle.sheet.specs.Reading.{sheet_check}
use Rattle.rows.specs.Rows.{Row, Solution}
use Rattle.rows.specs.Tables.{changed}
use Rattle.graph.specs.Loops.{Way, Reachable, LoopReachable}
use Rattle.graph.specs.Successors.{successors}
use Rattle.judge.specs.Cells.{Cell, cell, CellOf, written_rows, position_of, cells_in}

-- "the rows so changed", by the cells of a table t
abbrev pub changed_rows : List ℕ → List ℕ → Cell → Row Cell
changed_rows s t = changed (position_of (rule_body s)) (written_rows s) (cells_in s t)

-- a cell of the sheet, from whose state no loop can be reached
pub record LoopFreeCell (s : List ℕ) (c : Cell) : Type 0 where
  pub of_sheet : CellOf (plan_body s) (rule_body s) c
  pub no_loop : LoopReachable (successors (plan_body s)) c.state → ⊥

-- "the cells it can come to": c itself, and each cell that a chain of rows leads to from c
abbrev pub ComesTo : (Cell → Row Cell) → Cell → Cell → Type 0
ComesTo R c d = Reachable (λ e. (R e).entries) c d

-- for a sheet s, rows R and the cells that count: v is the one solution of their rows
pub record OneSolution (s : List ℕ) (R : Cell → Row Cell) (Counts : Cell → Type 0) (v : Cell → Bool) : Type 0 where
  -- each is a cell of the sheet, from whose state no loop can be reached
  pub of_sheet : (c : Cell) → Counts c → LoopFreeCell s c
  -- and so is each entry of its row
  pub entries_count : (c d : Cell) → Counts c → Memᴰ d (R c).entries → Counts d
  -- "no chain of rows returns to its cell"
  pub no_return : (c : Cell) → Counts c → Way (λ e. (R e).entries) c c → ⊥
  -- "so the rows have one solution": v is a solution, and every other agrees with it
  pub solves : Solution R Counts v
  pub unique : (w : Cell → Bool) → Solution R Counts w → (c : Cell) → Counts c → w c ≡ v c

-- "where none can, the rows of the cells it can come to have one solution": of every accepted sheet and every cell from whose state no
-- loop can be reached (`one_solution` of proofs/Statements/OneSolution.antt)
pub record RowsHaveOneSolution : Type 0 where
  -- a query comes to (0, 0, state) first: where no loop can be reached from a state that the plan has, that is such a cell
  pub queried :
      (s : List ℕ) → sheet_check s ≡ Ok tt → (state : ℕ) → state < state_count (plan_body s)
      → (LoopReachable (successors (plan_body s)) state → ⊥)
      → LoopFreeCell s (cell 0 0 state)
  -- the rows as written, and as any table changes them: of the cells that one cell can come to, and of all such cells together
  pub written :
      (s : List ℕ) → sheet_check s ≡ Ok tt → (c : Cell) → LoopFreeCell s c
      → (v : Cell → Bool) × OneSolution s (written_rows s) (ComesTo (written_rows s) c) v
  pub changed :
      (s : List ℕ) → sheet_check s ≡ Ok tt → (t : List ℕ) (c : Cell) → LoopFreeCell s c
      → (v : Cell → Bool) × OneSolution s (changed_rows s t) (ComesTo (changed_rows s t) c) v
  pub all_written : (s : List ℕ) → sheet_check s ≡ Ok tt → (v : Cell → Bool) × OneSolution s (written_rows s) (LoopFreeCell s) v
  pub all_changed :
      (s : List ℕ) → sheet_check s ≡ Ok tt → (t : List ℕ) → (v : Cell → Bool) × OneSolution s (changed_rows s t) (LoopFreeCell s) v
