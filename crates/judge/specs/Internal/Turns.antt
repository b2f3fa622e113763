-- What the code of queries in turn asks and promises.
use Rattle.std.specs.Prelude.{◌≡◌, ℕ, ◌<◌, ◌≤◌, Bool, List, length, Result, Ok, Err}
use mathlib.Core.List.{Memᴰ}
use Rattle.sheet.specs.Contents.{rule_body}
use Rattle.sheet.specs.Reading.{sheet_check}
use Rattle.sheet.specs.declared.Refusal.{Refusal}
use Rattle.sheet.specs.declared.Refusal.TheVariants.{NoSuchState}
use Rattle.rows.specs.Rows.{conjunction, value}
use Rattle.rows.specs.Tables.{Result as CellResult, visits, table, changed}
use Rattle.rows.specs.Internal.Solver.{walk}
use Rattle.graph.specs.Explored.{StartsFrom}
use Rattle.judge.specs.Cells.{Cell, cell, written_rows, enough, position_of, cell_bytes}
use Rattle.judge.specs.Querying.{result_at}
use Rattle.judge.specs.InTurn.{root_cells, passed_before}
use Rattle.judge.specs.declared.index.Index.{Index}
use Rattle.judge.specs.Internal.Index.{QueryRequires}
use Rattle.judge.specs.Internal.Preparing.{RuleTold}

-- ---- the states of the list

-- one of the states is not below the count, or all are, and starts names them and no other
pub data StatesMarked (states : List ℕ) (count : ℕ) (r : Result (List ℕ) Refusal) : Type 0 where
  missing : r ≡ Err NoSuchState → (u : ℕ) → Memᴰ u states → count ≤ u → StatesMarked states count r
  marked :
      (starts : List ℕ) → r ≡ Ok starts → ((u : ℕ) → Memᴰ u states → (u < count) × StartsFrom starts u)
      → ((u : ℕ) → StartsFrom starts u → Memᴰ u states)
      → StatesMarked states count r

-- an accepted sheet, with what is prepared of its rule and for a query of each state of the list
pub record EachPrepared (s : List ℕ) (index : Index) (states : List ℕ) : Type 0 where
  pub accepted : sheet_check s ≡ Ok tt
  pub rule_told : RuleTold s index
  pub each : (u : ℕ) → Memᴰ u states → QueryRequires s index u

-- ---- the walk along them

-- the solution by the bytes of the cells, and at a state's cell
abbrev pub solution_on : List ℕ → List ℕ → Cell → Bool
solution_on s cells = value (changed (position_of (rule_body s)) (written_rows s) cells) enough

abbrev pub holds_on : List ℕ → List ℕ → ℕ → Bool
holds_on s cells state = solution_on s cells (cell 0 0 state)

-- the walk that queries the states' cells, each on the cells so far
abbrev pub walk_in_turn : List ℕ → List ℕ → List ℕ → CellResult
walk_in_turn s states cells = walk (result_at s) conjunction (root_cells states) cells

pub record WalkRequires (s : List ℕ) (index : Index) (states cells : List ℕ) : Type 0 where
  pub prepared : EachPrepared s index states
  pub room : cell_bytes s ≤ length cells

pub record WalkedInTurn (s states cells : List ℕ) (passed n : ℕ) (left : List ℕ) : Type 0 where
  pub passed_is : passed ≡ passed_before (holds_on s cells) states
  pub visits_are : n ≡ visits (walk_in_turn s states cells)
  pub left_is : left ≡ table (walk_in_turn s states cells)
  pub few : n ≤ cell_bytes s
