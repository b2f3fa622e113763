-- What is asked of a system of rows and of the table of its cells, and lists of queries on it.
use mathlib.Core.Bool.{Bool, false, ◌||◌}
use mathlib.Core.List.{List, [], ◌∷◌}
use mathlib.Core.Path.{◌≡◌}
use Prim.Native.Nat.{ℕ, ◌+◌, ◌<◌}
use Rattle.rows.specs.Rows.{Row, need}
use Rattle.rows.specs.Tables.{Result, visits, table, among, query}

module _ {C : Type 0} where
  -- what holds of every cell of a list
  abbrev pub Each : (C → Type 0) → List C → Type 0
  Each P [] = Unit {0}
  Each P (d ∷ ds) = P d × Each P ds

module _ {C : Type 0} (rows : C → Row C) where
  -- "no chain of rows returns to its cell": among the cells that count, each entry has a smaller rank than the cell of its row
  pub record Falling (Valid : C → Type 0) (rank : C → ℕ) : Type 0 where
    pub falls : (c : C) → Valid c → Each (λ d. Valid d × (rank d < rank c)) (rows c).entries

-- where cells lie: each has a position below the size, and is the cell at that position
pub record Layout {C : Type 0} (Valid : C → Type 0) (position : C → ℕ) (size : ℕ) (cell_at : ℕ → C) : Type 0 where
  pub inside : (c : C) → Valid c → position c < size
  pub back : (c : C) → Valid c → cell_at (position c) ≡ c

-- all that solving asks of rows and cells: ranks fall, cells are laid out, and the fuel is above every rank
pub record Solvable {C : Type 0} (position : C → ℕ) (rows : C → Row C) (size : ℕ) (cell_at : ℕ → C) (Valid : C → Type 0) (rank : C → ℕ) (fuel : ℕ) : Type 0 where
  pub falling : Falling rows Valid rank
  pub layout : Layout Valid position size cell_at
  pub fuelled : (c : C) → Valid c → rank c < fuel

module _ {C : Type 0} (position : C → ℕ) (size : ℕ) (cell_at : ℕ → C) where
  -- "A list is any number of queries .. with one sheet and one table": what each gives, the table handed on
  unfoldable pub queries : (C → Row C) → ℕ → List ℕ → List C → List Result
  queries rows fuel t [] = []
  queries rows fuel t (c ∷ cs) =
      let r : Result = query position size cell_at rows fuel t c in
      r ∷ queries rows fuel (table r) cs

-- the sum of the visits of a list of queries
unfoldable pub total : List Result → ℕ
total [] = 0
total (r ∷ rs) = visits r + total rs

-- the table that a list of queries leaves
unfoldable pub final : List ℕ → List Result → List ℕ
final t [] = t
final t (r ∷ rs) = final (table r) rs

module _ {C : Type 0} (position : C → ℕ) (rows : C → Row C) (fuel : ℕ) where
  -- the cell at position i is needed for one of the cells of a list, by the rows as written
  unfoldable pub needed_for : List C → ℕ → Bool
  needed_for [] i = false
  needed_for (c ∷ cs) i = among position (need rows fuel c) i || needed_for cs i
