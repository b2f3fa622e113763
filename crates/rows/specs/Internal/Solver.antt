-- DAGSOLVE (document 000, Figure 1) as a function that hands the table on: a filled cell is looked up; an empty one has its row's entries
-- solved in order up to the first that decides, and then its own byte set.
use Rattle.std.specs.Prelude.{true, false, not, List, [], ◌∷◌, ℕ, zero, suc, ◌+◌, set}
use Rattle.rows.specs.Rows.{Connective, Row, deciding, decides}
use Rattle.rows.specs.Tables.{byte_at, empty, known, byte_of, Result, out}

-- n visits before those of a result
abbrev pub after : ℕ → Result → Result
after n (out v k t) = out v (n + k) t

-- the cell at i is given its value, and counts as one visit more
abbrev pub fill_cell : ℕ → Result → Result
fill_cell i (out v k t) = out v (k + 1) (set t i (byte_of v))

module _ {C : Type 0} (rec : C → List ℕ → Result) (k : Connective) where
  -- the entries of a row in order, each with the table so far, up to the first that decides
  unfoldable pub walk : List C → List ℕ → Result
  walk [] t = out (not (deciding k)) 0 t
  walk (d ∷ ds) t = elim (rec d t) [ out v n u ↦ elim (decides k v) [ true ↦ out v n u | false ↦ after n (walk ds u) ] ]

module _ {C : Type 0} (position : C → ℕ) (rows : C → Row C) where
  unfoldable pub step : (C → List ℕ → Result) → C → List ℕ → Result
  step rec c t =
      elim (empty (byte_at t (position c))) [
        | true ↦ fill_cell (position c) (walk rec (rows c).connective (rows c).entries t)
        | false ↦ out (known (byte_at t (position c))) 0 t
      ]

  unfoldable pub solve : ℕ → C → List ℕ → Result
  solve zero c t = out false 0 t
  solve (suc f) c t = step (λ d u. solve f d u) c t
