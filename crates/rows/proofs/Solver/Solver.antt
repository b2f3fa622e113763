-- The clauses of the solver as equations for whoever has the tests.
use mathlib.Core.Bool.{Bool, true, false}
use mathlib.Core.List.{List, ◌∷◌}
use mathlib.Core.Path.{◌≡◌}
use Prim.Native.Nat.{ℕ}
use Rattle.rows.specs.Rows.{Connective, Row, decides}
use Rattle.rows.specs.Tables.{byte_at, empty, known, Result, out}
use Rattle.rows.specs.Internal.Solver.{after, fill_cell, walk, step}

module _ {C : Type 0} (rec : C → List ℕ → Result) (k : Connective) where
  pub walk_decided : (d : C) (ds : List C) (t : List ℕ) (v : Bool) (n : ℕ) (u : List ℕ) → rec d t ≡ out v n u → decides k v ≡ true → walk rec k (d ∷ ds) t ≡ out v n u
  unfolding walk
  walk_decided d ds t v n u e q = rw (e, walk) (rw q)

  pub walk_on : (d : C) (ds : List C) (t : List ℕ) (v : Bool) (n : ℕ) (u : List ℕ) → rec d t ≡ out v n u → decides k v ≡ false → walk rec k (d ∷ ds) t ≡ after n (walk rec k ds u)
  unfolding walk
  walk_on d ds t v n u e q = rw (e, walk) (rw q)

module _ {C : Type 0} (position : C → ℕ) (rows : C → Row C) (rec : C → List ℕ → Result) (c : C) (t : List ℕ) where
  pub step_empty : empty (byte_at t (position c)) ≡ true → step position rows rec c t ≡ fill_cell (position c) (walk rec (rows c).connective (rows c).entries t)
  unfolding step
  step_empty e = rw (e, step)

  pub step_filled : empty (byte_at t (position c)) ≡ false → step position rows rec c t ≡ out (known (byte_at t (position c))) 0 t
  unfolding step
  step_filled e = rw (e, step)
