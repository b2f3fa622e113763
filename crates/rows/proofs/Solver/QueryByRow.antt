-- One step of a query by its row: what a query of a cell is, from the queries of the entries of its row.
use mathlib.Core.Bool.{Bool, true, false, not}
use mathlib.Core.List.{List, [], ◌∷◌}
use mathlib.Core.Path.{◌≡◌, refl, sym, ap, ◌∙◌}
use Prim.Native.Nat.{ℕ, suc, ◌+◌, ◌≤◌}
use native.Mathlib.Omega.{arith}
use lib.ListN.{length}
use Rattle.rows.specs.Rows.{Connective, Row, deciding, decides}
use Rattle.rows.specs.Tables.{byte_at, empty, known, Result, out, visits, query}
use Rattle.rows.specs.Internal.Solver.{after, fill_cell, walk, step, solve}
use Rattle.rows.proofs.Systems.Systems.{Each, Solvable}
use Rattle.rows.proofs.Systems.Fuel.{each_map}
use Rattle.rows.proofs.Tables.Counting.{count_le}
use Rattle.rows.proofs.Solver.Solver.{step_empty, step_filled, walk_decided, walk_on}
use Rattle.rows.proofs.Solver.Walks.{query_answer, Solves, walk_solves}
use Rattle.rows.proofs.Solver.Solved.{solve_answer}

module _ {C : Type 0} {position : C → ℕ} {rows : C → Row C} {size : ℕ} {cell_at : ℕ → C} {Valid : C → Type 0} {rank : C → ℕ} {F : ℕ} (s : Solvable position rows size cell_at Valid rank F) where
  abbrev pub Q : C → List ℕ → Result
  Q d u = query position size cell_at rows F u d

  unrolled : (c : C) (t : List ℕ) → solve position rows (suc F) c t ≡ step position rows (λ d u. solve position rows F d u) c t
  unfolding solve
  unrolled c t = refl

  entries_solved : (c : C) → Valid c → Each (Solves s (λ d u. solve position rows F d u)) (rows c).entries
  entries_solved c v =
      each_map (λ d h. (h.0, λ t fits. solve_answer s F d h.0 (s.fuelled d h.0) t fits)) (rows c).entries (s.falling.falls c v)

  entries_queried : (c : C) → Valid c → Each (Solves s Q) (rows c).entries
  entries_queried c v = each_map (λ d h. (h.0, λ t fits. query_answer s t d)) (rows c).entries (s.falling.falls c v)

  pub query_row : (c : C) → Valid c → (t : List ℕ) → size ≤ length t → empty (byte_at t (position c)) ≡ true → Q c t ≡ fill_cell (position c) (walk Q (rows c).connective (rows c).entries t)
  query_row c v t fits e =
      query_answer s t c ∙
      (sym (solve_answer s (suc F) c v (omega (arith, s.fuelled c v)) t fits) ∙
      (unrolled c t ∙
      (step_empty position rows (λ d u. solve position rows F d u) c t e ∙
      ap (fill_cell (position c))
      (walk_solves s (λ d u. solve position rows F d u) (rows c).connective (rows c).entries (entries_solved c v) t fits ∙
      sym (walk_solves s Q (rows c).connective (rows c).entries (entries_queried c v) t fits)))))

  pub query_known : (c : C) → Valid c → (t : List ℕ) → size ≤ length t → empty (byte_at t (position c)) ≡ false → Q c t ≡ out (known (byte_at t (position c))) 0 t
  query_known c v t fits e =
      query_answer s t c ∙
      (sym (solve_answer s (suc F) c v (omega (arith, s.fuelled c v)) t fits) ∙
      (unrolled c t ∙ step_filled position rows (λ d u. solve position rows F d u) c t e))

  pub query_visits_bound : (c : C) (t : List ℕ) → visits (Q c t) ≤ size
  unfolding query
  query_visits_bound c t = count_le size _

-- a verdict that does not decide a connective is what an empty row of it gives
undecided : (k : Connective) (v : Bool) → decides k v ≡ false → v ≡ not (deciding k)
undecided Connective.disjunction true e = absurd (mathlib.Core.Bool.true≢false e)
undecided Connective.disjunction false e = refl
undecided Connective.conjunction true e = refl
undecided Connective.conjunction false e = absurd (mathlib.Core.Bool.true≢false e)

plus_none : (m : ℕ) → m + 0 ≡ m
plus_none m = omega arith

module _ {C : Type 0} (rec : C → List ℕ → Result) (k : Connective) where
  pub walk_none : (t : List ℕ) → walk rec k [] t ≡ out (not (deciding k)) 0 t
  unfolding walk
  walk_none t = refl

  pub walk_only : (d : C) (t : List ℕ) (v : Bool) (n : ℕ) (u : List ℕ) → rec d t ≡ out v n u → walk rec k (d ∷ []) t ≡ out v n u
  walk_only d t v n u e = go (decides k v) refl
    where
      go : (b : Bool) → decides k v ≡ b → walk rec k (d ∷ []) t ≡ out v n u
      go true q = walk_decided rec k d [] t v n u e q
      go false q =
          walk_on rec k d [] t v n u e q ∙
          (ap (after n) (walk_none u) ∙ (λ i. out (sym (undecided k v q) i) (plus_none n i) u))

  pub walk_both : (d e : C) (t : List ℕ) (v w : Bool) (n m : ℕ) (u x : List ℕ) → rec d t ≡ out v n u → decides k v ≡ false → rec e u ≡ out w m x → walk rec k (d ∷ e ∷ []) t ≡ out w (n + m) x
  walk_both d e t v w n m u x p q r = walk_on rec k d (e ∷ []) t v n u p q ∙ ap (after n) (walk_only e u w m x r)
