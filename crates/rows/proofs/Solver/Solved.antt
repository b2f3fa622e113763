-- The solver gives exactly what a query is to give.
use mathlib.Core.Bool.{Bool, true, false, true≢false}
use mathlib.Core.List.{List, [], ◌∷◌}
use mathlib.Core.Path.{◌≡◌, refl, sym, ap, subst, ◌∙◌}
use Prim.Native.Nat.{ℕ, zero, suc, ◌+◌, ◌≤◌, ◌<◌}
use native.Mathlib.Omega.{arith}
use lib.Dec.{eqb, ltb}
use lib.ListN.{length, set, length-set}
use lib.Seq.{ext_get_or, get_or-set_same, get_or-set_other}
use borrow.Author.Tests.{eqb-true, eqb-false, eq-eqb, ltb-true, ltb-false}
use Rattle.rows.specs.Rows.{Row, joined, looked}
use Rattle.rows.specs.Tables.{byte_at, empty, known, byte_of, changed, among, fills, count, query, Result, out, table}
use Rattle.rows.proofs.Systems.Fuel.{each_map, value_row}
use Rattle.rows.proofs.Systems.Changed.{byte_small, changed_empty, changed_filled, joined_constant}
use Rattle.rows.proofs.Tables.Among.{false_if, among_head, among_none}
use Rattle.rows.proofs.Tables.Counting.{one_if, count_none, count_one, count_sum}
use Rattle.rows.proofs.Systems.Needs.{changed_solvable, solution, needed, need_unfold, entries_apart}
use Rattle.rows.proofs.Tables.Extension.{Extends, looked_constant}
use Rattle.rows.proofs.Tables.Filling.{fills_empty, fills_true, fill, fill_length, fill_above, fill_old, fill_new, fill_same, fills_other, fill_extends, Whole}
use Rattle.rows.proofs.Solver.Walks.{out_path, fill_none, need_whole, along, answer, query_answer, walked, walk_solves, Solves}
use Rattle.rows.specs.Internal.Solver.{step, solve, fill_cell}
use Rattle.rows.proofs.Systems.Systems.{Each, Solvable}
use Rattle.rows.proofs.Solver.Solver.{step_empty, step_filled}

module _ {C : Type 0} {position : C → ℕ} {rows : C → Row C} {size : ℕ} {cell_at : ℕ → C} {Valid : C → Type 0} {rank : C → ℕ} {F : ℕ} (s : Solvable position rows size cell_at Valid rank F) where
  module _ (t : List ℕ) (fits : size ≤ length t) (c : C) (vc : Valid c) where
    row_value_lem : solution s t c ≡ joined (changed position rows t c).connective (solution s t) (changed position rows t c).entries
    row_value_lem = value_row (changed position rows t) (changed_solvable s t).falling F c vc (s.fuelled c vc)

    -- a filled cell: its value is known, and nothing is filled
    answer_filled : empty (byte_at t (position c)) ≡ false → out (known (byte_at t (position c))) 0 t ≡ answer s t c
    answer_filled full = out_path (sym (row_value_lem ∙ constantly)) (sym (count_none size _ (λ i h. none i))) (sym (fill_none s t (needed s t c) fits none))
      where
        constantly : joined (changed position rows t c).connective (solution s t) (changed position rows t c).entries ≡ known (byte_at t (position c))
        constantly = rw (changed_filled position rows t c full) (joined_constant (known (byte_at t (position c))) (solution s t))

        alone : needed s t c ≡ c ∷ []
        alone =
            need_unfold (changed_solvable s t) c vc
            ∙ ap (λ (r : Row C). c ∷ looked r.connective (solution s t) (needed s t) r.entries) (changed_filled position rows t c full)
            ∙ ap {B = List C} (λ l. c ∷ l) (looked_constant (known (byte_at t (position c))) (solution s t) (needed s t))

        none : (i : ℕ) → fills position t (needed s t c) i ≡ false
        none i = false_if (fills position t (needed s t c) i) (λ h. go (fills_true position t (needed s t c) i h))
          where
            go : (empty (byte_at t i) ≡ true) × (among position (needed s t c) i ≡ true) → ⊥
            go h = true≢false (sym h.1 ∙ ap (λ (l : List C). among position l i) alone ∙ among_none position (c ∷ []) i ((λ q. true≢false (sym h.0 ∙ ap (λ (j : ℕ). empty (byte_at t j)) (sym q) ∙ full)), tt))

    -- an empty cell: what its entries fill, then its own byte
    module _ (free : empty (byte_at t (position c)) ≡ true) (l : List C) (apart : among position l (position c) ≡ false) where
      mine : fills position t (c ∷ l) (position c) ≡ true
      mine = fills_empty position t (c ∷ l) (position c) free ∙ among_head position c l

      own_sum : (i : ℕ) → i < size → one_if (eqb (position c) i) + one_if (fills position t l i) ≡ one_if (fills position t (c ∷ l) i)
      own_sum i h = go (eqb (position c) i) refl
        where
          Sum : ℕ → Type 0
          Sum j = one_if (eqb (position c) j) + one_if (fills position t l j) ≡ one_if (fills position t (c ∷ l) j)

          go : (b : Bool) → eqb (position c) i ≡ b → Sum i
          go true q = subst Sum (eqb-true (position c) i q) (rw (eq-eqb (position c) (position c) refl, fills_empty position t l (position c) free, apart, mine))
          go false q = rw (q, fills_other position t c l i q) (omega arith)

      own_count : count size (fills position t l) + 1 ≡ count size (fills position t (c ∷ l))
      own_count = omega (arith, count_one size (position c) (s.layout.inside c vc), count_sum size (eqb (position c)) (fills position t l) (fills position t (c ∷ l)) own_sum)

      own_fill : set (fill s t l) (position c) (byte_of (solution s t c)) ≡ fill s t (c ∷ l)
      own_fill =
          ext_get_or 0 (set (fill s t l) (position c) (byte_of (solution s t c))) (fill s t (c ∷ l)) (length-set (fill s t l) (position c) _ ∙ fill_length s t l ∙ sym (fill_length s t (c ∷ l)))
          (λ i h. go i (eqb (position c) i) refl)
        where
          Byte : ℕ → Type 0
          Byte i = byte_at (set (fill s t l) (position c) (byte_of (solution s t c))) i ≡ byte_at (fill s t (c ∷ l)) i

          inside : position c < size
          inside = s.layout.inside c vc

          go : (i : ℕ) (b : Bool) → eqb (position c) i ≡ b → Byte i
          go i true q =
              subst Byte (eqb-true (position c) i q) (get_or-set_same (fill s t l) (position c) _ 0 (rw (fill_length s t l) (omega (arith, inside)))
              ∙ sym (fill_new s t (c ∷ l) fits (position c) inside mine ∙ ap (λ (d : C). byte_of (solution s t d)) (s.layout.back c vc)))
          go i false q =
              get_or-set_other (fill s t l) (position c) i _ 0 (λ e. eqb-false (position c) i q (sym e)) ∙ fill_same s t l (c ∷ l) fits i (sym (fills_other position t c l i q))

    answer_empty : empty (byte_at t (position c)) ≡ true → fill_cell (position c) (walked s t (rows c).connective (rows c).entries) ≡ answer s t c
    answer_empty free =
        let own : changed position rows t c ≡ rows c = changed_empty position rows t c free in
        let l : List C = along s t (rows c).connective (rows c).entries in
        let val : solution s t c ≡ joined (rows c).connective (solution s t) (rows c).entries = row_value_lem ∙ ap (λ (r : Row C). joined r.connective (solution s t) r.entries) own in
        let lst : needed s t c ≡ c ∷ l = need_unfold (changed_solvable s t) c vc ∙ ap (λ (r : Row C). c ∷ along s t r.connective r.entries) own in
        let apart : among position l (position c) ≡ false =
        ap (λ (r : Row C). among position (along s t r.connective r.entries) (position c)) (sym own) ∙ entries_apart (changed_solvable s t) c vc in
        out_path (sym val) (own_count free l apart ∙ ap (λ (m : List C). count size (fills position t m)) (sym lst))
        (ap (λ (v : Bool). set (fill s t l) (position c) (byte_of v)) (sym val) ∙ own_fill free l apart ∙ ap (fill s t) (sym lst))

  -- at any fuel above the cell's rank, on every table long enough
  pub solve_answer : (f : ℕ) (c : C) → Valid c → rank c < f → (t : List ℕ) → size ≤ length t → solve position rows f c t ≡ answer s t c
  unfolding solve
  solve_answer zero c vc h t fits = absurd (omega arith)
  solve_answer (suc f) c vc h t fits =
      go (empty (byte_at t (position c))) refl (each_map (λ d (q : Valid d × (rank d < rank c)). (q.0, solve_answer f d q.0 (omega arith))) (rows c).entries (s.falling.falls c vc))
    where
      go : (b : Bool) → empty (byte_at t (position c)) ≡ b → Each (Solves s (λ d u. solve position rows f d u)) (rows c).entries → step position rows (λ d u. solve position rows f d u) c t ≡ answer s t c
      go true e rest = step_empty position rows _ c t e ∙ ap (fill_cell (position c)) (walk_solves s _ (rows c).connective (rows c).entries rest t fits) ∙ answer_empty t fits c vc e
      go false e rest = step_filled position rows _ c t e ∙ answer_filled t fits c vc e

  -- what holds of the table that a query leaves
  pub record Right (t u : List ℕ) : Type 0 where
    pub extends : Extends s t u
    pub long : length u ≡ length t
    pub small : (i : ℕ) → byte_at t i ≤ 2 → byte_at u i ≤ 2
    pub above : (i : ℕ) → size ≤ i → byte_at u i ≡ byte_at t i

  pub fill_right : (t : List ℕ) (l : List C) → size ≤ length t → Whole s t l → Right t (fill s t l)
  fill_right t l fits w =
      record { extends = fill_extends s t l fits w; long = fill_length s t l; small = λ i h. small i h (fills position t l i) (ltb i size) refl refl; above = λ i h. fill_above s t l i h }
    where
      small : (i : ℕ) → byte_at t i ≤ 2 → (a b : Bool) → fills position t l i ≡ a → ltb i size ≡ b → byte_at (fill s t l) i ≤ 2
      small i h true true p q = rw (fill_new s t l fits i (ltb-true i size q) p) (byte_small (solution s t (cell_at i)))
      small i h true false p q = rw (fill_above s t l i (ltb-false i size q)) h
      small i h false true p q = rw (fill_old s t l fits i p) h
      small i h false false p q = rw (fill_old s t l fits i p) h

  pub query_right : (t : List ℕ) (c : C) → size ≤ length t → Valid c → Right t (table (query position size cell_at rows F t c))
  query_right t c fits vc = subst (λ (r : Result). Right t (table r)) (sym (query_answer s t c)) (fill_right t (needed s t c) fits (need_whole s t c vc))
