-- A table left with the empty cells of a list filled, each with its solution by the rows as the table before changes them: byte by byte.
use Rattle.std.proofs.Common.{◌≡◌, ℕ, ◌<◌, ◌≤◌, Bool, true, false, ◌&&◌, ◌⊎◌, List, length, sym, refl, ap, ◌∙◌, inl, inr, arith, eq-eqb, eqb-true}
use Rattle.sheet.specs.Contents.{plan_body, actions_body, rule_body}
use Rattle.sheet.specs.Reading.{sheet_check}
use Rattle.std.specs.Prelude.{Ok}
use Rattle.sheet.proofs.Acceptance.Parts.{bodies_kept}
use Rattle.rows.specs.Rows.{value}
use Rattle.rows.specs.Tables.{byte_at, empty, filled, byte_of, count, among, fills}
use Rattle.rows.proofs.Systems.Changed.{filled_byte}
use Rattle.rows.proofs.Systems.Systems.{Solvable}
use Rattle.rows.proofs.Tables.Counting.{count_cong}
use Rattle.rows.proofs.Tables.Filling.{fill, fill_new, fill_old, fills_empty, fills_full, fills_true}
use Rattle.judge.specs.Cells.{Cell, rows, enough, position_of, cell_at, cell_bytes, table_bytes, cells_in, InTable}
use Rattle.judge.specs.StoredCount.{HoldsCount}
use Rattle.judge.specs.OneSolution.{changed_rows}
use Rattle.judge.specs.QueryCorrect.{cell_byte}
use Rattle.judge.proofs.Cells.CellLayout.{solvable, position_inside, position_back}
use Rattle.judge.proofs.Cells.CountLayout.{cells_byte, cells_length}
use Rattle.judge.proofs.Cells.Ranks.{rank}
use Rattle.judge.proofs.Cells.ValidCells.{Valid}

module _ (s : List ℕ) (accepted : sheet_check s ≡ Ok tt) where
  pub solved : Solvable (position_of (rule_body s)) (rows (plan_body s) (actions_body s) (rule_body s)) (cell_bytes s) (cell_at (rule_body s)) (Valid (plan_body s) (actions_body s) (rule_body s)) (rank (plan_body s) (rule_body s)) enough
  solved = solvable (bodies_kept s accepted)

  module _ (t : List ℕ) (long : table_bytes s ≤ length t) (l : List Cell) {n : ℕ} {u : List ℕ} (left : HoldsCount s (fill solved (cells_in s t) l) n t u) where
    abbrev held : List ℕ
    held = cells_in s t

    fits : cell_bytes s ≤ length held
    fits = omega (arith, cells_length s t long)

    -- the cells of the list that were empty
    abbrev Fills : ℕ → Bool
    Fills = fills (position_of (rule_body s)) held l

    pub left_byte : (i : ℕ) → i < cell_bytes s → byte_at u i ≡ byte_at (fill solved held l) i
    left_byte i h = sym (cells_byte s u i h) ∙ ap (λ (cells : List ℕ). byte_at cells i) left.cells_are

    new_byte : (i : ℕ) → i < cell_bytes s → Fills i ≡ true → byte_at u i ≡ byte_of (value (changed_rows s t) enough (cell_at (rule_body s) i))
    new_byte i h e = left_byte i h ∙ fill_new solved held l fits i h e

    old_byte : (i : ℕ) → i < cell_bytes s → Fills i ≡ false → byte_at u i ≡ byte_at t i
    old_byte i h e = left_byte i h ∙ fill_old solved held l fits i e ∙ cells_byte s t i h

    was_empty : (i : ℕ) → i < cell_bytes s → empty (byte_at held i) ≡ empty (byte_at t i)
    was_empty i h = ap empty (cells_byte s t i h)

    newly : (i : ℕ) → i < cell_bytes s → Fills i ≡ (empty (byte_at t i) && filled (byte_at u i))
    newly i h = go (empty (byte_at t i)) (Fills i) refl refl
      where
        go : (a b : Bool) → empty (byte_at t i) ≡ a → Fills i ≡ b → Fills i ≡ (empty (byte_at t i) && filled (byte_at u i))
        go false b e f = rw (e, fills_full (position_of (rule_body s)) held l i (was_empty i h ∙ e))
        go true true e f = rw (e, f) (sym (ap filled (new_byte i h f) ∙ filled_byte (value (changed_rows s t) enough (cell_at (rule_body s) i))))
        go true false e f = rw (e, f) (sym (ap filled (old_byte i h f ∙ eqb-true (byte_at t i) 0 e)))

    -- as many cells are newly filled
    pub newly_filled : count (cell_bytes s) Fills ≡ count (cell_bytes s) (λ i. empty (byte_at t i) && filled (byte_at u i))
    newly_filled = count_cong (cell_bytes s) Fills (λ i. empty (byte_at t i) && filled (byte_at u i)) newly

    -- the cells of the list are those that are needed
    module _ (Needs : Cell → Type 0)
        (found : (d : Cell) → InTable s d → among (position_of (rule_body s)) l (position_of (rule_body s) d) ≡ true → Needs d)
        (there : (d : Cell) → Needs d → among (position_of (rule_body s)) l (position_of (rule_body s) d) ≡ true) where
      pub needed_filled : (d : Cell) → InTable s d → cell_byte s t d ≡ 0 → Needs d → cell_byte s u d ≡ byte_of (value (changed_rows s t) enough d)
      needed_filled d h e n =
          let i = position_of (rule_body s) d in
          new_byte i (position_inside s d h)
          (fills_empty (position_of (rule_body s)) held l i (was_empty i (position_inside s d h) ∙ eq-eqb _ 0 e) ∙ there d n)
          ∙ ap (λ (x : Cell). byte_of (value (changed_rows s t) enough x)) (position_back s d h)

      -- a cell was empty and is needed, or its byte is as it was
      pub filled_or_same : (d : Cell) → InTable s d → ((cell_byte s t d ≡ 0) × Needs d) ⊎ (cell_byte s u d ≡ cell_byte s t d)
      filled_or_same d h = go (Fills (position_of (rule_body s) d)) refl
        where
          go : (b : Bool) → Fills (position_of (rule_body s) d) ≡ b → ((cell_byte s t d ≡ 0) × Needs d) ⊎ (cell_byte s u d ≡ cell_byte s t d)
          go true e =
              let q = fills_true (position_of (rule_body s)) held l (position_of (rule_body s) d) e in
              inl (eqb-true (cell_byte s t d) 0 (sym (was_empty _ (position_inside s d h)) ∙ q.0), found d h q.1)
          go false e = inr (old_byte (position_of (rule_body s) d) (position_inside s d h) e)

      pub others_same : (d : Cell) → InTable s d → (cell_byte s t d ≡ 0 → Needs d → ⊥) → cell_byte s u d ≡ cell_byte s t d
      others_same d h none = elim (filled_or_same d h) [ inl q ↦ absurd (none q.0 q.1) | inr e ↦ e ]
