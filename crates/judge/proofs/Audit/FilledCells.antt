-- A test of every byte of the cells that passes the empty ones is a test of the filled cells.
use Rattle.std.proofs.Common.{◌≡◌, ℕ, zero, suc, ◌<◌, Bool, true, false, not, ◌&&◌, ◌≢◌, ◌↔◌, List, sym, refl, ap, ◌∙◌, subst, true≢false, arith, eq-eqb, ne_eqb, eqb-true}
use mathlib.Core.Bool.{and-eq-true_iff}
use borrow.Author.Tests.{not-true, not-false}
use Rattle.sheet.specs.Bytes.{pick}
use Rattle.sheet.specs.Contents.{rule_body}
use Rattle.sheet.proofs.Checks.Checks.{none_found, one_found}
use Rattle.rows.specs.Tables.{byte_at, filled, known}
use Rattle.rows.specs.FollowsFrom.{FollowsFrom, follows_from}
use Rattle.rows.proofs.Follows.Follows.{follows_exactly}
use Rattle.judge.specs.Cells.{Cell, MarkRight, written_rows, marks, position_of, cell_at, cell_bytes}
use Rattle.judge.specs.StoredCount.{stored_count, filled_cells}
use Rattle.judge.specs.Querying.{count_right}
use Rattle.judge.specs.QueryCorrect.{cell_byte}
use Rattle.judge.specs.Auditing.{every_below, every_byte, mark_allowed, byte_marked, byte_follows, audit_right}
use Rattle.judge.specs.AuditCorrect.{FilledCell, AuditRight}
use Rattle.judge.proofs.Cells.CellLayout.{table_layout, position_inside, position_back}

-- a test that is asked only where f holds
picked : (f p : Bool) → pick f p true ≡ false → (f ≡ true) × (p ≡ false)
picked true p e = (refl, e)
picked false p e = absurd (true≢false e)

-- the test is of a cell and its byte
module _ (s t : List ℕ) (P : Cell → ℕ → Bool) where
  abbrev test : ℕ → Bool
  test i = pick (filled (byte_at t i)) (P (cell_at (rule_body s) i) (byte_at t i)) true

  abbrev Passes : Cell → Bool → Type 0
  Passes c b = P c (cell_byte s t c) ≡ b

  filled_at : (i : ℕ) → i < cell_bytes s → filled (byte_at t i) ≡ true → FilledCell s t (cell_at (rule_body s) i)
  filled_at i l f = let w = table_layout.whole s i l in record { in_table = w.0; is_filled = ap (λ (j : ℕ). filled (byte_at t j)) w.1 ∙ f }

  same_test : (i : ℕ) → i < cell_bytes s → P (cell_at (rule_body s) i) (cell_byte s t (cell_at (rule_body s) i)) ≡ P (cell_at (rule_body s) i) (byte_at t i)
  same_test i l = ap (λ (j : ℕ). P (cell_at (rule_body s) i) (byte_at t j)) (table_layout.whole s i l).1

  pub every_filled : (every_byte s test ≡ true) ↔ ((c : Cell) → FilledCell s t c → Passes c true)
  unfolding every_below
  every_filled = (
    λ h c f. cell_passes_lem c f
        (not-false _ ((none_found (λ i. not (test i)) (cell_bytes s)).0 h (position_of (rule_body s) c) (position_inside s c f.in_table))),
    λ h. (none_found (λ i. not (test i)) (cell_bytes s)).1 (λ i l. byte_passes h i l (filled (byte_at t i)) refl),
  )
    where
      cell_passes_lem : (c : Cell) → FilledCell s t c → test (position_of (rule_body s) c) ≡ true → Passes c true
      cell_passes_lem c f q =
          ap (λ (d : Cell). P d (cell_byte s t c)) (sym (position_back s c f.in_table))
          ∙ subst (λ (b : Bool). pick b (P (cell_at (rule_body s) (position_of (rule_body s) c)) (cell_byte s t c)) true ≡ true) f.is_filled q

      byte_passes : ((c : Cell) → FilledCell s t c → Passes c true) → (i : ℕ) → i < cell_bytes s → (b : Bool) → filled (byte_at t i) ≡ b → not (test i) ≡ false
      byte_passes h i l true f = rw (f, sym (same_test i l) ∙ h (cell_at (rule_body s) i) (filled_at i l f))
      byte_passes h i l false f = rw f

  -- and where it fails, a filled cell does
  pub some_filled : every_byte s test ≡ false → (c : Cell) × FilledCell s t c × Passes c false
  unfolding every_below
  some_filled h =
      let f = one_found (λ i. not (test i)) (cell_bytes s) h in
      let q = picked (filled (byte_at t f.0)) (P (cell_at (rule_body s) f.0) (byte_at t f.0)) (not-true _ f.2) in
      (cell_at (rule_body s) f.0, filled_at f.0 f.1 q.0, same_test f.0 f.1 ∙ q.1)

-- under a mark that the table has, the test of the mark says that it is right
pub mark_exactly : (r : List ℕ) (m n : ℕ) → m < marks r → (mark_allowed r m n ≡ true) ↔ MarkRight r m n
mark_exactly r zero n l = (λ h. tt, λ h. refl)
mark_exactly r (suc k) n l = (λ h. (omega arith, h), λ h. h.1)

module _ (s t : List ℕ) where
  -- "Say yes exactly when .."
  pub right_exactly : (audit_right s t ≡ true) ↔ AuditRight s t
  unfolding audit_right count_right
  right_exactly =
      let both = and-eq-true_iff (count_right s t) (every_byte s (byte_marked s t) && every_byte s (byte_follows s t)) in
      let rest = and-eq-true_iff (every_byte s (byte_marked s t)) (every_byte s (byte_follows s t)) in
      let marked = every_filled s t (λ c b. mark_allowed (rule_body s) c.mark c.node) in
      let follow = every_filled s t (λ c b. follows_from (position_of (rule_body s)) t (written_rows s c) (known b)) in (
        λ h. record {
          count_right_holds = eqb-true (stored_count s t) (filled_cells s t) (both.0 h).0;
          mark_right = λ c f. (mark_exactly (rule_body s) c.mark c.node f.in_table.mark_below).0 (marked.0 (rest.0 (both.0 h).1).0 c f);
          follows_from_holds = λ c f. (followed c).0 (follow.0 (rest.0 (both.0 h).1).1 c f);
        },
        λ q. both.1 (
          eq-eqb (stored_count s t) (filled_cells s t) q.count_right_holds,
          rest.1 (
            marked.1 (λ c f. (mark_exactly (rule_body s) c.mark c.node f.in_table.mark_below).1 (q.mark_right c f)),
            follow.1 (λ c f. (followed c).1 (q.follows_from_holds c f)),
          ),
        ),
      )
    where
      followed : (c : Cell)
          → (follows_from (position_of (rule_body s)) t (written_rows s c) (known (cell_byte s t c)) ≡ true)
          ↔ FollowsFrom (position_of (rule_body s)) t (written_rows s c) (known (cell_byte s t c))
      followed c = follows_exactly Cell (position_of (rule_body s)) t (written_rows s c) (known (cell_byte s t c))

  -- "A wrong count here is a no"
  pub miscounted_wrong : stored_count s t ≢ filled_cells s t → audit_right s t ≡ false
  unfolding audit_right count_right
  miscounted_wrong h = rw (ne_eqb (stored_count s t) (filled_cells s t) h)
