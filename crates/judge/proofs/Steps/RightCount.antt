-- The count of a table that a query takes: what is asked of the table, and what the answer tells.
use Rattle.std.proofs.Common.{◌≡◌, ℕ, ◌<◌, ◌≤◌, Bool, true, false, eqb, leb, ◌≢◌, List, length, take, sym, refl, ap, ◌∙◌, ap₂, Ok, Err, arith, length-take-le, eq-eqb, ne_eqb, le-leb, leb-true, leb-false}
use borrow.Author.Tests.{lt-leb}
use Rattle.sheet.specs.Bytes.{pick}
use Rattle.sheet.specs.declared.Refusal.{Refusal}
use Rattle.sheet.specs.declared.Refusal.TheVariants.{TableShort, TableByte}
use Rattle.rows.specs.Tables.{byte_at, filled, count}
use Rattle.judge.specs.Cells.{cell_bytes, table_bytes, table_bytes_for}
use Rattle.judge.specs.StoredCount.{number_at, stored_count}
use Rattle.judge.specs.Querying.{bytes_right, count_right}
use Rattle.judge.specs.Internal.Scanning.{scan_of}
use Rattle.judge.specs.Internal.Judging.{right_count}
use Rattle.judge.specs.declared.QueryError.{QueryError}
use Rattle.judge.specs.declared.QueryError.TheVariants.{WrongCount, Refused}
use Rattle.judge.proofs.Cells.CountLayout.{taken_filled, taken_right}

module _ (cells : ℕ) (t : List ℕ) where
  abbrev filled_in : ℕ
  filled_in = count cells (λ i. filled (byte_at t i))

  -- what the code finds
  pub right_short : length t < table_bytes_for cells → Err (Refused TableShort) ≡ right_count cells t
  unfolding right_count
  right_short h = rw (lt-leb (table_bytes_for cells) (length t) h)

  module _ (l : table_bytes_for cells ≤ length t) where
    scanned : scan_of (take cells t) ≡ pick (bytes_right cells t) (Ok filled_in) (Err TableByte)
    unfolding scan_of
    scanned =
        ap (λ (k : ℕ). pick (bytes_right k (take cells t)) (Ok (count k (λ i. filled (byte_at (take cells t) i)))) (Err TableByte)) (length-take-le cells t (omega arith))
        ∙ ap₂ (λ (b : Bool) (n : ℕ). pick b (Ok n) (Err TableByte)) (taken_right cells t) (sym (taken_filled cells t))

    pub right_over : {x : Refusal} → Err x ≡ scan_of (take cells t) → Err (Refused x) ≡ right_count cells t
    unfolding right_count
    right_over {x} e = go (bytes_right cells t) refl (e ∙ scanned)
      where
        go : (b : Bool) → bytes_right cells t ≡ b → Err x ≡ pick b (Ok filled_in) (Err TableByte) → Err (Refused x) ≡ right_count cells t
        go true r p = absurd (cc)
        go false r p = rw (le-leb (table_bytes_for cells) (length t) l, r) (cc)

    scanned_right : {n : ℕ} → Ok n ≡ scan_of (take cells t) → (bytes_right cells t ≡ true) × (n ≡ filled_in)
    scanned_right {n} e = go (bytes_right cells t) refl (e ∙ scanned)
      where
        go : (b : Bool) → bytes_right cells t ≡ b → Ok n ≡ pick b (Ok filled_in) (Err TableByte) → (bytes_right cells t ≡ true) × (n ≡ filled_in)
        go true r p = (r, cc)
        go false r p = absurd (cc)

    module _ {n : ℕ} (e : Ok n ≡ scan_of (take cells t)) where
      pub right_miscounted : number_at t cells ≢ n → Err WrongCount ≡ right_count cells t
      unfolding right_count
      right_miscounted f =
          rw (le-leb (table_bytes_for cells) (length t) l, (scanned_right e).0, ne_eqb (number_at t cells) filled_in (λ g. f (g ∙ sym (scanned_right e).1)))

      pub right_counted : number_at t cells ≡ n → Ok (number_at t cells) ≡ right_count cells t
      unfolding right_count
      right_counted f =
          rw (le-leb (table_bytes_for cells) (length t) l, (scanned_right e).0, eq-eqb (number_at t cells) filled_in (f ∙ (scanned_right e).1))

-- a table whose count a query takes
pub record Taken (s t : List ℕ) (cells stored : ℕ) : Type 0 where
  pub cells_are : cells ≡ cell_bytes s
  pub long : table_bytes s ≤ length t
  pub bytes_right_holds : bytes_right (cell_bytes s) t ≡ true
  pub stored_is : stored ≡ stored_count s t
  pub count_right_holds : count_right s t ≡ true

-- or why it does not
pub data TurnedDown (s t : List ℕ) (e : QueryError) : Type 0 where
  short : e ≡ Refused TableShort → length t < table_bytes s → TurnedDown s t e
  over : e ≡ Refused TableByte → table_bytes s ≤ length t → bytes_right (cell_bytes s) t ≡ false → TurnedDown s t e
  miscounted : e ≡ WrongCount → table_bytes s ≤ length t → bytes_right (cell_bytes s) t ≡ true → count_right s t ≡ false → TurnedDown s t e

module _ (s t : List ℕ) {cells : ℕ} (size : cells ≡ cell_bytes s) where
  pub taken_when : {n : ℕ} → Ok n ≡ right_count cells t → Taken s t cells n
  unfolding right_count count_right
  taken_when {n} e =
      by_length (leb (table_bytes s) (length t)) (bytes_right (cell_bytes s) t) (eqb (stored_count s t) (filled_in (cell_bytes s) t)) refl refl refl
      (e ∙ ap (λ (k : ℕ). right_count k t) size)
    where
      by_length : (a b c : Bool) → leb (table_bytes s) (length t) ≡ a → bytes_right (cell_bytes s) t ≡ b
          → eqb (stored_count s t) (filled_in (cell_bytes s) t) ≡ c
          → Ok n ≡ pick a (pick b (pick c (Ok (stored_count s t)) (Err WrongCount)) (Err (Refused TableByte))) (Err (Refused TableShort))
          → Taken s t cells n
      by_length false b c p q r f = absurd (cc)
      by_length true false c p q r f = absurd (cc)
      by_length true true false p q r f = absurd (cc)
      by_length true true true p q r f =
          record { cells_are = size; long = leb-true (table_bytes s) (length t) p; bytes_right_holds = q; stored_is = cc; count_right_holds = r }

  pub turned_down : {x : QueryError} → Err x ≡ right_count cells t → TurnedDown s t x
  unfolding right_count count_right
  turned_down {x} e =
      by_length (leb (table_bytes s) (length t)) (bytes_right (cell_bytes s) t) (eqb (stored_count s t) (filled_in (cell_bytes s) t)) refl refl refl
      (e ∙ ap (λ (k : ℕ). right_count k t) size)
    where
      by_length : (a b c : Bool) → leb (table_bytes s) (length t) ≡ a → bytes_right (cell_bytes s) t ≡ b
          → eqb (stored_count s t) (filled_in (cell_bytes s) t) ≡ c
          → Err x ≡ pick a (pick b (pick c (Ok (stored_count s t)) (Err WrongCount)) (Err (Refused TableByte))) (Err (Refused TableShort))
          → TurnedDown s t x
      by_length false b c p q r f = short (cc) (leb-false (table_bytes s) (length t) p)
      by_length true false c p q r f = over (cc) (leb-true (table_bytes s) (length t) p) q
      by_length true true false p q r f = miscounted (cc) (leb-true (table_bytes s) (length t) p) q r
      by_length true true true p q r f = absurd (cc)
