-- Clearing for an accepted sheet, on a buffer long enough: it is done, cells and count are 0, and the bytes past them are as before.
use Rattle.std.proofs.Common.{◌≡◌, ℕ, ◌+◌, ◌-◌, ◌<◌, ◌≤◌, leb, List, ◌++◌, length, drop, replicate, sym, refl, ap, ◌∙◌, subst, append-nil, arith, length-append, length-drop, get_or-drop, get_or-append-add, le-leb, leb-true}
use lib.ListN.{length-replicate, get_or-replicate, get_or-append}
use lib.Seq.{drop-length}
use Rattle.sheet.specs.Refusals.{require}
use Rattle.sheet.specs.Reading.{sheet_check}
use Rattle.sheet.specs.declared.Refusal.TheVariants.{TableShort}
use Rattle.std.specs.Prelude.{Err, Ok}
use Rattle.sheet.specs.Refusals.{Check}
use Rattle.sheet.proofs.Checks.Checks.{then_passed, require_passed, passed_then, passed_require}
use Rattle.sheet.proofs.Acceptance.Numbers.{refused_number}
use Rattle.rows.specs.Tables.{byte_at}
use Rattle.judge.specs.Cells.{table_bytes}
use Rattle.judge.specs.StoredCount.{stored_count}
use Rattle.judge.proofs.Cells.CountLayout.{zero_count}
use Rattle.judge.specs.Clearing.{clear_check, answer_cleared, cleared_of, emptied, table_cleared, reported_clear, clear_report_of}

-- as many bytes of 0
abbrev zeros : ℕ → List ℕ
zeros n = replicate n 0

zeros_length : (n : ℕ) → length (zeros n) ≡ n
zeros_length n = length-replicate {A = ℕ} n 0

module _ (s t : List ℕ) (accepted : sheet_check s ≡ Ok tt) (fits : table_bytes s ≤ length t) where
  clear_passed : clear_check s t ≡ Ok tt
  unfolding clear_check
  clear_passed =
      then_passed (sheet_check s) (require (leb (table_bytes s) (length t)) TableShort) accepted
      (require_passed (leb (table_bytes s) (length t)) TableShort (le-leb (table_bytes s) (length t) fits))

  pub cleared_is : table_cleared s t ≡ replicate (table_bytes s) 0 ++ drop (table_bytes s) t
  unfolding table_cleared
  cleared_is = ap (emptied (table_bytes s) t) clear_passed

  pub cleared_length : length (table_cleared s t) ≡ length t
  cleared_length =
      ap length cleared_is ∙ (length-append (zeros (table_bytes s)) (drop (table_bytes s) t) ∙
      omega (arith, zeros_length (table_bytes s), length-drop (table_bytes s) t))

  pub cleared_below : (i : ℕ) → i < table_bytes s → byte_at (table_cleared s t) i ≡ 0
  cleared_below i h =
      ap (λ (l : List ℕ). byte_at l i) cleared_is ∙
      (get_or-append (zeros (table_bytes s)) (drop (table_bytes s) t) 0 i (omega (arith, zeros_length (table_bytes s))) ∙ get_or-replicate (table_bytes s) i 0 0 h)

  pub cleared_above : (i : ℕ) → table_bytes s ≤ i → byte_at (table_cleared s t) i ≡ byte_at t i
  cleared_above i h = ap (λ (l : List ℕ). byte_at l i) cleared_is ∙ subst Same there (get_or-append-add (zeros (table_bytes s)) (drop (table_bytes s) t) (i - table_bytes s) 0 ∙ later)
    where
      Same : ℕ → Type 0
      Same j = byte_at (zeros (table_bytes s) ++ drop (table_bytes s) t) j ≡ byte_at t i

      there : length (zeros (table_bytes s)) + (i - table_bytes s) ≡ i
      there = omega (arith, zeros_length (table_bytes s))

      later : byte_at (drop (table_bytes s) t) (i - table_bytes s) ≡ byte_at t i
      later = let q : table_bytes s + (i - table_bytes s) ≡ i = omega arith in get_or-drop (table_bytes s) t (i - table_bytes s) 0 ∙ ap (byte_at t) q

  pub cleared_count : stored_count s (table_cleared s t) ≡ 0
  cleared_count = zero_count s (table_cleared s t) cleared_below

-- clearing gives number 0 for an accepted sheet on every buffer long enough, and for no other
pub clears_long : (s t : List ℕ) → sheet_check s ≡ Ok tt → table_bytes s ≤ length t → (clear_report_of s t).number ≡ 0
unfolding cleared_of
clears_long s t accepted fits = ap (λ (c : Check). (reported_clear (answer_cleared c)).number) (clear_passed s t accepted fits)

pub cleared_only : (s t : List ℕ) → (clear_report_of s t).number ≡ 0 → (sheet_check s ≡ Ok tt) × (table_bytes s ≤ length t)
unfolding cleared_of clear_check
cleared_only s t e =
    let q = passed_then (sheet_check s) (require (leb (table_bytes s) (length t)) TableShort) (go (clear_check s t) e) in
    (q.0, leb-true (table_bytes s) (length t) (passed_require (leb (table_bytes s) (length t)) TableShort q.1))
  where
    go : (c : Check) → (reported_clear (answer_cleared c)).number ≡ 0 → c ≡ Ok tt
    go (Ok tt) e = refl
    go (Err x) e = absurd (omega (arith, refused_number x))

-- a buffer of as many bytes as the table has
pub cleared_exact : (s t : List ℕ) → sheet_check s ≡ Ok tt → length t ≡ table_bytes s → table_cleared s t ≡ replicate (table_bytes s) 0
cleared_exact s t accepted e =
    cleared_is s t accepted (omega arith)
    ∙ ap (λ (l : List ℕ). zeros (table_bytes s) ++ l) (ap (λ (n : ℕ). drop n t) (sym e) ∙ drop-length t)
    ∙ append-nil (zeros (table_bytes s))
