-- What the code of clearing shows.
use Rattle.std.proofs.Common.{◌≡◌, ℕ, ◌<◌, ◌≤◌, List, ◌++◌, length, drop, replicate, ap, le-leb}
use borrow.Author.Tests.{lt-leb}
use Rattle.sheet.specs.Reading.{sheet_check}
use Rattle.sheet.specs.declared.Refusal.{Refusal}
use Rattle.sheet.specs.declared.Refusal.TheVariants.{TableShort}
use Rattle.std.specs.Prelude.{Err, Ok}
use Rattle.judge.specs.Cells.{table_bytes}
use Rattle.judge.specs.Clearing.{clear_check, cleared_of, table_cleared, reported_clear, Clears}
use Rattle.std.specs.Prelude.{Ok, Err}
use Rattle.judge.specs.Clearing.{Cleared}

module _ (s t : List ℕ) where
  -- the clauses of the contract
  abbrev Answers : Cleared → List ℕ → Type 0
  Answers = Clears s t

  answers : (r : Cleared) (now : List ℕ) → r ≡ cleared_of s t → now ≡ table_cleared s t → Answers r now
  answers r now e f = (e, (ap reported_clear e, f))

  pub clears_refused : (x : Refusal) → sheet_check s ≡ Err x → Answers (Err x) t
  unfolding cleared_of table_cleared clear_check
  clears_refused x e = answers (Err x) t (rw e) (rw e)

  module _ (e : sheet_check s ≡ Ok tt) where
    pub clears_short : length t < table_bytes s → Answers (Err TableShort) t
    unfolding cleared_of table_cleared clear_check
    clears_short h =
        let f = lt-leb (table_bytes s) (length t) h in
        answers (Err TableShort) t (rw (e, f)) (rw (e, f))

    pub clears_done : table_bytes s ≤ length t → (now : List ℕ) → now ≡ replicate (table_bytes s) 0 ++ drop (table_bytes s) t → Answers (Ok tt) now
    unfolding cleared_of table_cleared clear_check
    clears_done h now g =
        let f = le-leb (table_bytes s) (length t) h in
        answers (Ok tt) now (rw (e, f)) (rw (e, f) g)
