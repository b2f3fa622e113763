-- What the code of reading the count shows.
use Rattle.std.proofs.Common.{◌≡◌, ℕ, ◌<◌, ◌≤◌, List, length, ap, le-leb}
use borrow.Author.Tests.{lt-leb}
use Rattle.sheet.specs.Reading.{sheet_check}
use Rattle.sheet.specs.declared.Refusal.{Refusal}
use Rattle.sheet.specs.declared.Refusal.TheVariants.{TableShort}
use Rattle.std.specs.Prelude.{Err, Ok}
use Rattle.judge.specs.Cells.{table_bytes}
use Rattle.judge.specs.StoredCount.{stored_count}
use Rattle.judge.specs.Clearing.{clear_check}
use Rattle.judge.specs.Counting.{counted_of, reported_count, ReadsCount}
use Rattle.std.specs.Prelude.{Ok, Err}
use Rattle.judge.specs.Counting.{Counted}

module _ (s t : List ℕ) where
  answers : (r : Counted) → r ≡ counted_of s t → ReadsCount s t r
  answers r e = (e, ap reported_count e)

  pub counts_refused : (x : Refusal) → sheet_check s ≡ Err x → ReadsCount s t (Err x)
  unfolding counted_of clear_check
  counts_refused x e = answers (Err x) (rw e)

  module _ (e : sheet_check s ≡ Ok tt) where
    pub counts_short : length t < table_bytes s → ReadsCount s t (Err TableShort)
    unfolding counted_of clear_check
    counts_short h = answers (Err TableShort) (rw (e, lt-leb (table_bytes s) (length t) h))

    pub counts_done : table_bytes s ≤ length t → (n : ℕ) → n ≡ stored_count s t → ReadsCount s t (Ok n)
    unfolding counted_of clear_check
    counts_done h n g = answers (Ok n) (rw (e, le-leb (table_bytes s) (length t) h) (ap Ok g))
