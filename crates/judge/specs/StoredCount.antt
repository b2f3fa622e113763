-- Document 02 (f): "Four bytes after the cells now hold the number of filled cells, low byte first."
use Rattle.std.specs.Prelude.{◌≡◌, ℕ, ◌+◌, ◌*◌, ◌/◌, ◌%◌, ◌<◌, ◌≤◌, List, [], ◌∷◌, ◌++◌, length, drop}
use Rattle.rows.specs.Tables.{byte_at, filled, count}
use Rattle.judge.specs.Cells.{cell_bytes, table_bytes, cells_in}

-- "Four bytes .., low byte first": the number that they hold, from a place of a buffer on
abbrev pub number_at : List ℕ → ℕ → ℕ
number_at t at = byte_at t at + 256 * byte_at t (at + 1) + 65536 * byte_at t (at + 2) + 16777216 * byte_at t (at + 3)

-- the four bytes of a number, low byte first
abbrev pub in_four_bytes : ℕ → List ℕ
in_four_bytes n = n % 256 ∷ n / 256 % 256 ∷ n / 65536 % 256 ∷ n / 16777216 % 256 ∷ []

-- "after the cells": the count that a table of the sheet holds
abbrev pub stored_count : List ℕ → List ℕ → ℕ
stored_count s t = number_at t (cell_bytes s)

-- "A cell is filled when its byte is 1 or 2.": "the number of filled cells"
abbrev pub filled_cells : List ℕ → List ℕ → ℕ
filled_cells s t = count (cell_bytes s) (λ i. filled (byte_at t i))

-- a table of the sheet: cells, a count after them, and past both the bytes of a buffer t
abbrev pub table_with : List ℕ → List ℕ → ℕ → List ℕ → List ℕ
table_with s cells n t = cells ++ (in_four_bytes n ++ drop (table_bytes s) t)

-- the table u has these cells and this count, and past both it is t
pub record HoldsCount (s cells : List ℕ) (n : ℕ) (t u : List ℕ) : Type 0 where
  pub cells_are : cells_in s u ≡ cells
  pub count_is : stored_count s u ≡ n
  -- "bytes past them never change"
  pub past : (i : ℕ) → table_bytes s ≤ i → byte_at u i ≡ byte_at t i
  pub length_kept : length u ≡ length t

-- as many cells as the sheet has, a buffer that is long enough and a count that four bytes can hold make such a table (`count_layout` of
-- proofs/Cells/CountLayout.antt)
abbrev pub CountLayout : Type 0
CountLayout =
    (s cells : List ℕ) (n : ℕ) (t : List ℕ) → length cells ≡ cell_bytes s → table_bytes s ≤ length t → n < 4294967296
    → HoldsCount s cells n t (table_with s cells n t)
