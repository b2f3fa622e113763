-- A table of a sheet in its parts: the cells, the count after them, and the bytes past both.
use Rattle.std.proofs.Common.{◌≡◌, ℕ, ◌+◌, ◌-◌, ◌*◌, ◌/◌, ◌%◌, ◌<◌, ◌≤◌, Bool, true, false, ltb, List, ◌++◌, length, take, drop, sym, refl, ap, ◌∙◌, ap₂, arith, length-append, length-drop, length-take-le, get_or-drop, get_or-take, get_or-append-add}
use lib.Seq.{take-append_seam}
use Rattle.sheet.proofs.Checks.Checks.{none_found}
use Rattle.rows.specs.Tables.{byte_at, filled, count}
use Rattle.rows.proofs.Tables.Counting.{count_cong}
use Rattle.judge.specs.Cells.{cell_bytes, table_bytes, cells_in, count_bytes}
use Rattle.judge.specs.StoredCount.{in_four_bytes, stored_count, filled_cells, table_with, CountLayout}
use Rattle.judge.specs.Querying.{bytes_right}

-- what the first bytes of a buffer tell, told by them alone
module _ (size : ℕ) (t : List ℕ) where
  taken_byte : (i : ℕ) → i < size → byte_at (take size t) i ≡ byte_at t i
  taken_byte i h = get_or-take size t i 0 h

  pub taken_filled : count size (λ i. filled (byte_at t i)) ≡ count size (λ i. filled (byte_at (take size t) i))
  taken_filled = count_cong size _ _ (λ i h. ap filled (sym (taken_byte i h)))

  pub taken_right : bytes_right size (take size t) ≡ bytes_right size t
  unfolding bytes_right
  taken_right = go (bytes_right size (take size t)) (bytes_right size t) refl refl
    where
      over : List ℕ → ℕ → Bool
      over u i = ltb 2 (byte_at u i)

      go : (a b : Bool) → bytes_right size (take size t) ≡ a → bytes_right size t ≡ b → bytes_right size (take size t) ≡ bytes_right size t
      go true true p q = p ∙ sym q
      go true false p q = p ∙ sym ((none_found (over t) size).1 (λ i h. ap (ltb 2) (sym (taken_byte i h)) ∙ (none_found (over (take size t)) size).0 p i h))
      go false true p q = (none_found (over (take size t)) size).1 (λ i h. ap (ltb 2) (taken_byte i h) ∙ (none_found (over t) size).0 q i h) ∙ sym q
      go false false p q = p ∙ sym q

module _ (s t : List ℕ) where
  pub cells_byte : (i : ℕ) → i < cell_bytes s → byte_at (cells_in s t) i ≡ byte_at t i
  cells_byte i h = get_or-take (cell_bytes s) t i 0 h

  pub cells_length : table_bytes s ≤ length t → length (cells_in s t) ≡ cell_bytes s
  cells_length h = length-take-le (cell_bytes s) t (omega arith)

  -- where every byte of the table is 0, so is the count
  pub zero_count : ((i : ℕ) → i < table_bytes s → byte_at t i ≡ 0) → stored_count s t ≡ 0
  zero_count zero =
      omega (arith, zero (cell_bytes s) (omega arith), zero (cell_bytes s + 1) (omega arith), zero (cell_bytes s + 2) (omega arith), zero (cell_bytes s + 3) (omega arith))

  -- what is told by the cells alone
  pub filled_cells_lem : filled_cells s t ≡ count (cell_bytes s) (λ i. filled (byte_at (cells_in s t) i))
  filled_cells_lem = taken_filled (cell_bytes s) t

  pub bytes_cells : bytes_right (cell_bytes s) (cells_in s t) ≡ bytes_right (cell_bytes s) t
  bytes_cells = taken_right (cell_bytes s) t

-- the number that its four bytes hold
abbrev pub from_bytes : ℕ → ℕ
from_bytes n = n % 256 + 256 * (n / 256 % 256) + 65536 * (n / 65536 % 256) + 16777216 * (n / 16777216 % 256)

pub from_bytes_lem : (n : ℕ) → n < 4294967296 → from_bytes n ≡ n
from_bytes_lem n h =
    let low : n / 256 % 256 + 256 * (n / 65536) ≡ n / 256 = part (n / 256) (n / 65536) (omega arith) in
    let middle : n / 65536 % 256 + 256 * (n / 16777216) ≡ n / 65536 = part (n / 65536) (n / 16777216) (omega arith) in
    let high : n / 16777216 % 256 ≡ n / 16777216 = omega arith in
    omega (arith, low, middle, high)
  where
    part : (m q : ℕ) → m / 256 ≡ q → m % 256 + 256 * q ≡ m
    part m q e = omega arith

module _ (s cells : List ℕ) (n : ℕ) (t : List ℕ) (size : length cells ≡ cell_bytes s) where
  abbrev u : List ℕ
  u = table_with s cells n t

  abbrev after : List ℕ
  after = in_four_bytes n ++ drop (table_bytes s) t

  pub with_cells : cells_in s u ≡ cells
  with_cells = ap (λ (k : ℕ). take k u) (sym size) ∙ take-append_seam cells after

  -- a byte behind the cells
  behind : (i j : ℕ) → cell_bytes s + i ≡ j → byte_at u j ≡ byte_at after i
  behind i j e = ap (byte_at u) (sym e ∙ ap (λ (k : ℕ). k + i) (sym size)) ∙ get_or-append-add cells after i 0

  pub with_count : stored_count s u ≡ from_bytes n
  with_count =
      ap₂ ◌+◌
      (ap₂ ◌+◌ (ap₂ (λ (a b : ℕ). a + 256 * b) (behind 0 (cell_bytes s) (omega arith)) (behind 1 (cell_bytes s + 1) refl)) (ap (λ (b : ℕ). 65536 * b) (behind 2 (cell_bytes s + 2) refl)))
      (ap (λ (b : ℕ). 16777216 * b) (behind 3 (cell_bytes s + 3) refl))

  module _ (long : table_bytes s ≤ length t) where
    pub with_length : length u ≡ length t
    with_length = length-append cells after ∙ omega (arith, length-append (in_four_bytes n) (drop (table_bytes s) t), length-drop (table_bytes s) t)

    pub with_past : (i : ℕ) → table_bytes s ≤ i → byte_at u i ≡ byte_at t i
    with_past i h =
        behind (count_bytes + (i - table_bytes s)) i (omega arith)
        ∙ get_or-append-add (in_four_bytes n) (drop (table_bytes s) t) (i - table_bytes s) 0
        ∙ (let q : table_bytes s + (i - table_bytes s) ≡ i = omega arith in get_or-drop (table_bytes s) t (i - table_bytes s) 0 ∙ ap (byte_at t) q)

pub count_layout : CountLayout
count_layout s cells n t size long h = record {
  cells_are = with_cells s cells n t size;
  count_is = with_count s cells n t size ∙ from_bytes_lem n h;
  past = with_past s cells n t size long;
  length_kept = with_length s cells n t size long;
}
