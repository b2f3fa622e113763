-- The parts of the buffer that are tables, and copies of them.
use Prim.Native.Nat.{ℕ, ◌+◌, ◌-◌, ◌*◌, ◌<◌, ◌≤◌}
use mathlib.Core.Path.{◌≡◌, ap, ap₂, ◌∙◌}
use mathlib.Core.List.{List, ◌++◌}
use native.Mathlib.Omega.{arith}
use lib.ListN.{length, take, drop, length-take}
use native.Mathlib.Nat.{mul-le-mul}
use borrow.Rule.Slice.PartMut.{put_mid, Post-is}
use Rattle.sheet.specs.Bytes.{slice}
use Rattle.judge.specs.Cells.{table_bytes}
use Rattle.judge.specs.LargestTable.{largest_table}
use Rattle.judge.specs.Querying.{queried_of, table_queried}
use Rattle.judge.specs.Querying.{Queried}
use Rattle.judge.proofs.Statements.LargestTable.{every_table_fits}
use Rattle.allowance.specs.Granting.{most_benches}
use Rattle.allowance.specs.Internal.Copies.{with_part}
use Rattle.allowance.specs.Internal.Benches.{BenchesRequire}

module _ (t : List ℕ) (at size : ℕ) where
  all_there : take (at + size - at) (drop at t) ≡ slice t at size
  all_there = let e : at + size - at ≡ size = omega arith in ap (λ (n : ℕ). take n (drop at t)) e

-- a table is at most the largest, and the places of eight of them are small numbers
module _ {s states : List ℕ} (right : BenchesRequire s states) {size : ℕ} (is : size ≡ table_bytes s) where
  pub size_fits : size ≤ largest_table
  size_fits = omega (arith, is, (every_table_fits s right.accepted).1)

  pub table_fits : (t : List ℕ) (at : ℕ) {table : List ℕ} → table ≡ slice t at size → length table ≤ largest_table
  table_fits t at {table} e =
      let n : length table ≡ length (take size (drop at t)) = ap (length {A = ℕ}) e in omega (arith, n, length-take size (drop at t), size_fits)

  pub place_fits : (i : ℕ) → i < length states → i * size < 18446744073709551616
  place_fits i h = omega (arith, mul-le-mul (small h) size_fits)
    where
      small : i < length states → i ≤ most_benches
      small h = omega (arith, right.few)

-- a query in a part of the buffer
module _ (s : List ℕ) (state : ℕ) (t : List ℕ) (at size : ℕ) where
  pub asks_part : {r : Queried} → r ≡ queried_of s state (take (at + size - at) (drop at t)) → r ≡ queried_of s state (slice t at size)
  asks_part e = e ∙ ap (queried_of s state) (all_there t at size)

  pub leaves_part : {u : List ℕ} → u ≡ table_queried s state (take (at + size - at) (drop at t))
      → put_mid at (at + size - at) t u ≡ with_part t at size (table_queried s state (slice t at size))
  leaves_part e =
      ap₂ (λ (v w : List ℕ). take at t ++ (v ++ w)) (e ∙ ap (table_queried s state) (all_there t at size))
      (Post-is at (at + size) t (omega arith))
