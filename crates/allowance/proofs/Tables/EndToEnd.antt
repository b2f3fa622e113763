-- Tables of one size, end to end in one buffer: its length, the part that a table is, and the bytes after them.
use Prim.Native.Nat.{ℕ, zero, suc, ◌+◌, ◌*◌, ◌<◌, ◌≤◌}
use mathlib.Core.Path.{◌≡◌, sym, ap, ◌∙◌}
use mathlib.Core.List.{List, ◌++◌}
use native.Mathlib.Omega.{arith}
use native.Mathlib.Nat.{add-mul}
use lib.ListN.{length, drop, take, length-append}
use lib.Seq.{drop_at, take_at, drop-drop}
use Rattle.sheet.specs.Bytes.{slice}
use Rattle.allowance.specs.Granting.{end_to_end}

-- one table more
pub one_more_table : (j size : ℕ) → (j + 1) * size ≡ size + j * size
one_more_table j size = omega (arith, add-mul j 1 size)

-- count tables from bench i on have this size
abbrev pub Sized : (ℕ → List ℕ) → ℕ → ℕ → ℕ → Type 0
Sized table size count i = (j : ℕ) → i ≤ j → j < i + count → length (table j) ≡ size

module _ (table : ℕ → List ℕ) (size : ℕ) (after : List ℕ) where
  rest_sized : (count i : ℕ) → Sized table size (suc count) i → Sized table size count (i + 1)
  rest_sized count i h j l m = h j (omega arith) (omega arith)

  pub end_length : (count i : ℕ) → Sized table size count i → length (end_to_end table count i after) ≡ count * size + length after
  unfolding end_to_end
  end_length zero i h = omega arith
  end_length (suc count) i h =
      omega (
        arith,
        length-append (table i) (end_to_end table count (i + 1) after),
        h i (omega arith) (omega arith),
        end_length count (i + 1) (rest_sized count i h),
        one_more_table count size,
      )

  pub end_drop : (count i : ℕ) → Sized table size count i → drop (count * size) (end_to_end table count i after) ≡ after
  unfolding end_to_end
  end_drop zero i h = let e : 0 * size ≡ 0 = omega arith in ap (λ (n : ℕ). drop n after) e
  end_drop (suc count) i h =
      let e : suc count * size ≡ size + count * size = omega (arith, one_more_table count size) in
      let l = table i ++ end_to_end table count (i + 1) after in
      ap (λ (n : ℕ). drop n l) e ∙ sym (drop-drop (count * size) size l)
      ∙ ap (drop (count * size)) (drop_at (table i) (end_to_end table count (i + 1) after) size (h i (omega arith) (omega arith)))
      ∙ end_drop count (i + 1) (rest_sized count i h)

  pub end_slice : (count i j : ℕ) → Sized table size count i → j < count
      → slice (end_to_end table count i after) (j * size) size ≡ table (i + j)
  unfolding end_to_end
  end_slice zero i j h b = absurd (omega arith)
  end_slice (suc count) i zero h b =
      let e : i ≡ i + 0 = omega arith in
      let z : 0 * size ≡ 0 = omega arith in
      ap (λ (n : ℕ). slice (table i ++ end_to_end table count (i + 1) after) n size) z
      ∙ take_at (table i) (end_to_end table count (i + 1) after) size (h i (omega arith) (omega arith)) ∙ ap table e
  end_slice (suc count) i (suc j) h b =
      let e : suc j * size ≡ size + j * size = omega (arith, one_more_table j size) in
      let f : i + 1 + j ≡ i + suc j = omega arith in
      let l = table i ++ end_to_end table count (i + 1) after in
      ap (λ (n : ℕ). slice l n size) e ∙ sym (ap (take size) (drop-drop (j * size) size l))
      ∙ ap (λ (x : List ℕ). slice x (j * size) size)
      (drop_at (table i) (end_to_end table count (i + 1) after) size (h i (omega arith) (omega arith)))
      ∙ end_slice count (i + 1) j (rest_sized count i h) (omega arith) ∙ ap table f
