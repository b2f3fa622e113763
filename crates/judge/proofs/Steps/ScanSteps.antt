-- The pass over the cells of a table: its blocks, and what they tell together.
use Rattle.std.proofs.Common.{Ok, Err, ◌≡◌, ℕ, zero, suc, ◌+◌, ◌-◌, ◌<◌, ◌≤◌, Bool, true, false, max, min, ltb, List, ◌++◌, length, drop, drop-drop, length-append, length-drop, get_or-drop, sym, refl, ap, ◌∙◌, subst, ap₂, add-one, arith, ltb-false, ltb-true, le-ltb}
use native.Mathlib.Decide.{dec_lt}
use lib.Seq.{drop-append_seam}
use Rattle.std.proofs.lemmas.List.{get_or_append_left}
use Rattle.sheet.specs.Bytes.{pick}
use Rattle.sheet.proofs.Checks.Checks.{none_found, one_found}
use Rattle.rows.specs.Tables.{byte_at, filled, count}
use Rattle.rows.proofs.Tables.Counting.{one_if, count_zero, count_suc, count_append, count_cong, count_le}
use Rattle.judge.specs.Querying.{bytes_right}
use Rattle.sheet.specs.declared.Refusal.{Refusal}
use Rattle.sheet.specs.declared.Refusal.TheVariants.{TableByte}
use Rattle.judge.specs.Internal.Scanning.{scan_of}

-- whether a byte is over 2
module _ (size : ℕ) (t : List ℕ) where
  abbrev over : ℕ → Bool
  over i = ltb 2 (byte_at t i)

  pub bytes_small : bytes_right size t ≡ true → (i : ℕ) → i < size → byte_at t i ≤ 2
  unfolding bytes_right
  bytes_small h i l = ltb-false 2 (byte_at t i) ((none_found over size).0 h i l)

  pub bytes_right_holds : ((i : ℕ) → i < size → byte_at t i ≤ 2) → bytes_right size t ≡ true
  unfolding bytes_right
  bytes_right_holds h = (none_found over size).1 (λ i l. le-ltb 2 (byte_at t i) (h i l))

  pub byte_over : bytes_right size t ≡ false → (i : ℕ) × (i < size) × (2 < byte_at t i)
  unfolding bytes_right
  byte_over h = let f = one_found over size h in (f.0, f.1, ltb-true 2 (byte_at t f.0) f.2)

-- what a pass over a list tells
pub scanned_filled : (l : List ℕ) {n : ℕ} → Ok n ≡ scan_of l
    → ((i : ℕ) → i < length l → byte_at l i ≤ 2) × (n ≡ count (length l) (λ i. filled (byte_at l i)))
unfolding scan_of
scanned_filled l {n} e = go (bytes_right (length l) l) refl e
  where
    go : (b : Bool) → bytes_right (length l) l ≡ b → Ok n ≡ pick b (Ok (count (length l) (λ i. filled (byte_at l i)))) (Err TableByte)
        → ((i : ℕ) → i < length l → byte_at l i ≤ 2) × (n ≡ count (length l) (λ i. filled (byte_at l i)))
    go true q p = (bytes_small (length l) l q, cc)
    go false q p = absurd (cc)

pub scanned_over : (l : List ℕ) {x : Refusal} → Err x ≡ scan_of l → (x ≡ TableByte) × ((i : ℕ) × (i < length l) × (2 < byte_at l i))
unfolding scan_of
scanned_over l {x} e = go (bytes_right (length l) l) refl e
  where
    go : (b : Bool) → bytes_right (length l) l ≡ b → Err x ≡ pick b (Ok (count (length l) (λ i. filled (byte_at l i)))) (Err TableByte)
        → (x ≡ TableByte) × ((i : ℕ) × (i < length l) × (2 < byte_at l i))
    go true q p = absurd (cc)
    go false q p = (cc, byte_over (length l) l q)

pub scan_small : (l : List ℕ) {n : ℕ} → ((i : ℕ) → i < length l → byte_at l i ≤ 2) → n ≡ count (length l) (λ i. filled (byte_at l i)) → Ok n ≡ scan_of l
unfolding scan_of
scan_small l h e = rw (bytes_right_holds (length l) l h, e)

pub scan_over : (l : List ℕ) (i : ℕ) → i < length l → 2 < byte_at l i → Err TableByte ≡ scan_of l
unfolding scan_of
scan_over l i h g = go (bytes_right (length l) l) refl
  where
    go : (b : Bool) → bytes_right (length l) l ≡ b → Err TableByte ≡ pick b (Ok (count (length l) (λ i. filled (byte_at l i)))) (Err TableByte)
    go true q = absurd (omega (arith, bytes_small (length l) l q i h))
    go false q = refl

-- ---- one block

-- what is known of the bytes before a place: the highest of them, and how many are filled where none is over 2
pub record BlockTo (l : List ℕ) (i highest n : ℕ) : Type 0 where
  pub few : n ≤ i
  pub small : (j : ℕ) → j < i → byte_at l j ≤ highest
  pub counted : highest ≤ 2 → n ≡ count i (λ j. filled (byte_at l j))
  pub big : 2 < highest → (j : ℕ) × (j < i) × (2 < byte_at l j)

-- a byte of at most 2 is filled where it is not 0
small_filled : (b : ℕ) → b ≤ 2 → min b 1 ≡ one_if (filled b)
small_filled zero h = omega arith
small_filled (suc zero) h = omega arith
small_filled (suc (suc zero)) h = omega arith
small_filled (suc (suc (suc b))) h = absurd (omega arith)

pub block_start : (l : List ℕ) → BlockTo l 0 0 0
block_start l = record {
  few = omega arith;
  small = λ j h. absurd (omega arith);
  counted = λ e. sym (count_zero (λ j. filled (byte_at l j)));
  big = λ e. absurd (omega arith);
}

-- a byte more may be the highest, and is filled where it is not 0
module _ {l : List ℕ} {i n m highest : ℕ} (w : BlockTo l i highest n) (e : m ≡ min (byte_at l i) 1) where
  pub block_next : {h : ℕ} → h ≡ max highest (byte_at l i) → BlockTo l (i + 1) h (n + m)
  block_next {h} f =
      record {
        few = omega (arith, w.few, e);
        small = λ j k. elim (dec_lt j i) [
          | yes p ↦ omega (arith, w.small j p)
          | no p ↦ let same : i ≡ j = omega arith in subst (λ (x : ℕ). byte_at l x ≤ h) same (omega arith)
        ];
        counted = λ g. omega (arith, w.counted (omega arith), counted_here (omega arith), more (λ j. filled (byte_at l j)));
        big = λ g. elim (dec_lt 2 (byte_at l i)) [
          | yes p ↦ (i, omega arith, p)
          | no p ↦ let b = w.big (omega arith) in (b.0, omega (arith, b.1), b.2)
        ];
      }
    where
      counted_here : byte_at l i ≤ 2 → m ≡ one_if (filled (byte_at l i))
      counted_here h = e ∙ small_filled (byte_at l i) h

      more : (p : ℕ → Bool) → count (i + 1) p ≡ one_if (p i) + count i p
      more p = ap (λ (k : ℕ). count k p) (add-one i) ∙ count_suc i p

-- ---- the blocks

-- what is known of the cells before a place: none is over 2, and so many are filled
pub record Scanning (l : List ℕ) (at total : ℕ) : Type 0 where
  pub inside : at ≤ length l
  pub small : (i : ℕ) → i < at → byte_at l i ≤ 2
  pub counted : total ≡ count at (λ i. filled (byte_at l i))

pub scan_start : (l : List ℕ) → Scanning l 0 0
scan_start l = record { inside = omega arith; small = λ i h. absurd (omega arith); counted = sym (count_zero (λ i. filled (byte_at l i))) }

-- no more are filled than there are
pub scan_bound : (l : List ℕ) (at total : ℕ) → Scanning l at total → total ≤ at
scan_bound l at total s = omega (arith, s.counted, count_le at (λ i. filled (byte_at l i)))

-- the cells before a place have been passed, and a rest is left
pub record Passed (l rest : List ℕ) (at total : ℕ) : Type 0 where
  pub scanning : Scanning l at total
  pub rest_is : rest ≡ drop at l

pub passed_none : (l : List ℕ) → Passed l l 0 0
passed_none l = record { scanning = scan_start l; rest_is = refl }

module _ {l rest : List ℕ} {at total : ℕ} (w : Passed l rest at total) where
  -- one block more
  module _ (block rest' : List ℕ) (e : rest ≡ block ++ rest') where
    there : drop at l ≡ block ++ rest'
    there = sym w.rest_is ∙ e

    pub block_ends : at + length block ≤ length l
    block_ends = omega (arith, w.scanning.inside, length-drop at l, ap length there, length-append block rest')

    pub block_byte : (i : ℕ) → i < length block → byte_at block i ≡ byte_at l (at + i)
    block_byte i h = sym (get_or_append_left block rest' 0 i h) ∙ ap (λ (k : List ℕ). byte_at k i) (sym there) ∙ get_or-drop at l i 0

    pub passed_over : {x : Refusal} → Err x ≡ scan_of block → (x ≡ TableByte) × ((i : ℕ) × (i < length l) × (2 < byte_at l i))
    passed_over f =
        let b = scanned_over block f in
        (b.0, (at + b.1.0, omega (arith, block_ends, b.1.1), omega (arith, b.1.2, block_byte b.1.0 b.1.1)))

    module _ {n : ℕ} (f : Ok n ≡ scan_of block) where
      pub block_counted : n ≡ count (length block) (λ i. filled (byte_at l (at + i)))
      block_counted = (scanned_filled block f).1 ∙ count_cong (length block) _ _ (λ i h. ap filled (block_byte i h))

      pub passed_more : Passed l rest' (at + length block) (total + n)
      passed_more =
          let small = (scanned_filled block f).0 in
          record {
            scanning = record {
              inside = block_ends;
              small = λ i h. elim (dec_lt i at) [
                | yes k ↦ w.scanning.small i k
                | no k ↦
                    let place : at + (i - at) ≡ i = omega arith in
                    subst (λ (x : ℕ). byte_at l x ≤ 2) place (omega (arith, small (i - at) (omega arith), block_byte (i - at) (omega arith)))
              ];
              counted = ap₂ ◌+◌ w.scanning.counted block_counted ∙ sym (count_append at (length block) (λ i. filled (byte_at l i)));
            };
            rest_is = sym (drop-append_seam block rest') ∙ ap (drop (length block)) (sym there) ∙ drop-drop (length block) at l;
          }

  -- no more are filled than there are
  pub passed_few : total ≤ length l
  passed_few = omega (arith, scan_bound l at total w.scanning, w.scanning.inside)

  pub passed_all : length rest ≡ 0 → at ≡ length l
  passed_all e = omega (arith, w.scanning.inside, length-drop at l, ap length w.rest_is)

  pub passed_told : at ≡ length l → Ok total ≡ scan_of l
  passed_told e =
      scan_small l (λ i h. w.scanning.small i (omega arith)) (w.scanning.counted ∙ ap (λ (k : ℕ). count k (λ i. filled (byte_at l i))) e)
