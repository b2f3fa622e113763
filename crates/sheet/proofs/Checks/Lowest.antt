-- The lowest number at which a test holds: what a loop that counts up shows of it, and what it says.
use Prim.Native.Nat.{ℕ, zero, suc, ◌+◌, ◌-◌, ◌<◌, ◌≤◌}
use mathlib.Core.Path.{◌≡◌, refl, sym, ap, ◌∙◌}
use mathlib.Core.Bool.{Bool, true, false}
use native.Mathlib.Omega.{arith}
use native.Mathlib.Nat.{sub-zero}
use native.Mathlib.Decide.{dec_lt}
use Rattle.sheet.specs.Bytes.{pick, lowest_from, lowest}

module _ (test : ℕ → Bool) where
  from_here : (count i : ℕ) → test i ≡ true → lowest_from test (suc count) i ≡ i
  unfolding lowest_from
  from_here count i e = rw e

  from_next : (count i : ℕ) → test i ≡ false → lowest_from test (suc count) i ≡ lowest_from test count (i + 1)
  unfolding lowest_from
  from_next count i e = rw e

  lowest_start : (n : ℕ) → lowest_from test (n - 0) 0 ≡ lowest test n
  lowest_start n = rw sub-zero

  lowest_here : (n i : ℕ) → i < n → test i ≡ true → lowest_from test (n - i) i ≡ i
  lowest_here n i h e =
      let s : n - i ≡ suc (n - (i + 1)) = omega arith in
      rw s (from_here (n - (i + 1)) i e)

  lowest_next : (n i : ℕ) → i < n → test i ≡ false → lowest_from test (n - i) i ≡ lowest_from test (n - (i + 1)) (i + 1)
  lowest_next n i h e =
      let s : n - i ≡ suc (n - (i + 1)) = omega arith in
      rw s (from_next (n - (i + 1)) i e)

  lowest_end : (n i : ℕ) → n ≤ i → lowest_from test (n - i) i ≡ i
  unfolding lowest_from
  lowest_end n i h =
      let s : n - i ≡ 0 = omega arith in
      rw s

  -- the same for a loop whose answer is l
  pub search_start : (count n : ℕ) → count ≡ n → lowest_from test (count - 0) 0 ≡ lowest test n
  search_start count n e = lowest_start count ∙ ap (lowest test) e

  pub search_here : (n i l : ℕ) → i < n → test i ≡ true → lowest_from test (n - i) i ≡ l → i ≡ l
  search_here n i l h e s = sym (lowest_here n i h e) ∙ s

  pub search_next : (n i l : ℕ) → i < n → test i ≡ false → lowest_from test (n - i) i ≡ l → lowest_from test (n - (i + 1)) (i + 1) ≡ l
  search_next n i l h e s = sym (lowest_next n i h e) ∙ s

  pub search_end : (n i l : ℕ) → n ≤ i → lowest_from test (n - i) i ≡ l → i ≡ l
  search_end n i l h s = sym (lowest_end n i h) ∙ s

  -- the number found is one of those looked at, or the one after them
  from_bounds : (count i : ℕ) → (i ≤ lowest_from test count i) × (lowest_from test count i ≤ i + count)
  unfolding lowest_from
  from_bounds zero i = (omega arith, omega arith)
  from_bounds (suc count) i = go (test i) (from_bounds count (i + 1))
    where
      go : (b : Bool) → (i + 1 ≤ lowest_from test count (i + 1)) × (lowest_from test count (i + 1) ≤ i + 1 + count)
          → (i ≤ pick b i (lowest_from test count (i + 1))) × (pick b i (lowest_from test count (i + 1)) ≤ i + suc count)
      go true r = (omega arith, omega arith)
      go false r = (omega arith, omega arith)

  pub lowest_bound : (n : ℕ) → lowest test n ≤ n
  lowest_bound n = omega (arith, (from_bounds n 0).1)

  -- below the number found the test fails
  from_below : (count i k : ℕ) → i ≤ k → k < lowest_from test count i → test k ≡ false
  unfolding lowest_from
  from_below zero i k h l = absurd (omega arith)
  from_below (suc count) i k h l = go (test i) refl l (from_below count (i + 1) k)
    where
      go : (b : Bool) → test i ≡ b → k < pick b i (lowest_from test count (i + 1))
          → (i + 1 ≤ k → k < lowest_from test count (i + 1) → test k ≡ false) → test k ≡ false
      go true e m rec = absurd (omega arith)
      go false e m rec =
          elim (dec_lt i k) [
            | yes q ↦ rec (omega arith) m
            | no q ↦ let s : k ≡ i = omega arith in ap test s ∙ e
          ]

  pub lowest_below : (n k : ℕ) → k < lowest test n → test k ≡ false
  lowest_below n k h = from_below n 0 k (omega arith) h

  -- at the number found the test holds
  from_found : (count i : ℕ) → lowest_from test count i < i + count → test (lowest_from test count i) ≡ true
  unfolding lowest_from
  from_found zero i h = absurd (omega arith)
  from_found (suc count) i h = go (test i) refl h (from_found count (i + 1))
    where
      go : (b : Bool) → test i ≡ b → pick b i (lowest_from test count (i + 1)) < i + suc count
          → (lowest_from test count (i + 1) < i + 1 + count → test (lowest_from test count (i + 1)) ≡ true) → test (pick b i (lowest_from test count (i + 1))) ≡ true
      go true e m rec = e
      go false e m rec = rec (omega arith)

  pub lowest_found : (n : ℕ) → lowest test n < n → test (lowest test n) ≡ true
  lowest_found n h = from_found n 0 (omega arith)

  -- where the test holds at no number below n, n is found
  pub lowest_none : (n : ℕ) → ((k : ℕ) → k < n → test k ≡ false) → lowest test n ≡ n
  lowest_none n none =
      elim (dec_lt (lowest test n) n) [
        | yes q ↦ absurd (differ (test (lowest test n)) (lowest_found n q) (none (lowest test n) q))
        | no q ↦ omega (arith, lowest_bound n)
      ]
    where
      differ : (b : Bool) → b ≡ true → b ≡ false → ⊥
      differ true p q = let z : ◌≡◌ {A = Bool} true false = q in mathlib.Core.Bool.true≢false z
      differ false p q = mathlib.Core.Bool.true≢false (sym p)
