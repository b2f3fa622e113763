-- Something of each bench, by its number; and the same of each.
use Prim.Native.Nat.{ℕ, zero, suc, ◌+◌, ◌<◌, ◌≤◌}
use mathlib.Core.Path.{◌≡◌, refl, sym, ap, ◌∙◌}
use mathlib.Core.List.{List}
use native.Mathlib.Omega.{arith}
use lib.ListN.{length, get_or, replicate}
use lib.Seq.{ext_get_or}
use Rattle.allowance.specs.Granting.{for_benches}

module _ {A : Type 0} (f : ℕ → A) where
  pub for_length : (count i : ℕ) → length (for_benches f count i) ≡ count
  unfolding for_benches
  for_length zero i = refl
  for_length (suc count) i = ap suc (for_length count (i + 1))

  pub for_at : (count i j : ℕ) (none : A) → j < count → get_or (for_benches f count i) j none ≡ f (i + j)
  unfolding for_benches
  for_at zero i j none h = absurd (omega arith)
  for_at (suc count) i zero none h = let e : i ≡ i + 0 = omega arith in ap f e
  for_at (suc count) i (suc j) none h = let e : i + 1 + j ≡ i + suc j = omega arith in for_at count (i + 1) j none (omega arith) ∙ ap f e

  -- of all benches, from the first on
  pub for_first : (count j : ℕ) (none : A) → j < count → get_or (for_benches f count 0) j none ≡ f j
  for_first count j none h = let z : 0 + j ≡ j = omega arith in for_at count 0 j none h ∙ ap f z

  pub for_past : (count i j : ℕ) (none : A) → count ≤ j → get_or (for_benches f count i) j none ≡ none
  unfolding for_benches
  for_past zero i j none h = refl
  for_past (suc count) i zero none h = absurd (omega arith)
  for_past (suc count) i (suc j) none h = for_past count (i + 1) j none (omega arith)

  -- a list with as many members, each of which is that of its bench
  pub for_each : (count : ℕ) (l : List A) (none : A) → length l ≡ count → ((j : ℕ) → j < count → get_or l j none ≡ f j) → l ≡ for_benches f count 0
  for_each count l none e h = ext_get_or none l (for_benches f count 0) (e ∙ sym (for_length count 0)) at
    where
      at : (j : ℕ) → j < length l → get_or l j none ≡ get_or (for_benches f count 0) j none
      at j b = h j (omega (arith, e)) ∙ sym (for_first count j none (omega (arith, e)))

pub replicate_at : {A : Type 0} (n j : ℕ) (a : A) → get_or (replicate n a) j a ≡ a
replicate_at zero j a = refl
replicate_at (suc n) zero a = refl
replicate_at (suc n) (suc j) a = replicate_at n j a
