-- Whether two texts are the same, and that `==` of slices finds out.
use Prim.Native.Nat.{ℕ}
use mathlib.Core.Path.{◌≡◌, refl, sym, ap, ap₂, ◌∙◌}
use mathlib.Core.Bool.{Bool, true, false, ◌&&◌, false≢true}
use mathlib.Core.List.{List, [], ◌∷◌}
use lib.Dec.{eqb}
use borrow.Author.Tests.{eq-eqb, eqb-true}
use Rattle.std.specs.Cmp.Lexicographic.{pointwise}
use Rattle.text.specs.Comparing.{same_text, SameExactly}

-- ---- same_text is equality

same_is : (w v : List ℕ) → same_text w v ≡ true → w ≡ v
unfolding same_text
same_is [] [] q = refl
same_is [] (c ∷ v) q = absurd (false≢true q)
same_is (b ∷ w) [] q = absurd (false≢true q)
same_is (b ∷ w) (c ∷ v) q = go (eqb b c) refl (λ h. same_is w v h) q
  where
    go : (p : Bool) → eqb b c ≡ p → (same_text w v ≡ true → w ≡ v) → (p && same_text w v) ≡ true → b ∷ w ≡ c ∷ v
    go true e same h = ap₂ ◌∷◌ (eqb-true b c e) (same h)
    go false e same h = absurd (false≢true h)

is_same : (w : List ℕ) → same_text w w ≡ true
unfolding same_text
is_same [] = refl
is_same (b ∷ w) = rw (eq-eqb b b refl) (is_same w)

pub same_exactly : SameExactly
same_exactly w v = (same_is w v, λ q. ap (same_text w) (sym q) ∙ is_same w)

-- ---- it is what `==` of slices computes

pub pointwise_same : (w v : List ℕ) → pointwise eqb w v ≡ same_text w v
unfolding same_text
pointwise_same [] [] = refl
pointwise_same [] (c ∷ v) = refl
pointwise_same (b ∷ w) [] = refl
pointwise_same (b ∷ w) (c ∷ v) = ap (λ (p : Bool). eqb b c && p) (pointwise_same w v)
