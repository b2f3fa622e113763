-- A test is true or false, and not both.
use mathlib.Core.Path.{◌≡◌, refl, sym, ◌∙◌}
use mathlib.Core.Bool.{Bool, true, false, true≢false}
use mathlib.Core.Logic.{◌↔◌}

pub differ : (b : Bool) → b ≡ true → b ≡ false → ⊥
differ b p q = true≢false (sym p ∙ q)

-- a test that cannot fail holds, and one that cannot hold fails
pub holds : (b : Bool) → (b ≡ false → ⊥) → b ≡ true
holds true f = refl
holds false f = absurd (f refl)

pub fails : (b : Bool) → (b ≡ true → ⊥) → b ≡ false
fails true f = absurd (f refl)
fails false f = refl

-- two tests that hold together are one
pub together : (a b : Bool) → (a ≡ true) ↔ (b ≡ true) → a ≡ b
together true b h = sym (h.0 refl)
together false b h = sym (fails b (λ q. differ false (h.1 q) refl))
