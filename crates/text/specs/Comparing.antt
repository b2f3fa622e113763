-- Whether two texts are the same, byte for byte.
use Rattle.std.specs.Prelude.{ℕ, ◌≡◌, Bool, true, false, ◌&&◌, List, [], ◌∷◌, ◌↔◌, eqb}

unfoldable pub same_text : List ℕ → List ℕ → Bool
same_text [] [] = true
same_text [] (c ∷ v) = false
same_text (b ∷ w) [] = false
same_text (b ∷ w) (c ∷ v) = eqb b c && same_text w v

-- Shown by same_exactly of proofs/Comparing.antt.
abbrev pub SameExactly : Type 0
SameExactly = (w v : List ℕ) → (same_text w v ≡ true) ↔ (w ≡ v)
