-- Numbers compared by their digits, as the code compares them: by how many there are, then byte by byte. Contracts of private functions
-- cite these; no promise of a public call does.
use Rattle.std.specs.Prelude.{ℕ, Bool, true, false, List, [], ◌∷◌, ltb, length}
use Rattle.sheet.specs.Bytes.{pick}

-- of equally many digits: at the first place where they differ the first ones have the lower
unfoldable pub lower_digits : List ℕ → List ℕ → Bool
lower_digits [] [] = false
lower_digits [] (e ∷ es) = true
lower_digits (d ∷ ds) [] = false
lower_digits (d ∷ ds) (e ∷ es) = pick (ltb d e) true (pick (ltb e d) false (lower_digits ds es))

-- the number of the first digits is below that of the second
abbrev pub below_digits : List ℕ → List ℕ → Bool
below_digits ds es = pick (ltb (length ds) (length es)) true (pick (ltb (length es) (length ds)) false (lower_digits ds es))
