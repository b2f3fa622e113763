-- The labels that the code holds. Contracts of private functions cite these; no promise of a public call does.
use Rattle.std.specs.Prelude.{ℕ, ◌+◌, ◌*◌, ◌%◌, ◌<◌, ◌≡◌, Bool, ◌&&◌, List, [], ◌∷◌, eqb, length, get_or, take, ◌≤◌}
use Rattle.text.specs.Comparing.{same_text}
use Rattle.aut.specs.Plans.{label_number}
use Rattle.aut.specs.declared.labels.Held.{Held}

-- ---- checksums: labels that have different ones are different

-- with one byte more, modulo 2 to the 32
abbrev pub mixed : ℕ → ℕ → ℕ
mixed sum b = (sum * 31 + b) % 4294967296

unfoldable pub sum_from : ℕ → List ℕ → ℕ
sum_from sum [] = sum
sum_from sum (b ∷ l) = sum_from (mixed sum b) l

abbrev pub sum_of : List ℕ → ℕ
sum_of l = sum_from 0 l

-- ---- the labels

-- the one held is this label, with this checksum
abbrev pub is_held : List ℕ → ℕ → Held → Bool
is_held l sum h = eqb h.sum sum && same_text l h.label.now

-- the labels of those held
unfoldable pub labels_in : List Held → List (List ℕ)
labels_in [] = []
labels_in (h ∷ hs) = h.label.now ∷ labels_in hs

-- each with its checksum
abbrev pub Summed : List Held → Type 0
Summed [] = Unit {0}
Summed (h ∷ hs) = (h.sum ≡ sum_of h.label.now) × Summed hs

-- no label stands twice
pub record Different (ks : List (List ℕ)) : Type 0 where
  pub at : (i : ℕ) → i < length ks → label_number (get_or ks i []) ks ≡ i

-- the first count of an array of 256 hold the labels
pub record Holding (held : List Held) (count : ℕ) : Type 0 where
  pub array : length held ≡ 256
  pub within : count ≤ 256
  pub summed : Summed (take count held)
  pub different : Different (labels_in (take count held))
