-- The reading of every text, worked out by specs/Scanning.antt. ReadingsExactly below says it by specs/Texts.antt.
use Rattle.std.specs.Prelude.{ℕ, ◌≡◌, List, ◌↔◌}
use Rattle.sheet.specs.Bytes.{pick}
use Rattle.aut.specs.Texts.{FirstLine, TransitionLine, ReadsText}
use Rattle.aut.specs.Scanning.{text_readable, text_first_line, text_lines}

-- "unreadable text", or what a readable one says
pub data TextReading : Type 0 where
  unreadable : TextReading
  readable : FirstLine → List TransitionLine → TextReading

unfoldable pub reading_of : List ℕ → TextReading
reading_of s = pick (text_readable s) (readable (text_first_line s) (text_lines s)) unreadable

-- The reading worked out is h and xs exactly where the text says h and xs. Shown by readings_exactly of proofs/Reading/Readings.antt.
abbrev pub ReadingsExactly : Type 0
ReadingsExactly =
    (s : List ℕ) (h : FirstLine) (xs : List TransitionLine) → (reading_of s ≡ readable h xs) ↔ ReadsText s h xs

-- A text says one thing at most. Shown by one_reading there.
abbrev pub OneReading : Type 0
OneReading =
    (s : List ℕ) (h k : FirstLine) (xs ys : List TransitionLine) → ReadsText s h xs → ReadsText s k ys → (h ≡ k) × (xs ≡ ys)
