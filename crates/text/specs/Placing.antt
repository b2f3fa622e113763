-- A text put into a buffer at a place, for every text, place and buffer.
use Rattle.std.specs.Prelude.{ℕ, ◌+◌, ◌≡◌, Bool, cond, List, ◌++◌, length, take, drop, leb}

-- the text ends within the buffer
abbrev pub fits : List ℕ → ℕ → List ℕ → Bool
fits text at out = leb (at + length text) (length out)

-- the buffer after: the text stands at the place and the other bytes are unchanged; or, where it does not fit, all of them
unfoldable pub buffer_after : List ℕ → ℕ → List ℕ → List ℕ
buffer_after text at out = cond (fits text at out) (take at out ++ text ++ drop (at + length text) out) out

-- the place after: where the text ends; or, where it does not fit, a place past the end, where no text fits
unfoldable pub place_after : List ℕ → ℕ → List ℕ → ℕ
place_after text at out = cond (fits text at out) (at + length text) (length out + 1)

-- a buffer with the text at its start: the bytes behind it are unchanged
abbrev pub starting_with : List ℕ → List ℕ → List ℕ
starting_with text out = text ++ drop (length text) out

-- a text put at the start of a buffer: n is its length, and the bytes behind it are unchanged
abbrev pub Puts : List ℕ → ℕ → List ℕ → List ℕ → Type 0
Puts text n before after = (n ≡ length text) × (after ≡ starting_with text before)
