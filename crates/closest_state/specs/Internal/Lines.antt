-- The lines of transitions that stand as bytes in a buffer. Contracts of private functions cite these; no promise of the program does.
use Rattle.std.specs.Prelude.{ℕ, zero, suc, ◌+◌, ◌*◌, ◌≤◌, ◌≡◌, List, [], ◌++◌, length}
use Rattle.text.specs.Placing.{buffer_after}
use Rattle.sheet.specs.Bytes.{byte}
use Rattle.closest_state.specs.Text.{transition_line}

-- the line of transition i
abbrev pub line_at : List ℕ → ℕ → List ℕ
line_at way i = transition_line (byte way (3 * i)) (byte way (3 * i + 1)) (byte way (3 * i + 2))

-- the lines of the first so many
unfoldable pub lines_of : List ℕ → ℕ → List ℕ
lines_of way zero = []
lines_of way (suc i) = lines_of way i ++ line_at way i

-- they are there, and their lines end within the buffer
pub record LinesRequire (way : List ℕ) (count at : ℕ) (out : List ℕ) : Type 0 where
  pub inside : 3 * count ≤ length way
  pub fits : at + length (lines_of way count) ≤ length out

-- a text put at a place where it fits: the place behind it, and the buffer with it
abbrev pub PutsAt : List ℕ → ℕ → List ℕ → ℕ → List ℕ → Type 0
PutsAt text at out end after = (end ≡ at + length text) × (after ≡ buffer_after text at out)
