-- Document 01, "Writer and program": "ended by a line feed: `true` or `false`, a space, the visits; or `refused`, a space, the number, a
-- space, the place". Words, as the bytes of their letters in ASCII.
use Rattle.std.specs.Prelude.{ℕ, Bool, true, false, List, [], ◌∷◌}

-- a space
abbrev pub space : List ℕ
space = 32 ∷ []

-- a line feed, which ends a line
abbrev pub line_feed : List ℕ
line_feed = 10 ∷ []

-- `true` or `false`
abbrev pub bool_text : Bool → List ℕ
bool_text true = 116 ∷ 114 ∷ 117 ∷ 101 ∷ []
bool_text false = 102 ∷ 97 ∷ 108 ∷ 115 ∷ 101 ∷ []

-- `refused`
abbrev pub refused : List ℕ
refused = 114 ∷ 101 ∷ 102 ∷ 117 ∷ 115 ∷ 101 ∷ 100 ∷ []
