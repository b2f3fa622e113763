-- Bytes and 16-bit fields of a list of bytes, and the lowest number that a test finds.
use Rattle.std.specs.Prelude.{ℕ, zero, suc, ◌+◌, ◌*◌, Bool, true, false, List, get_or, take, drop}

-- byte i, 0 past the end
abbrev pub byte : List ℕ → ℕ → ℕ
byte s i = get_or s i 0

-- "16-bit fields have the low byte first"
abbrev pub word : List ℕ → ℕ → ℕ
word s i = byte s i + 256 * byte s (i + 1)

-- the size bytes from offset on, or as many as there are
abbrev pub slice : List ℕ → ℕ → ℕ → List ℕ
slice s offset size = take size (drop offset s)

-- if b then x else y
abbrev pub pick : {A : Type 0} → Bool → A → A → A
pick true x y = x
pick false x y = y

-- of the count numbers from i on the lowest at which the test holds, or i + count where it holds at none
unfoldable pub lowest_from : (ℕ → Bool) → ℕ → ℕ → ℕ
lowest_from test zero i = i
lowest_from test (suc count) i = pick (test i) i (lowest_from test count (i + 1))

-- the lowest number below count at which the test holds, or count where it holds at none
abbrev pub lowest : (ℕ → Bool) → ℕ → ℕ
lowest test count = lowest_from test count 0
