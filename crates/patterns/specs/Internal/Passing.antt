-- What a pass over the bytes of a pattern counts: the parts that the bytes left still owe.
use Rattle.std.specs.Prelude.{ℕ, Bool, true, false, eqb, length}
use Rattle.patterns.specs.Patterns.{Parts, broken, parts, Reading, malformed, readable}

-- they are so many parts
abbrev pub has_parts : ℕ → Parts → Bool
has_parts missing broken = false
has_parts missing (parts Rs) = eqb (length Rs) missing

abbrev pub is_readable : Reading → Bool
is_readable malformed = false
is_readable (readable every R) = true
