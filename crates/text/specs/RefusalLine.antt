-- The line of a refusal. Document 01, "Writer and program": "one line, ended by a line feed: .. `refused`, a space, the number, a space,
-- the place".
use Rattle.std.specs.Prelude.{ℕ, ◌≤◌, List, ◌++◌, length}
use Rattle.text.specs.Decimal.{decimal_of}
use Rattle.text.specs.Words.{space, line_feed, refused}

-- "`refused`, a space, the number, a space, the place"
unfoldable pub refusal_line : ℕ → ℕ → List ℕ
refusal_line number place = refused ++ space ++ decimal_of number ++ space ++ decimal_of place ++ line_feed

-- `refused`, two numbers of at most 20 digits, two spaces and the line feed
abbrev pub refusal_length : ℕ
refusal_length = 50

-- no such line is longer (`refusal_fits` of proofs/RefusalLines.antt)
abbrev pub RefusalFits : Type 0
RefusalFits = (number place : ℕ) → length (refusal_line number place) ≤ refusal_length
