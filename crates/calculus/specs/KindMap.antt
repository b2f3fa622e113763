-- A change of kinds: each node n of kind k of a rule gets the kind f n k, and no other byte is changed. Document 01's exchange of fixed
-- points is one such change, for its own f (specs/Exchange.antt).
use Rattle.std.specs.Prelude.{ℕ, suc, ◌/◌, ◌%◌, List, [], ◌∷◌, ◌++◌, take, drop, eqb}
use Rattle.sheet.specs.Bytes.{pick}
use Rattle.sheet.specs.Contents.{rule_offset}

-- "Count N (1 byte, 1 to 64), then nodes of kind, x, y.": of the bytes of a rule body, the one at 1 + 3 × n is the kind of node n. It
-- alone is changed; b is the byte at place i.
abbrev pub map_kind_byte : (ℕ → ℕ → ℕ) → ℕ → ℕ → ℕ
map_kind_byte f i b = pick (eqb (i % 3) 1) (f (i / 3) b) b

-- the bytes of a rule body from place i on
unfoldable pub map_kinds_from : (ℕ → ℕ → ℕ) → ℕ → List ℕ → List ℕ
map_kinds_from f i [] = []
map_kinds_from f i (b ∷ bs) = map_kind_byte f i b ∷ map_kinds_from f (suc i) bs

-- the whole rule body
abbrev pub map_rule_kinds : (ℕ → ℕ → ℕ) → List ℕ → List ℕ
map_rule_kinds f r = map_kinds_from f 0 r

-- the sheet: the bytes before the rule body as they are, then those of the rule body, which is the last
unfoldable pub map_sheet_kinds : (ℕ → ℕ → ℕ) → List ℕ → List ℕ
map_sheet_kinds f s = take (rule_offset s) s ++ map_rule_kinds f (drop (rule_offset s) s)
