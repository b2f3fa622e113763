-- Document 01, "Sheets to try": the sheets that several layers judge, the key sheet and that of P11.
use Rattle.std.specs.Prelude.{ℕ, List, [], ◌∷◌}
use Rattle.sheet.specs.Writing.{sheet_of}

-- "The key sheet K has 74 bytes": with the kind of its first rule node
abbrev pub key_sheet : ℕ → List ℕ
key_sheet kind =
    1 ∷ 3 ∷ 1 ∷ 17 ∷ 0 ∷ 10 ∷ 0 ∷ 2 ∷ 27 ∷ 0 ∷ 10 ∷ 0 ∷ 3 ∷ 37 ∷ 0 ∷ 37 ∷ 0 ∷
    3 ∷ 3 ∷ 2 ∷ 0 ∷ 0 ∷ 1 ∷ 1 ∷ 1 ∷ 2 ∷ 2 ∷
    3 ∷ 2 ∷ 0 ∷ 0 ∷ 2 ∷ 1 ∷ 0 ∷ 2 ∷ 2 ∷ 0 ∷
    12 ∷ kind ∷ 0 ∷ 1 ∷ 2 ∷ 2 ∷ 4 ∷ 4 ∷ 2 ∷ 3 ∷ 1 ∷ 0 ∷ 0 ∷ 2 ∷ 5 ∷ 7 ∷ 4 ∷ 0 ∷ 6 ∷
    6 ∷ 0 ∷ 0 ∷ 7 ∷ 1 ∷ 8 ∷ 2 ∷ 9 ∷ 10 ∷ 6 ∷ 0 ∷ 0 ∷ 4 ∷ 1 ∷ 11 ∷ 6 ∷ 1 ∷ 0 ∷ []

-- K: its first rule node is a least fixed point
abbrev pub K : List ℕ
K = key_sheet 7

-- "plan 1,1,1,0, 0,0,0 (one state with a transition to itself)", "the action table 1, 1,0,0", and a fixed point of a kind, X, of "every"
-- true X
abbrev pub looped : ℕ → List ℕ
looped kind =
    sheet_of (1 ∷ 1 ∷ 1 ∷ 0 ∷ 0 ∷ 0 ∷ 0 ∷ []) (1 ∷ 1 ∷ 0 ∷ 0 ∷ []) (3 ∷ kind ∷ 0 ∷ 1 ∷ 5 ∷ 0 ∷ 2 ∷ 6 ∷ 0 ∷ 0 ∷ [])
