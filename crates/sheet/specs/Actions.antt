-- Document 01, "Kind 2, action formulas", with kind 6 of document 02 (a), "Stretches of actions": a stretch is a range of action numbers.
-- What the formulas mean ("Not" is taken among the A actions) is in the crate calculus. The definitions speak of the body's bytes; actions
-- is A, the plan's number of actions.
use Rattle.std.specs.Prelude.{ℕ, ◌+◌, ◌*◌, Bool, false, not, ◌&&◌, List, length, eqb, ltb, leb}
use Rattle.sheet.specs.Bytes.{byte, pick, lowest}

-- "Count (1 byte, 0 to 32)"
abbrev pub entry_count : List ℕ → ℕ
entry_count a = byte a 0

-- "then entries of kind, x, y": the kind of entry e
abbrev pub entry_kind : List ℕ → ℕ → ℕ
entry_kind a e = byte a (1 + 3 * e)

-- its x
abbrev pub entry_x : List ℕ → ℕ → ℕ
entry_x a e = byte a (2 + 3 * e)

-- its y
abbrev pub entry_y : List ℕ → ℕ → ℕ
entry_y a e = byte a (3 + 3 * e)

-- refusal 6: "action table empty, count over 32, or length not 1 + 3 × count"
unfoldable pub actions_sized : List ℕ → Bool
actions_sized a = leb 1 (length a) && (leb (entry_count a) 32 && eqb (length a) (1 + 3 * entry_count a))

-- Entry e of kind k with fields x, y: "0 false, 1 true, 2 action x (x below A), 3 x or y, 4 x and y, 5 not x. Operands of
-- 3, 4, 5 are entry numbers below their own."; "Unused fields are 0." Document 02 (a): "kind 6: every action from x to y, both ends
-- included. It is well formed when x is at most y and y is below A; otherwise the entry falls under 7."
unfoldable pub entry_right : ℕ → ℕ → ℕ → ℕ → ℕ → Bool
entry_right actions e k x y =
    pick (ltb k 2) (eqb x 0 && eqb y 0)
    (pick (eqb k 2) (ltb x actions && eqb y 0)
    (pick (ltb k 5) (ltb x e && ltb y e)
    (pick (eqb k 5) (ltb x e && eqb y 0) (pick (eqb k 6) (leb x y && ltb y actions) false))))

-- refusal 7: "its kind, action, operand or unused field"
unfoldable pub entry_faulty : ℕ → List ℕ → ℕ → Bool
entry_faulty actions a e = not (entry_right actions e (entry_kind a e) (entry_x a e) (entry_y a e))

-- the place of refusal 7, "the lowest faulty .. entry"; the count where there is none
abbrev pub lowest_entry : ℕ → List ℕ → ℕ
lowest_entry actions a = lowest (entry_faulty actions a) (entry_count a)
