-- Document 02 (e): "Give the kind 2 body, one entry for each number and word, equal ones too: all of the left (or only) operand's, all of
-- the right's, then their operator's."
use Rattle.std.specs.Prelude.{ℕ, ◌+◌, ◌-◌, ◌≡◌, List, [], ◌∷◌, ◌++◌}
use Rattle.action_line.specs.Tokens.{Token, number, true_word, false_word, not_word, and_word, or_word, open_parenthesis, close_parenthesis}
use Rattle.action_line.specs.Tokens.{invalid}
use Rattle.action_line.specs.Grammar.{Tree, false_tree, true_tree, action_tree, or_tree, and_tree, not_tree, Reading}

-- how many entries a tree has
unfoldable pub entry_total : Tree → ℕ
entry_total false_tree = 1
entry_total true_tree = 1
entry_total (action_tree n) = 1
entry_total (or_tree t u) = entry_total t + entry_total u + 1
entry_total (and_tree t u) = entry_total t + entry_total u + 1
entry_total (not_tree t) = entry_total t + 1

-- 1 for a number or a word
abbrev pub word_count : Token → ℕ
word_count (number n) = 1
word_count true_word = 1
word_count false_word = 1
word_count not_word = 1
word_count and_word = 1
word_count or_word = 1
word_count open_parenthesis = 0
word_count close_parenthesis = 0
word_count invalid = 0

-- how many numbers and words there are among tokens
unfoldable pub word_total : List Token → ℕ
word_total [] = 0
word_total (t ∷ ts) = word_count t + word_total ts

-- "one entry for each number and word, equal ones too": of the line. Shown by one_entry_each of proofs/Body/Totals.antt.
abbrev pub OneEntryEach : Type 0
OneEntryEach = (line : List ℕ) (t : Tree) (r : Reading line t) → entry_total t ≡ word_total r.tokens

-- the number of a tree's last entry, where its first is entry e
abbrev pub last_entry : ℕ → Tree → ℕ
last_entry e t = e + entry_total t - 1

-- "all of the left (or only) operand's, all of the right's, then their operator's": the bytes of a tree's entries, the first being entry
-- e. Document 01: "entries of kind, x, y. Kinds: 0 false, 1 true, 2 action x .., 3 x or y, 4 x and y, 5 not x. Operands of 3, 4, 5 are
-- entry numbers"; "Unused fields are 0."
unfoldable pub entries_from : ℕ → Tree → List ℕ
entries_from e false_tree = 0 ∷ 0 ∷ 0 ∷ []
entries_from e true_tree = 1 ∷ 0 ∷ 0 ∷ []
entries_from e (action_tree n) = 2 ∷ n ∷ 0 ∷ []
entries_from e (or_tree t u) =
    entries_from e t ++ (entries_from (e + entry_total t) u ++ (3 ∷ last_entry e t ∷ last_entry (e + entry_total t) u ∷ []))
entries_from e (and_tree t u) =
    entries_from e t ++ (entries_from (e + entry_total t) u ++ (4 ∷ last_entry e t ∷ last_entry (e + entry_total t) u ∷ []))
entries_from e (not_tree t) = entries_from e t ++ (5 ∷ last_entry e t ∷ 0 ∷ [])

-- document 01: "Count (1 byte, 0 to 32), then entries of kind, x, y."
unfoldable pub body_of : Tree → List ℕ
body_of t = entry_total t ∷ entries_from 0 t
