-- The reading of every line, worked out from its tokens: first whether they are readable, then the tree. ReadingsExactly below says it by
-- the grammar.
use Rattle.std.specs.Prelude.{ℕ, zero, suc, ◌≡◌, Bool, true, false, cond, List, [], ◌∷◌, ◌↔◌, eqb}
use Rattle.sheet.specs.Bytes.{pick}
use Rattle.action_line.specs.Tokens.{Token, number, true_word, false_word, not_word, and_word, or_word, open_parenthesis, close_parenthesis}
use Rattle.action_line.specs.Tokens.{invalid}
use Rattle.action_line.specs.Grammar.{Tree, false_tree, true_tree, action_tree, or_tree, and_tree, not_tree, Reading}
use Rattle.action_line.specs.Lexing.{tokens_of}
use Rattle.action_line.specs.Precedence.{or_kind, and_kind, Builder, built_from}

-- what a line can go on with where so many parentheses are open; `failed`: it is unreadable, whatever comes
pub data Expected : Type 0 where
  operand operator : ℕ → Expected
  failed : Expected

abbrev pub expected_after : Expected → Token → Expected
expected_after (operand d) (number n) = operator d
expected_after (operand d) true_word = operator d
expected_after (operand d) false_word = operator d
expected_after (operand d) not_word = operand d
expected_after (operand d) and_word = failed
expected_after (operand d) or_word = failed
expected_after (operand d) open_parenthesis = operand (suc d)
expected_after (operand d) close_parenthesis = failed
expected_after (operand d) invalid = failed
expected_after (operator d) (number n) = failed
expected_after (operator d) true_word = failed
expected_after (operator d) false_word = failed
expected_after (operator d) not_word = failed
expected_after (operator d) and_word = operand d
expected_after (operator d) or_word = operand d
expected_after (operator d) open_parenthesis = failed
expected_after (operator zero) close_parenthesis = failed
expected_after (operator (suc d)) close_parenthesis = operator d
expected_after (operator d) invalid = failed
expected_after failed t = failed

unfoldable pub scan : List Token → Expected → Expected
scan [] e = e
scan (t ∷ ts) e = scan ts (expected_after e t)

-- a line can end here
abbrev pub complete : Expected → Bool
complete (operand d) = false
complete (operator zero) = true
complete (operator (suc d)) = false
complete failed = false

abbrev pub readable_tokens : List Token → Bool
readable_tokens ts = complete (scan ts (operand 0))

-- ---- the tree

-- an operator by its kind; `not` has no left operand
abbrev pub operator_tree : ℕ → Tree → Tree → Tree
operator_tree kind t u = pick (eqb kind or_kind) (or_tree t u) (pick (eqb kind and_kind) (and_tree t u) (not_tree u))

-- the latest tree alone is kept
abbrev pub trees : Builder Tree Tree
trees =
    record { latest = λ t. t; constant = λ b t. cond b true_tree false_tree; action = λ n t. action_tree n; combine = operator_tree }

-- the tree of readable tokens; false_tree stands where none has been made yet
abbrev pub tree_of : List Token → Tree
tree_of ts = built_from trees ts false_tree

-- ---- a line

-- "an unreadable line, the empty one included", or the reading of the line
pub data LineReading : Type 0 where
  unreadable : LineReading
  readable : Tree → LineReading

unfoldable pub reading_of : List ℕ → LineReading
reading_of line = pick (readable_tokens (tokens_of line)) (readable (tree_of (tokens_of line))) unreadable

-- A line is read as a tree exactly where the tree is its reading. Shown by readings_exactly of proofs/Reading/Readings.antt.
abbrev pub ReadingsExactly : Type 0
ReadingsExactly = (line : List ℕ) (t : Tree) → (reading_of line ≡ readable t) ↔ Reading line t

-- "an unreadable line, the empty one included". Shown by empty_unreadable there.
abbrev pub EmptyUnreadable : Type 0
EmptyUnreadable = (t : Tree) → Reading [] t → ⊥

-- "a line has only one reading". Shown by one_reading there.
abbrev pub OneReading : Type 0
OneReading = (line : List ℕ) (t u : Tree) → Reading line t → Reading line u → t ≡ u
