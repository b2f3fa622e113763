-- Texts read from their front, worked out: each piece takes its bytes from what is left, and where they are not there the reading has
-- failed for good. ReadingsExactly of specs/Reading.antt says what this gives, by specs/Texts.antt.
use Rattle.std.specs.Prelude.{ℕ, zero, suc, ◌<◌, ◌≡◌, Bool, true, false, List, [], ◌∷◌, eqb, length}
use Rattle.sheet.specs.Bytes.{pick}
use Rattle.text.specs.Numerals.{is_digit, decimal_value}
use Rattle.aut.specs.Texts.{FirstLine, TransitionLine, open_parenthesis, close_parenthesis, comma, quote_mark, space_byte, line_feed_byte}
use Rattle.aut.specs.Texts.{is_label_byte}

-- what is left of a text
pub data Rest : Type 0 where
  failed : Rest
  rest : List ℕ → Rest

-- the bytes at the front that pass the test
unfoldable pub take_while : (ℕ → Bool) → List ℕ → List ℕ
take_while test [] = []
take_while test (b ∷ s) = pick (test b) (b ∷ take_while test s) []

-- what comes after them
unfoldable pub drop_while : (ℕ → Bool) → List ℕ → List ℕ
drop_while test [] = []
drop_while test (b ∷ s) = pick (test b) (drop_while test s) (b ∷ s)

-- ---- pieces

-- the byte b
abbrev pub after_byte : ℕ → Rest → Rest
after_byte b failed = failed
after_byte b (rest []) = failed
after_byte b (rest (c ∷ s)) = pick (eqb c b) (rest s) failed

-- a space, or nothing
abbrev pub after_space : Rest → Rest
after_space failed = failed
after_space (rest []) = rest []
after_space (rest (c ∷ s)) = pick (eqb c space_byte) (rest s) (rest (c ∷ s))

-- digits: a `0` stands alone
abbrev pub after_numeral : Rest → Rest
after_numeral failed = failed
after_numeral (rest []) = failed
after_numeral (rest (c ∷ s)) = pick (eqb c 48) (rest s) (pick (is_digit c) (rest (drop_while is_digit s)) failed)

-- those digits, where they are there
abbrev pub numeral_of : Rest → List ℕ
numeral_of failed = []
numeral_of (rest []) = []
numeral_of (rest (c ∷ s)) = pick (eqb c 48) (c ∷ []) (c ∷ take_while is_digit s)

-- the bytes of a label
abbrev pub after_label : Rest → Rest
after_label failed = failed
after_label (rest s) = rest (drop_while is_label_byte s)

-- those bytes
abbrev pub label_of : Rest → List ℕ
label_of failed = []
label_of (rest s) = take_while is_label_byte s

-- ---- `(from, "label", to)`: where its parts begin, and where it ends

abbrev pub from_at : Rest → Rest
from_at x = after_byte open_parenthesis x

abbrev pub label_at : Rest → Rest
label_at x = after_byte quote_mark (after_space (after_byte comma (after_numeral (from_at x))))

abbrev pub to_at : Rest → Rest
to_at x = after_space (after_byte comma (after_byte quote_mark (after_label (label_at x))))

unfoldable pub after_line : Rest → Rest
after_line x = after_byte line_feed_byte (after_byte close_parenthesis (after_numeral (to_at x)))

-- what it says, where the reading has not failed
unfoldable pub line_of : Rest → TransitionLine
line_of x =
    record { from = decimal_value (numeral_of (from_at x)); label = label_of (label_at x); to = decimal_value (numeral_of (to_at x)) }

-- ---- `des (first, transitions, states)`

-- behind `d`, `e` and `s`
abbrev pub first_at : Rest → Rest
first_at x = after_byte open_parenthesis (after_space (after_byte 115 (after_byte 101 (after_byte 100 x))))

abbrev pub transitions_at : Rest → Rest
transitions_at x = after_space (after_byte comma (after_numeral (first_at x)))

abbrev pub states_at : Rest → Rest
states_at x = after_space (after_byte comma (after_numeral (transitions_at x)))

unfoldable pub after_first_line : Rest → Rest
after_first_line x = after_byte line_feed_byte (after_byte close_parenthesis (after_numeral (states_at x)))

-- what it says, where the reading has not failed
unfoldable pub first_line_of : Rest → FirstLine
first_line_of x =
    record {
      first = decimal_value (numeral_of (first_at x));
      transitions = decimal_value (numeral_of (transitions_at x));
      states = decimal_value (numeral_of (states_at x));
    }

-- ---- the lines after it, n at most

-- one of three, by what is left: nothing more can be read, all is read, or something is left
abbrev pub case_rest : {A : Type 0} → Rest → A → A → A → A
case_rest failed none all more = none
case_rest (rest []) none all more = all
case_rest (rest (b ∷ s)) none all more = more

-- all that is left are lines
unfoldable pub readable_from : ℕ → Rest → Bool
readable_from zero x = case_rest x false true false
readable_from (suc n) x = case_rest x false true (readable_from n (after_line x))

-- what they say
unfoldable pub lines_from : ℕ → Rest → List TransitionLine
lines_from zero x = []
lines_from (suc n) x = case_rest x [] [] (line_of x ∷ lines_from n (after_line x))

-- With no count: where n is enough for what is left, all is read, or nothing can be, or a line is read and then the lines after it.
-- Shown by lines_uncounted of proofs/Reading/Uncounted.antt.
pub record LinesUncounted : Type 0 where
  pub all_read : (n : ℕ) → (readable_from n (rest []) ≡ true) × (lines_from n (rest []) ≡ [])
  pub none_read : (n : ℕ) → (readable_from n failed ≡ false) × (lines_from n failed ≡ [])
  pub one_line :
      (n b : ℕ) (s : List ℕ) → length s < n
      → (readable_from n (rest (b ∷ s)) ≡ readable_from n (after_line (rest (b ∷ s))))
      × (lines_from n (rest (b ∷ s)) ≡ line_of (rest (b ∷ s)) ∷ lines_from n (after_line (rest (b ∷ s))))

-- ---- a whole text: it has no more lines than bytes

unfoldable pub text_readable : List ℕ → Bool
text_readable s = readable_from (length s) (after_first_line (rest s))

abbrev pub text_first_line : List ℕ → FirstLine
text_first_line s = first_line_of (rest s)

abbrev pub text_lines : List ℕ → List TransitionLine
text_lines s = lines_from (length s) (after_first_line (rest s))
