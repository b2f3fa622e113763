-- The tokens of every line, worked out: letters and digits with no other byte between them are one token. ReadingsExactly of
-- specs/Reading.antt states what they give, by specs/Tokens.antt and specs/Grammar.antt.
use Rattle.std.specs.Prelude.{ℕ, true, false, ◌||◌, List, [], ◌∷◌, ◌++◌, eqb}
use Rattle.sheet.specs.Bytes.{pick}
use Rattle.text.specs.Words.{bool_text}
use Rattle.text.specs.Comparing.{same_text}
use Rattle.text.specs.Numerals.{is_digit, is_decimal, decimal_value}
use Rattle.action_line.specs.Tokens.{Token, number, true_word, false_word, not_word, and_word, or_word, open_parenthesis, close_parenthesis}
use Rattle.action_line.specs.Tokens.{invalid, not_text, and_text, or_text, is_letter}

-- ---- one number or word

-- what letters and digits with no other byte between them spell
unfoldable pub token_of : List ℕ → Token
token_of w =
    pick (is_decimal w) (number (decimal_value w))
    (pick (same_text w (bool_text true)) true_word
    (pick (same_text w (bool_text false)) false_word
    (pick (same_text w not_text) not_word (pick (same_text w and_text) and_word (pick (same_text w or_text) or_word invalid)))))

-- ---- a line

pub data ByteClass : Type 0 where
  space_byte open_byte close_byte word_byte other_byte : ByteClass

abbrev pub class_of : ℕ → ByteClass
class_of b =
    pick (is_digit b || is_letter b) word_byte
    (pick (eqb b 32) space_byte (pick (eqb b 40) open_byte (pick (eqb b 41) close_byte other_byte)))

-- the token of w, if it is not empty, in front of others
abbrev pub word_before : List ℕ → List Token → List Token
word_before [] ts = ts
word_before (c ∷ w) ts = token_of (c ∷ w) ∷ ts

-- the tokens of w (letters and digits read so far), the byte b and the rest of the line; go v gives those of v and the rest
abbrev pub lex_byte : (List ℕ → List Token) → List ℕ → ℕ → ByteClass → List Token
lex_byte go w b space_byte = word_before w (go [])
lex_byte go w b open_byte = word_before w (open_parenthesis ∷ go [])
lex_byte go w b close_byte = word_before w (close_parenthesis ∷ go [])
lex_byte go w b word_byte = go (w ++ b ∷ [])
lex_byte go w b other_byte = word_before w (invalid ∷ go [])

-- the tokens of the letters and digits w and a line behind them
unfoldable pub lex_after : List ℕ → List ℕ → List Token
lex_after w [] = word_before w []
lex_after w (b ∷ line) = lex_byte (λ v. lex_after v line) w b (class_of b)

-- the tokens of a line
abbrev pub tokens_of : List ℕ → List Token
tokens_of line = lex_after [] line
