-- The tokens of a line as the code holds them: a number from 255 on is held as 255, which is no action, since A is at most 255. Contracts
-- of private functions cite these; no promise of a public call does.
use Rattle.std.specs.Prelude.{ℕ, min, Bool, false, ◌||◌, List, [], ◌∷◌, eqb}
use Rattle.text.specs.Numerals.{is_digit}
use Rattle.action_line.specs.Tokens.{Token, number, true_word, false_word, not_word, and_word, or_word, open_parenthesis, close_parenthesis}
use Rattle.action_line.specs.Tokens.{invalid, is_letter}
use Rattle.action_line.specs.Lexing.{tokens_of}
use Rattle.action_line.specs.declared.Token as code
use Rattle.action_line.specs.declared.Token.TheVariants.{Number, True, False, Not, And, Or, Open, Close, Invalid}
use Rattle.action_line.specs.declared.lexer.Tokens.{Tokens}

-- a letter or a digit
abbrev pub is_word_byte : ℕ → Bool
is_word_byte b = is_digit b || is_letter b

-- a zero in front of other bytes
abbrev pub leading_zero : List ℕ → Bool
leading_zero [] = false
leading_zero (b ∷ []) = false
leading_zero (b ∷ c ∷ w) = eqb b 48

abbrev pub capped : Token → Token
capped (number n) = number (min n 255)
capped true_word = true_word
capped false_word = false_word
capped not_word = not_word
capped and_word = and_word
capped or_word = or_word
capped open_parenthesis = open_parenthesis
capped close_parenthesis = close_parenthesis
capped invalid = invalid

unfoldable pub all_capped : List Token → List Token
all_capped [] = []
all_capped (t ∷ ts) = capped t ∷ all_capped ts

-- the token that the code's value is
abbrev pub held : code.Token → Token
held (Number n) = number n
held True = true_word
held False = false_word
held Not = not_word
held And = and_word
held Or = or_word
held Open = open_parenthesis
held Close = close_parenthesis
held Invalid = invalid

-- the tokens of bytes
abbrev pub tokens_held : List ℕ → List Token
tokens_held line = all_capped (tokens_of line)

-- the tokens that are still to come
abbrev pub tokens_left : Tokens → List Token
tokens_left s = tokens_held s.rest.now
