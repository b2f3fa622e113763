-- Document 02 (e), "Action formulas typed as a line": the tokens of a line, and how its bytes spell them. Letters and signs are bytes in
-- ASCII.
use Rattle.std.specs.Prelude.{ℕ, ◌≡◌, Bool, true, false, ◌&&◌, ◌||◌, List, [], ◌∷◌, ◌++◌, leb}
use Rattle.text.specs.Numerals.{Decimal, is_digit}
use Rattle.text.specs.Words.{bool_text}

-- "decimal action numbers without leading zeros, `true`, `false`, `not`, `and`, `or`, parentheses"
pub data Token : Type 0 where
  number : ℕ → Token
  true_word false_word not_word and_word or_word : Token
  open_parenthesis close_parenthesis : Token
  -- anything else, which nothing spells: a line that has it is unreadable
  invalid : Token

-- `not`
abbrev pub not_text : List ℕ
not_text = 110 ∷ 111 ∷ 116 ∷ []

-- `and`
abbrev pub and_text : List ℕ
and_text = 97 ∷ 110 ∷ 100 ∷ []

-- `or`
abbrev pub or_text : List ℕ
or_text = 111 ∷ 114 ∷ []

-- the letters and digits of a number or of a word; "decimal action numbers without leading zeros", which may be of any size
pub data Spelling : List ℕ → Token → Type 0 where
  spells_number : {ds : List ℕ} {n : ℕ} → Decimal ds n → Spelling ds (number n)
  spells_true : Spelling (bool_text true) true_word
  spells_false : Spelling (bool_text false) false_word
  spells_not : Spelling not_text not_word
  spells_and : Spelling and_text and_word
  spells_or : Spelling or_text or_word

-- `a` to `z`
abbrev pub is_letter : ℕ → Bool
is_letter b = leb 97 b && leb b 122

-- no letter or digit comes next, so none would touch
abbrev pub Apart : List ℕ → Type 0
Apart [] = Unit {0}
Apart (b ∷ line) = (is_digit b || is_letter b) ≡ false

-- "separated by spaces where letters or digits would touch, spaces free elsewhere": the bytes of a line spell the tokens
pub data Spells : List ℕ → List Token → Type 0 where
  ends : Spells [] []
  space : {line : List ℕ} {ts : List Token} → Spells line ts → Spells (32 ∷ line) ts
  opens : {line : List ℕ} {ts : List Token} → Spells line ts → Spells (40 ∷ line) (open_parenthesis ∷ ts)
  closes : {line : List ℕ} {ts : List Token} → Spells line ts → Spells (41 ∷ line) (close_parenthesis ∷ ts)
  word : {w line : List ℕ} {t : Token} {ts : List Token} → Spelling w t → Apart line → Spells line ts → Spells (w ++ line) (t ∷ ts)
