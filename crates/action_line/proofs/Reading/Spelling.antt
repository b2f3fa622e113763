-- The bytes of a line spell tokens exactly where these are the ones worked out, and none of them is invalid.
use Prim.Native.Nat.{ℕ}
use mathlib.Core.Path.{◌≡◌, refl, sym, ap, ◌∙◌}
use mathlib.Core.Bool.{true, ◌||◌, false≢true}
use mathlib.Core.List.{List, [], ◌∷◌, ◌++◌, append_assoc, append-nil}
use lib.Dec.{eqb}
use borrow.Author.Tests.{eqb-true}
use Rattle.text.specs.Comparing.{same_text}
use Rattle.text.specs.Numerals.{is_digit}
use Rattle.action_line.specs.Tokens.{Token, open_parenthesis, close_parenthesis, invalid, is_letter, Apart, Spelling}
use Rattle.action_line.specs.Tokens.{Spells, ends, space, opens, closes, word}
use Rattle.action_line.specs.Lexing.{token_of, ByteClass, class_of, word_before, lex_byte, lex_after, tokens_of}
use Rattle.action_line.proofs.Reading.Words.{picked, Valid, AllAlphanumeric}
use Rattle.action_line.proofs.Reading.Words.{spelling_alphanumeric, spelling_valid, spelling_token, token_spelling}

abbrev pub AllValid : List Token → Type 0
AllValid [] = Unit {0}
AllValid (t ∷ ts) = Valid t × AllValid ts

-- ---- the tokens that a line spells

-- letters and digits are one token with those before them
pub lex_alphanumeric : (v w line : List ℕ) → AllAlphanumeric w → lex_after v (w ++ line) ≡ lex_after (v ++ w) line
unfolding lex_after
lex_alphanumeric v [] line a = rw (append-nil v)
lex_alphanumeric v (b ∷ w) line a =
    rw a.0 (lex_alphanumeric (v ++ b ∷ []) w line a.1 ∙ ap (λ (u : List ℕ). lex_after u line) (append_assoc v (b ∷ []) w))

-- where no letter or digit comes next, the token ends
pub lex_apart : (w line : List ℕ) → Apart line → lex_after w line ≡ word_before w (tokens_of line)
unfolding lex_after
lex_apart w [] a = refl
lex_apart w (b ∷ line) a =
    picked P (is_digit b || is_letter b) (λ q. absurd (false≢true (sym a ∙ q)))
    (picked P (eqb b 32) (λ q. refl) (picked P (eqb b 40) (λ q. refl) (picked P (eqb b 41) (λ q. refl) refl)))
  where
    go : List ℕ → List Token
    go v = lex_after v line

    P : ByteClass → Type 0
    P c = lex_byte go w b c ≡ word_before w (lex_byte go [] b c)

before_token : (w : List ℕ) (ts : List Token) → Valid (token_of w) → word_before w ts ≡ token_of w ∷ ts
unfolding token_of same_text
before_token [] ts v = absurd v
before_token (b ∷ w) ts v = refl

pub lex_spelling : {w : List ℕ} {t : Token} (line : List ℕ) → Spelling w t → Apart line → tokens_of (w ++ line) ≡ t ∷ tokens_of line
lex_spelling {w} {t} line s a =
    lex_alphanumeric [] w line (spelling_alphanumeric s)
    ∙ lex_apart w line a
    ∙ before_token w (tokens_of line) (rw (spelling_token s) (spelling_valid s))
    ∙ ap (λ (x : Token). x ∷ tokens_of line) (spelling_token s)

pub spelled_lexed : {line : List ℕ} {ts : List Token} → Spells line ts → tokens_of line ≡ ts
unfolding lex_after
spelled_lexed ends = refl
spelled_lexed (space r) = spelled_lexed r
spelled_lexed (opens r) = ap (λ (us : List Token). open_parenthesis ∷ us) (spelled_lexed r)
spelled_lexed (closes r) = ap (λ (us : List Token). close_parenthesis ∷ us) (spelled_lexed r)
spelled_lexed (word {line = line} {t = t} s a r) = lex_spelling line s a ∙ ap (λ (us : List Token). t ∷ us) (spelled_lexed r)

-- ---- the line that spells tokens

word_spelled : (w line : List ℕ) (ts : List Token) → Apart line → (AllValid ts → Spells line ts) → AllValid (word_before w ts)
    → Spells (w ++ line) (word_before w ts)
word_spelled [] line ts a f v = f v
word_spelled (c ∷ w) line ts a f v = word (token_spelling (c ∷ w) v.0) a (f v.1)

-- behind the letters and digits w is the byte k, a space or a parenthesis
sign_spelled : (w line : List ℕ) (ts : List Token) (b k : ℕ) → eqb b k ≡ true → Apart (k ∷ line)
    → (AllValid ts → Spells (k ∷ line) ts) → AllValid (word_before w ts) → Spells (w ++ b ∷ line) (word_before w ts)
sign_spelled w line ts b k q a f v = rw (eqb-true b k q) (word_spelled w (k ∷ line) ts a f v)

not_invalid : (w : List ℕ) (ts : List Token) → AllValid (word_before w (invalid ∷ ts)) → ⊥
not_invalid [] ts v = v.0
not_invalid (c ∷ w) ts v = v.1.0

spelled_after : (w line : List ℕ) → AllValid (lex_after w line) → Spells (w ++ line) (lex_after w line)
unfolding lex_after
spelled_after w [] v = word_spelled w [] [] tt (λ v'. ends) v
spelled_after w (b ∷ line) v = by_class (λ u v'. spelled_after u line v') v
  where
    go : List ℕ → List Token
    go u = lex_after u line

    P : ByteClass → Type 0
    P c = AllValid (lex_byte go w b c) → Spells (w ++ b ∷ line) (lex_byte go w b c)

    by_class : ((u : List ℕ) → AllValid (go u) → Spells (u ++ line) (go u)) → P (class_of b)
    by_class rest =
        picked P (is_digit b || is_letter b) (λ q v'. rw append_assoc at (rest (w ++ b ∷ []) v'))
        (picked P (eqb b 32) (λ q. sign_spelled w line (go []) b 32 q refl (λ v'. space (rest [] v')))
        (picked P (eqb b 40) (λ q. sign_spelled w line (open_parenthesis ∷ go []) b 40 q refl (λ v'. opens (rest [] v'.1)))
        (picked P (eqb b 41) (λ q. sign_spelled w line (close_parenthesis ∷ go []) b 41 q refl (λ v'. closes (rest [] v'.1)))
        (λ v'. absurd (not_invalid w (go []) v')))))

pub lexed_spelled : (line : List ℕ) → AllValid (tokens_of line) → Spells line (tokens_of line)
lexed_spelled line v = spelled_after [] line v
