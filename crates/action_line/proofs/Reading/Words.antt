-- Letters and digits spell a token exactly where it is the one worked out.
use Prim.Native.Nat.{ℕ}
use mathlib.Core.Path.{◌≡◌, refl, sym, subst}
use mathlib.Core.Bool.{Bool, true, false, ◌||◌}
use mathlib.Core.List.{List, [], ◌∷◌}
use Rattle.text.specs.Words.{bool_text}
use Rattle.text.specs.Comparing.{same_text}
use Rattle.text.proofs.Comparing.{same_exactly}
use Rattle.sheet.specs.Bytes.{pick}
use Rattle.sheet.proofs.Checks.Checks.{and_parts}
use Rattle.action_line.specs.Tokens.{Token, number, true_word, false_word, not_word, and_word, or_word, open_parenthesis, close_parenthesis}
use Rattle.text.specs.Numerals.{is_digit, all_digits, is_decimal}
use Rattle.action_line.specs.Tokens.{invalid, not_text, and_text, or_text, is_letter}
use Rattle.action_line.specs.Tokens.{Spelling, spells_number, spells_true, spells_false, spells_not, spells_and, spells_or}
use Rattle.action_line.specs.Lexing.{token_of}
use Rattle.text.proofs.Numerals.{decimal_accepted, decimal_digits, decimal_value_lem, accepted_decimal}

-- what holds of both is so of the one picked
pub picked : {A : Type 0} (P : A → Type 0) (b : Bool) {x y : A} → (b ≡ true → P x) → P y → P (pick b x y)
picked P true p q = p refl
picked P false p q = q

-- something can spell it
abbrev pub Valid : Token → Type 0
Valid (number n) = Unit {0}
Valid true_word = Unit {0}
Valid false_word = Unit {0}
Valid not_word = Unit {0}
Valid and_word = Unit {0}
Valid or_word = Unit {0}
Valid open_parenthesis = Unit {0}
Valid close_parenthesis = Unit {0}
Valid invalid = ⊥

-- all are letters or digits
abbrev pub AllAlphanumeric : List ℕ → Type 0
AllAlphanumeric [] = Unit {0}
AllAlphanumeric (b ∷ w) = ((is_digit b || is_letter b) ≡ true) × AllAlphanumeric w

-- ---- what is spelled

digits_alphanumeric : (ds : List ℕ) → all_digits ds ≡ true → AllAlphanumeric ds
unfolding all_digits
digits_alphanumeric [] q = tt
digits_alphanumeric (b ∷ ds) q =
    let k = and_parts (is_digit b) (all_digits ds) q in (rw k.0, digits_alphanumeric ds k.1)

pub spelling_alphanumeric : {w : List ℕ} {t : Token} → Spelling w t → AllAlphanumeric w
spelling_alphanumeric (spells_number {ds = ds} r) = digits_alphanumeric ds (decimal_digits r)
spelling_alphanumeric spells_true = (refl, (refl, (refl, (refl, tt))))
spelling_alphanumeric spells_false = (refl, (refl, (refl, (refl, (refl, tt)))))
spelling_alphanumeric spells_not = (refl, (refl, (refl, tt)))
spelling_alphanumeric spells_and = (refl, (refl, (refl, tt)))
spelling_alphanumeric spells_or = (refl, (refl, tt))

pub spelling_valid : {w : List ℕ} {t : Token} → Spelling w t → Valid t
spelling_valid (spells_number r) = tt
spelling_valid spells_true = tt
spelling_valid spells_false = tt
spelling_valid spells_not = tt
spelling_valid spells_and = tt
spelling_valid spells_or = tt

pub spelling_token : {w : List ℕ} {t : Token} → Spelling w t → token_of w ≡ t
unfolding token_of all_digits same_text
spelling_token (spells_number r) = rw (decimal_accepted r, decimal_value_lem r)
spelling_token spells_true = refl
spelling_token spells_false = refl
spelling_token spells_not = refl
spelling_token spells_and = refl
spelling_token spells_or = refl

-- ---- what spells

pub token_spelling : (w : List ℕ) → Valid (token_of w) → Spelling w (token_of w)
unfolding token_of
token_spelling w =
    picked P (is_decimal w) (λ q v. spells_number (accepted_decimal w q))
    (picked P (same_text w (bool_text true)) (word spells_true)
    (picked P (same_text w (bool_text false)) (word spells_false)
    (picked P (same_text w not_text) (word spells_not)
    (picked P (same_text w and_text) (word spells_and) (picked P (same_text w or_text) (word spells_or) (λ v. absurd v))))))
  where
    P : Token → Type 0
    P t = Valid t → Spelling w t

    word : {text : List ℕ} {t : Token} → Spelling text t → same_text w text ≡ true → P t
    word {text} {t} s q v = subst (λ (l : List ℕ). Spelling l t) (sym ((same_exactly w text).0 q)) s
