-- The tokens at the front of a line, and what a word is.
use Prim.Native.Nat.{ℕ, ◌+◌, ◌<◌, ◌≤◌}
use mathlib.Core.Path.{◌≡◌, refl, sym, ap, ap₂, ◌∙◌}
use mathlib.Core.Bool.{Bool, true, false, not, and-false, false≢true}
use mathlib.Core.List.{List, [], ◌∷◌, ◌++◌}
use mathlib.Core.Logic.{◌≢◌}
use native.Mathlib.Omega.{arith}
use native.Mathlib.Numerals.{one-add}
use lib.Dec.{eqb}
use lib.ListN.{length, get_or, take, drop}
use lib.Pointwise.{pointwise}
use lib.Seq.{length-take-le}
use Rattle.std.proofs.lemmas.List.{take-append-drop}
use borrow.Author.Tests.{ne_eqb, eqb-true}
use Rattle.std.proofs.Common.{◌==◌, cond}
use Rattle.std.specs.List.{prefix_len}
use Rattle.sheet.specs.Bytes.{pick}
use Rattle.text.specs.Words.{bool_text}
use Rattle.text.specs.Comparing.{same_text}
use Rattle.text.proofs.Comparing.{pointwise_same}
use Rattle.text.specs.Numerals.{is_digit, is_decimal, all_digits}
use Rattle.text.proofs.Numerals.{digit_bounds}
use Rattle.action_line.specs.Tokens.{Token, true_word, false_word, not_word, and_word, or_word, open_parenthesis, close_parenthesis}
use Rattle.action_line.specs.Tokens.{invalid, not_text, and_text, or_text, Apart}
use Rattle.action_line.specs.Lexing.{token_of, word_before, lex_after, tokens_of}
use Rattle.action_line.specs.Internal.Lexemes.{is_word_byte, capped, all_capped, held, tokens_held}
use Rattle.action_line.specs.declared.Token as code
use Rattle.action_line.proofs.Reading.Words.{AllAlphanumeric}
use Rattle.action_line.proofs.Reading.Spelling.{lex_alphanumeric, lex_apart}

-- ---- the tokens at the front of a line

abbrev pub is_space : ℕ → Bool
is_space b = b == 32

-- spaces are passed over
pub spaces_passed : (line : List ℕ) → tokens_of (drop (prefix_len is_space line) line) ≡ tokens_of line
unfolding lex_after
spaces_passed [] = refl
spaces_passed (b ∷ line) = by (is_space b) refl (spaces_passed line)
  where
    by : (s : Bool) → is_space b ≡ s → tokens_of (drop (prefix_len is_space line) line) ≡ tokens_of line
        → tokens_of (drop (cond s (1 + prefix_len is_space line) 0) (b ∷ line)) ≡ tokens_of (b ∷ line)
    by true q r = let e = eqb-true b 32 q in rw (e, one-add) r
    by false q r = refl

-- and then comes no space
pub no_space_first : (line : List ℕ) {b : ℕ} {behind : List ℕ} → drop (prefix_len is_space line) line ≡ b ∷ behind → b ≢ 32
no_space_first [] {b} {behind} q e = let z : [] ≡ b ∷ behind = q in absurd cc
no_space_first (c ∷ line) {b} {behind} q e = by (is_space c) refl q (no_space_first line) e
  where
    by : (s : Bool) → is_space c ≡ s → drop (cond s (1 + prefix_len is_space line) 0) (c ∷ line) ≡ b ∷ behind
        → (drop (prefix_len is_space line) line ≡ b ∷ behind → b ≢ 32) → b ≢ 32
    by true p r h e = h (rw one-add at r) e
    by false p r h e = let z : c ≡ 32 = cc in false≢true (sym p ∙ ap is_space z)

-- letters and digits are one token
all_alphanumeric : (line : List ℕ) → AllAlphanumeric (take (prefix_len is_word_byte line) line)
all_alphanumeric [] = tt
all_alphanumeric (b ∷ line) = by (is_word_byte b) refl (all_alphanumeric line)
  where
    by : (s : Bool) → is_word_byte b ≡ s → AllAlphanumeric (take (prefix_len is_word_byte line) line)
        → AllAlphanumeric (take (cond s (1 + prefix_len is_word_byte line) 0) (b ∷ line))
    by true q r = rw one-add (q, r)
    by false q r = tt

apart : (line : List ℕ) → Apart (drop (prefix_len is_word_byte line) line)
apart [] = tt
apart (b ∷ line) = by (is_word_byte b) refl (apart line)
  where
    by : (s : Bool) → is_word_byte b ≡ s → Apart (drop (prefix_len is_word_byte line) line)
        → Apart (drop (cond s (1 + prefix_len is_word_byte line) 0) (b ∷ line))
    by true q r = rw one-add r
    by false q r = q

one_token : (w : List ℕ) (ts : List Token) → 0 < length w → word_before w ts ≡ token_of w ∷ ts
one_token [] ts l = absurd (omega arith)
one_token (b ∷ w) ts l = refl

pub word_some : {line behind : List ℕ} {b : ℕ} → line ≡ b ∷ behind → true ≡ is_word_byte b → 0 < prefix_len is_word_byte line
word_some {behind = behind} q e = rw (q, ← e) (omega arith)

pub word_first : (line : List ℕ) {w behind : List ℕ} (n : ℕ) → n ≡ prefix_len is_word_byte line → 0 < n → n ≤ length line → w ≡ take n line → behind ≡ drop n line
    → tokens_of line ≡ token_of w ∷ tokens_of behind
word_first line {w} {behind} n e l u q r =
    ap tokens_of (sym (take-append-drop n line) ∙ ap₂ ◌++◌ (sym q) (sym r))
    ∙ lex_alphanumeric [] w behind (rw (q, e) (all_alphanumeric line))
    ∙ lex_apart w behind (rw (r, e) (apart line))
    ∙ one_token w (tokens_of behind) (rw q (omega (arith, length-take-le n line u)))

-- a byte that is no letter, digit or space is a token
module _ {line behind : List ℕ} {b : ℕ} (d : line ≡ b ∷ behind) (h : false ≡ is_word_byte b) where
  pub open_first : b ≡ 40 → tokens_of line ≡ open_parenthesis ∷ tokens_of behind
  unfolding lex_after
  open_first q = rw (d, q) refl

  pub close_first : b ≡ 41 → tokens_of line ≡ close_parenthesis ∷ tokens_of behind
  unfolding lex_after
  close_first q = rw (d, q) refl

  pub other_first : b ≢ 32 → b ≢ 40 → b ≢ 41 → tokens_of line ≡ invalid ∷ tokens_of behind
  unfolding lex_after
  other_first p q r = rw (d, ← h, ne_eqb b 32 p, ne_eqb b 40 q, ne_eqb b 41 r) refl

-- ---- the first token, as the code holds it

pub none_left : (line : List ℕ) → length line ≡ 0 → tokens_of line ≡ []
unfolding lex_after
none_left [] q = refl
none_left (b ∷ line) q = absurd (omega arith)

-- behind n spaces
module _ (line rest : List ℕ) (n : ℕ) (e : n ≡ prefix_len is_space line) (d : rest ≡ drop n line) where
  same_tokens : tokens_of line ≡ tokens_of rest
  same_tokens = sym (ap tokens_of (d ∙ ap (λ (k : ℕ). drop k line) e) ∙ spaces_passed line)

  pub no_token : length rest ≡ 0 → tokens_held line ≡ []
  unfolding all_capped
  no_token q = ap all_capped (same_tokens ∙ none_left rest q)

  pub found : {t : Token} (c : code.Token) (behind : List ℕ) → tokens_of rest ≡ t ∷ tokens_of behind → held c ≡ capped t
      → tokens_held line ≡ held c ∷ tokens_held behind
  unfolding all_capped
  found c behind q h = ap all_capped (same_tokens ∙ q) ∙ ap (◌∷ tokens_held behind) (sym h)

  pub no_space : {b : ℕ} {behind : List ℕ} → rest ≡ b ∷ behind → b ≢ 32
  no_space q = no_space_first line (sym (d ∙ ap (λ (k : ℕ). drop k line) e) ∙ q)

-- ---- what a word is

pub told : (w v s : List ℕ) {b : Bool} → b ≡ pointwise eqb w v → v ≡ s → same_text w s ≡ b
told w v s h e = sym (h ∙ pointwise_same w v ∙ ap (same_text w) e)

pub not_decimal : (w : List ℕ) → is_digit (get_or w 0 0) ≡ true → is_decimal w ≡ false → token_of w ≡ invalid
unfolding token_of same_text
not_decimal [] d h = refl
not_decimal (b ∷ w) d h =
    let l = (digit_bounds b d).1 in
    rw (h, ne_eqb b 116 (λ e. omega arith), ne_eqb b 102 (λ e. omega arith), ne_eqb b 110 (λ e. omega arith), ne_eqb b 97 (λ e. omega arith), ne_eqb b 111 (λ e. omega arith)) refl

pub no_digit_first : (w : List ℕ) → is_digit (get_or w 0 0) ≡ false → is_decimal w ≡ false
unfolding all_digits
no_digit_first [] h = refl
no_digit_first (b ∷ []) h = h
no_digit_first (b ∷ c ∷ w) h = rw h (and-false (not (eqb b 48)))

-- any other is told by five comparisons
pub keyword_is : (w : List ℕ) → is_digit (get_or w 0 0) ≡ false
    → {p q r s u : Bool} → same_text w (bool_text true) ≡ p → same_text w (bool_text false) ≡ q → same_text w not_text ≡ r
    → same_text w and_text ≡ s → same_text w or_text ≡ u
    → token_of w ≡ pick p true_word (pick q false_word (pick r not_word (pick s and_word (pick u or_word invalid))))
unfolding token_of
keyword_is w d e f g h i = rw (no_digit_first w d, e, f, g, h, i) refl
