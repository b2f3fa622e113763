-- A number from 255 on is held as 255: what the first pass finds out is the same, and numbers below A are held as they are.
use Prim.Native.Nat.{ℕ, ◌≤◌, min}
use mathlib.Core.Path.{◌≡◌, refl, ap, ap₂, ◌∙◌}
use mathlib.Core.Bool.{true, ◌&&◌}
use mathlib.Core.List.{List, [], ◌∷◌}
use native.Mathlib.Omega.{arith}
use native.Mathlib.Decide.{dec_lt}
use lib.Dec.{ltb}
use borrow.Author.Tests.{le-ltb, ltb-true}
use Rattle.sheet.proofs.Checks.Checks.{and_parts}
use Rattle.action_line.specs.Tokens.{Token, number, true_word, false_word, not_word, and_word, or_word, open_parenthesis, close_parenthesis}
use Rattle.action_line.specs.Tokens.{invalid}
use Rattle.action_line.specs.Reading.{Expected, operand, operator, failed, expected_after, scan}
use Rattle.action_line.specs.Internal.Lexemes.{capped, all_capped}
use Rattle.action_line.specs.Entries.{word_count, word_total}
use Rattle.action_line.specs.Internal.Checking.{known, all_known}
use Rattle.action_line.proofs.Steps.Numbers.{byte_same}

-- what holds of every token and does not look at a number's value holds of the token as it is held
by_token : {X : Type 0} (f : Token → X) → ((m n : ℕ) → f (number m) ≡ f (number n)) → (t : Token) → f (capped t) ≡ f t
by_token f h (number n) = h (min n 255) n
by_token f h true_word = refl
by_token f h false_word = refl
by_token f h not_word = refl
by_token f h and_word = refl
by_token f h or_word = refl
by_token f h open_parenthesis = refl
by_token f h close_parenthesis = refl
by_token f h invalid = refl

expected_alike : (e : Expected) (m n : ℕ) → expected_after e (number m) ≡ expected_after e (number n)
expected_alike (operand d) m n = refl
expected_alike (operator d) m n = refl
expected_alike failed m n = refl

pub capped_scan : (ts : List Token) (e : Expected) → scan (all_capped ts) e ≡ scan ts e
unfolding scan all_capped
capped_scan [] e = refl
capped_scan (t ∷ ts) e =
    capped_scan ts (expected_after e (capped t)) ∙ ap (scan ts) (by_token (expected_after e) (expected_alike e) t)

pub capped_entries : (ts : List Token) → word_total (all_capped ts) ≡ word_total ts
unfolding word_total all_capped
capped_entries [] = refl
capped_entries (t ∷ ts) = omega (arith, by_token word_count (λ m n. refl) t, capped_entries ts)

module _ (A : ℕ) (b : A ≤ 255) where
  number_known : (n : ℕ) → ltb (min n 255) A ≡ ltb n A
  number_known n =
      elim (dec_lt n 255) [
        | yes less ↦ ap (λ (k : ℕ). ltb k A) (byte_same n (omega arith))
        | no more ↦ rw (le-ltb (min n 255) A (omega arith), le-ltb n A (omega arith)) refl
      ]

  token_known : (t : Token) → known A (capped t) ≡ known A t
  token_known (number n) = number_known n
  token_known true_word = refl
  token_known false_word = refl
  token_known not_word = refl
  token_known and_word = refl
  token_known or_word = refl
  token_known open_parenthesis = refl
  token_known close_parenthesis = refl
  token_known invalid = refl

  pub capped_known : (ts : List Token) → all_known A (all_capped ts) ≡ all_known A ts
  unfolding all_known all_capped
  capped_known [] = refl
  capped_known (t ∷ ts) = ap₂ ◌&&◌ (token_known t) (capped_known ts)

  token_held : (t : Token) → known A t ≡ true → capped t ≡ t
  token_held (number n) h = ap number (byte_same n (omega (arith, ltb-true n A h)))
  token_held true_word h = refl
  token_held false_word h = refl
  token_held not_word h = refl
  token_held and_word h = refl
  token_held or_word h = refl
  token_held open_parenthesis h = refl
  token_held close_parenthesis h = refl
  token_held invalid h = refl

  pub all_held : (ts : List Token) → all_known A ts ≡ true → all_capped ts ≡ ts
  unfolding all_known all_capped
  all_held [] h = refl
  all_held (t ∷ ts) h = let k = and_parts (known A t) (all_known A ts) h in ap₂ ◌∷◌ (token_held t k.0) (all_held ts k.1)
