-- The loop over the digits of a number, which is held as 255 where it is larger.
use Prim.Native.Nat.{ℕ, suc, ◌+◌, ◌-◌, ◌*◌, ◌<◌, ◌≤◌, min}
use mathlib.Core.Path.{◌≡◌, refl, sym, ap, ◌∙◌}
use mathlib.Core.Bool.{true, false, not, and-true, and-false, false≢true}
use mathlib.Core.List.{List, [], ◌∷◌}
use native.Mathlib.Omega.{arith}
use native.Mathlib.Numerals.{add-one}
use lib.Dec.{eqb}
use lib.ListN.{length, get_or, drop, drop_of_length-le}
use lib.Seq.{drop-cons}
use Rattle.text.specs.Numerals.{is_digit, all_digits, is_decimal, decimal_from}
use Rattle.action_line.specs.Tokens.{number}
use Rattle.action_line.specs.Lexing.{token_of}
use Rattle.action_line.specs.Internal.Lexemes.{leading_zero, capped}

-- ---- 255 for all that is larger

pub byte_same : (n : ℕ) → n ≤ 255 → min n 255 ≡ n
byte_same n l = omega arith

-- one more digit keeps equal what is held alike
digit_alike : (m n d : ℕ) → min m 255 ≡ min n 255 → min (10 * m + d) 255 ≡ min (10 * n + d) 255
digit_alike m n d q = omega arith

alike : (m n : ℕ) (ds : List ℕ) → min m 255 ≡ min n 255 → min (decimal_from m ds) 255 ≡ min (decimal_from n ds) 255
unfolding decimal_from
alike m n [] q = q
alike m n (b ∷ ds) q = alike (10 * m + (b - 48)) (10 * n + (b - 48)) ds (digit_alike m n (b - 48) q)

-- ---- the loop

module _ (w : List ℕ) (i : ℕ) (l : i < length w) where
  pub digit_held : (n : ℕ) → min (decimal_from (min (10 * n + (get_or w i 0 - 48)) 255) (drop (i + 1) w)) 255 ≡ min (decimal_from n (drop i w)) 255
  unfolding decimal_from
  digit_held n =
      let m = 10 * n + (get_or w i 0 - 48) in
      rw (add-one i, drop-cons w i 0 l) (alike (min m 255) m (drop (suc i) w) (byte_same (min m 255) (omega arith)))

  pub digit_next : is_digit (get_or w i 0) ≡ true → all_digits (drop i w) ≡ all_digits (drop (i + 1) w)
  unfolding all_digits
  digit_next h = rw (add-one i, drop-cons w i 0 l, h) refl

  pub no_digit : is_digit (get_or w i 0) ≡ false → all_digits (drop i w) ≡ false
  unfolding all_digits
  no_digit h = rw (drop-cons w i 0 l, h) refl

-- ---- what a word that begins with a digit is

pub with_zero : (w : List ℕ) → leading_zero w ≡ true → is_decimal w ≡ false
unfolding all_digits
with_zero [] h = refl
with_zero (b ∷ []) h = absurd (false≢true h)
with_zero (b ∷ c ∷ w) h = rw h refl

pub with_letter : (w : List ℕ) → all_digits w ≡ false → is_decimal w ≡ false
unfolding all_digits
with_letter [] h = refl
with_letter (b ∷ []) h = sym (and-true (is_digit b)) ∙ h
with_letter (b ∷ c ∷ w) h = rw h (and-false (not (eqb b 48)))

pub all_digits_lem : (w : List ℕ) → 0 < length w → leading_zero w ≡ false → all_digits w ≡ true → is_decimal w ≡ true
unfolding all_digits
all_digits_lem [] n z h = absurd (omega arith)
all_digits_lem (b ∷ []) n z h = sym (and-true (is_digit b)) ∙ h
all_digits_lem (b ∷ c ∷ w) n z h = rw (z, h) refl

-- the loop has come to the end
pub number_held : (w : List ℕ) (i value : ℕ) → length w ≤ i → value ≤ 255 → 0 < length w → leading_zero w ≡ false
    → all_digits w ≡ all_digits (drop i w) → min (decimal_from value (drop i w)) 255 ≡ min (decimal_from 0 w) 255
    → number value ≡ capped (token_of w)
unfolding token_of all_digits decimal_from
number_held w i value l b n z d q =
    let e = drop_of_length-le w l in
    rw (all_digits_lem w n z (rw e at d)) (ap number (sym (byte_same value b) ∙ (rw e at q)))
