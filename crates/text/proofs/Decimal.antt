-- Numbers in decimal: the equations of `decimal_of`, and the length of a numeral.
use Prim.Native.Nat.{ℕ, zero, suc, ◌/◌, ◌%◌, ◌^◌, ◌≤◌, ◌<◌}
use mathlib.Core.Path.{◌≡◌, sym, ap, ◌∙◌}
use mathlib.Core.List.{List, [], ◌∷◌, ◌++◌}
use native.Mathlib.Omega.{arith}
use native.Mathlib.Decide.{dec_lt}
use native.Mathlib.Nat.{pow-suc}
use borrow.Author.Tests.{lt-ltb, le-ltb}
use lib.ListN.{length, length-append}
use Rattle.text.specs.Decimal.{digit_of, digits_of, decimal_of, OneDigit, LastDigit}

-- a numeral with room for one digit more: the number is below 10, or not
pub digits_one : (k n : ℕ) → n < 10 → digits_of (suc k) n ≡ digit_of n ∷ []
unfolding digits_of
digits_one k n h = rw (lt-ltb n 10 h)

pub digits_more : (k n : ℕ) → 10 ≤ n → digits_of (suc k) n ≡ digits_of k (n / 10) ++ (digit_of (n % 10) ∷ [])
unfolding digits_of
digits_more k n h = rw (le-ltb n 10 h)

-- a tenth has a digit fewer
pub tenth : (k n : ℕ) → n < 10 ^ suc (suc k) → n / 10 < 10 ^ suc k
tenth k n h = omega (arith, pow-suc 10 (suc k))

-- room for more digits than a number has changes nothing
enough : (k n : ℕ) → n < 10 ^ suc k → digits_of (suc k) n ≡ digits_of (suc (suc k)) n
enough zero n h = let l : n < 10 = omega arith in digits_one zero n l ∙ sym (digits_one (suc zero) n l)
enough (suc k) n h =
    elim (dec_lt n 10) [
      | yes l ↦ digits_one (suc k) n l ∙ sym (digits_one (suc (suc k)) n l)
      | no g ↦ let l : 10 ≤ n = omega arith in
          digits_more (suc k) n l ∙
          (ap (λ (x : List ℕ). x ++ (digit_of (n % 10) ∷ [])) (enough k (n / 10) (tenth k n h)) ∙ sym (digits_more (suc (suc k)) n l))
    ]

pub one_digit : OneDigit
one_digit n h = digits_one 19 n h

pub last_digit : LastDigit
last_digit n l h =
    digits_more 19 n l ∙ ap (λ (x : List ℕ). x ++ (digit_of (n % 10) ∷ [])) (enough 18 (n / 10) (omega arith))

digits_length : (k n : ℕ) → length (digits_of k n) ≤ k
unfolding digits_of
digits_length zero n = omega arith
digits_length (suc k) n =
    elim (dec_lt n 10) [
      | yes l ↦ rw (digits_one k n l) (omega arith)
      | no g ↦ rw (digits_more k n (omega arith), length-append) (omega (arith, digits_length k (n / 10)))
    ]

pub decimal_length : (n : ℕ) → length (decimal_of n) ≤ 20
decimal_length n = digits_length 20 n

-- a number below a power of ten has at most as many digits as the power
few_digits : (f k n : ℕ) → n < 10 ^ suc k → length (digits_of f n) ≤ suc k
unfolding digits_of
few_digits zero k n h = omega arith
few_digits (suc f) zero n h = rw (digits_one f n (omega arith)) (omega arith)
few_digits (suc f) (suc k) n h =
    elim (dec_lt n 10) [
      | yes l ↦ rw (digits_one f n l) (omega arith)
      | no g ↦ rw (digits_more f n (omega arith), length-append) (omega (arith, few_digits f k (n / 10) (tenth k n h)))
    ]

pub short_decimal : (k n : ℕ) → n < 10 ^ suc k → length (decimal_of n) ≤ suc k
short_decimal k n h = few_digits 20 k n h
