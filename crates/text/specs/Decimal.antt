-- Numbers in decimal, as bytes.
use Rattle.std.specs.Prelude.{ℕ, zero, suc, ◌+◌, ◌/◌, ◌%◌, ◌^◌, ◌<◌, ◌≤◌, ◌≡◌, cond, List, [], ◌∷◌, ◌++◌, ltb}

-- the byte of a digit: `0` is 48
abbrev pub digit_of : ℕ → ℕ
digit_of d = 48 + d

-- a number in decimal, of at most as many digits as the first number says
unfoldable pub digits_of : ℕ → ℕ → List ℕ
digits_of zero n = []
digits_of (suc k) n = cond (ltb n 10) (digit_of n ∷ []) (digits_of k (n / 10) ++ (digit_of (n % 10) ∷ []))

-- a number of 64 bits in decimal, with no zero in front: it has at most 20 digits
abbrev pub decimal_of : ℕ → List ℕ
decimal_of n = digits_of 20 n

-- what `decimal_of` says, with no count of digits (proofs/Decimal.antt): a number below 10 is its one digit
abbrev pub OneDigit : Type 0
OneDigit = (n : ℕ) → n < 10 → decimal_of n ≡ digit_of n ∷ []

-- and any other number of 64 bits is what is left without its last digit, and that digit
abbrev pub LastDigit : Type 0
LastDigit = (n : ℕ) → 10 ≤ n → n < 2 ^ 64 → decimal_of n ≡ decimal_of (n / 10) ++ (digit_of (n % 10) ∷ [])
