-- Numbers in decimal, of any size: which bytes are the digits of which number.
use Rattle.std.specs.Prelude.{ℕ, ◌+◌, ◌-◌, ◌*◌, ◌^◌, ◌<◌, ◌≤◌, ◌≡◌, Bool, true, false, not, ◌&&◌, List, [], ◌∷◌, ◌++◌, ◌↔◌, eqb, leb}
use Rattle.text.specs.Decimal.{digit_of, decimal_of}

-- Document 02 (e): "decimal action numbers without leading zeros"; (h): "numbers have no leading zeros". The digits of a number: a digit
-- alone, 0 among them; a further digit only after a number that is not 0.
pub data Decimal : List ℕ → ℕ → Type 0 where
  one_digit : (d : ℕ) → d < 10 → Decimal (digit_of d ∷ []) d
  more_digits : {ds : List ℕ} {n : ℕ} (d : ℕ) → Decimal ds n → 1 ≤ n → d < 10 → Decimal (ds ++ digit_of d ∷ []) (10 * n + d)

-- The digits of a number of 64 bits are those that `decimal_of` writes. Shown by decimals_agree of proofs/Numerals.antt.
abbrev pub DecimalsAgree : Type 0
DecimalsAgree = (n : ℕ) → n < 2 ^ 64 → (ds : List ℕ) → Decimal ds n ↔ (ds ≡ decimal_of n)

-- ---- worked out

-- `0` to `9`
abbrev pub is_digit : ℕ → Bool
is_digit b = leb 48 b && leb b 57

unfoldable pub all_digits : List ℕ → Bool
all_digits [] = true
all_digits (b ∷ ds) = is_digit b && all_digits ds

-- digits, with no zero in front of others
abbrev pub is_decimal : List ℕ → Bool
is_decimal [] = false
is_decimal (b ∷ []) = is_digit b
is_decimal (b ∷ c ∷ ds) = not (eqb b 48) && all_digits (b ∷ c ∷ ds)

-- the number that the digits of n and then these say
unfoldable pub decimal_from : ℕ → List ℕ → ℕ
decimal_from n [] = n
decimal_from n (b ∷ ds) = decimal_from (10 * n + (b - 48)) ds

-- the number that digits say
abbrev pub decimal_value : List ℕ → ℕ
decimal_value ds = decimal_from 0 ds

-- Bytes are the digits of a number exactly where the test says so and the number is the one worked out. Shown by decimals_exactly there.
abbrev pub DecimalsExactly : Type 0
DecimalsExactly = (ds : List ℕ) (n : ℕ) → Decimal ds n ↔ ((is_decimal ds ≡ true) × (decimal_value ds ≡ n))
