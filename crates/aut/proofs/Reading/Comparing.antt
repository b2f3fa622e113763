-- Digits are compared as the numbers whose digits they are.
use Prim.Native.Nat.{ℕ, ◌+◌, ◌-◌, ◌*◌, ◌<◌, ◌≤◌}
use mathlib.Core.Path.{◌≡◌, refl, sym, ap, ◌∙◌}
use mathlib.Core.Bool.{Bool, true, false, not, false≢true}
use mathlib.Core.List.{List, [], ◌∷◌}
use native.Mathlib.Omega.{arith}
use native.Mathlib.Decide.{dec_lt}
use lib.Dec.{eqb, ltb}
use lib.ListN.{length}
use borrow.Author.Tests.{eqb-false, not-true, ltb-true, ltb-false, lt-ltb, le-ltb}
use Rattle.text.specs.Numerals.{is_digit, all_digits, decimal_from, decimal_value}
use Rattle.text.proofs.Numerals.{digit_bounds, accepted_decimal, decimal_digits}
use Rattle.sheet.specs.Bytes.{pick}
use Rattle.sheet.proofs.Checks.Checks.{and_parts}
use Rattle.aut.specs.Internal.Digits.{lower_digits, below_digits}
use Rattle.aut.proofs.Reading.Pieces.{IsNumeral}

-- the first digit, and the others
digit_first : (d : ℕ) (ds : List ℕ) → all_digits (d ∷ ds) ≡ true → ((48 ≤ d) × (d ≤ 57)) × (all_digits ds ≡ true)
unfolding all_digits
digit_first d ds a = let k = and_parts (is_digit d) (all_digits ds) a in (digit_bounds d k.0, k.1)

-- ---- equally many digits

-- a lower number in front stays lower whatever digits follow
lower_front : (m n : ℕ) (ds es : List ℕ) → length ds ≡ length es → all_digits ds ≡ true → m < n → decimal_from m ds < decimal_from n es
unfolding decimal_from
lower_front m n [] [] q a h = h
lower_front m n [] (e ∷ es) q a h = absurd (omega arith)
lower_front m n (d ∷ ds) [] q a h = absurd (omega arith)
lower_front m n (d ∷ ds) (e ∷ es) q a h =
    let r = digit_first d ds a in
    lower_front (10 * m + (d - 48)) (10 * n + (e - 48)) ds es (omega arith) r.1 (omega arith)

-- after the same number
lower_is : (n : ℕ) (ds es : List ℕ) → length ds ≡ length es → all_digits ds ≡ true → all_digits es ≡ true
    → lower_digits ds es ≡ ltb (decimal_from n ds) (decimal_from n es)
unfolding decimal_from lower_digits
lower_is n [] [] q a b = sym (le-ltb n n (omega arith))
lower_is n [] (e ∷ es) q a b = absurd (omega arith)
lower_is n (d ∷ ds) [] q a b = absurd (omega arith)
lower_is n (d ∷ ds) (e ∷ es) q a b =
    go (ltb d e) refl (ltb e d) refl (lower_is (10 * n + (d - 48)) ds es (omega arith) x.1 y.1)
  where
    x : ((48 ≤ d) × (d ≤ 57)) × (all_digits ds ≡ true)
    x = digit_first d ds a

    y : ((48 ≤ e) × (e ≤ 57)) × (all_digits es ≡ true)
    y = digit_first e es b

    go : (p : Bool) → ltb d e ≡ p → (r : Bool) → ltb e d ≡ r
        → lower_digits ds es ≡ ltb (decimal_from (10 * n + (d - 48)) ds) (decimal_from (10 * n + (d - 48)) es)
        → pick p true (pick r false (lower_digits ds es))
        ≡ ltb (decimal_from (10 * n + (d - 48)) ds) (decimal_from (10 * n + (e - 48)) es)
    go true f r g k =
        let u = x.0 in
        let v = ltb-true d e f in
        sym (lt-ltb _ _ (lower_front (10 * n + (d - 48)) (10 * n + (e - 48)) ds es (omega arith) x.1 (omega arith)))
    go false f true g k =
        let u = y.0 in
        let v = ltb-true e d g in
        let w = lower_front (10 * n + (e - 48)) (10 * n + (d - 48)) es ds (omega arith) y.1 (omega arith) in
        sym (le-ltb (decimal_from (10 * n + (d - 48)) ds) (decimal_from (10 * n + (e - 48)) es) (omega arith))
    go false f false g k =
        let u = ltb-false d e f in
        let v = ltb-false e d g in
        let same : d ≡ e = omega arith in
        k ∙ ap (λ (j : ℕ). ltb (decimal_from (10 * n + (d - 48)) ds) (decimal_from (10 * n + (j - 48)) es)) same

-- ---- fewer digits

-- digits after a number that is not 0 are more than as many digits, or fewer, alone
shorter : (n : ℕ) (ds es : List ℕ) → 1 ≤ n → length ds ≤ length es → all_digits ds ≡ true → decimal_value ds < decimal_from n es
unfolding decimal_from
shorter n ds [] p h a = lower_front 0 n ds [] (omega arith) a (omega arith)
shorter n ds (e ∷ es) p h a =
    elim (dec_lt (length es) (length ds)) [
      | yes q ↦ lower_front 0 n ds (e ∷ es) (omega arith) a (omega arith)
      | no q ↦ shorter (10 * n + (e - 48)) ds es (omega arith) (omega arith) a
    ]

numeral_digits : (w : List ℕ) → IsNumeral w → all_digits w ≡ true
numeral_digits w q = decimal_digits (accepted_decimal w q)

fewer : (ds es : List ℕ) → IsNumeral ds → IsNumeral es → length ds < length es → decimal_value ds < decimal_value es
unfolding decimal_from
fewer [] es m n h = absurd (false≢true m)
fewer (d ∷ ds) [] m n h = absurd (false≢true n)
fewer (d ∷ ds) (e ∷ []) m n h = absurd (omega arith)
fewer (d ∷ ds) (e ∷ c ∷ es) m n h =
    let k = and_parts (not (eqb e 48)) (all_digits (e ∷ c ∷ es)) n in
    let r = digit_first e (c ∷ es) k.1 in
    let positive = eqb-false e 48 (not-true (eqb e 48) k.0) in
    shorter (10 * 0 + (e - 48)) (d ∷ ds) (c ∷ es) (omega arith) (omega arith) (numeral_digits (d ∷ ds) m)

pub below_is : (ds es : List ℕ) → IsNumeral ds → IsNumeral es → below_digits ds es ≡ ltb (decimal_value ds) (decimal_value es)
below_is ds es m n = go (ltb (length ds) (length es)) refl (ltb (length es) (length ds)) refl
  where
    go : (p : Bool) → ltb (length ds) (length es) ≡ p → (q : Bool) → ltb (length es) (length ds) ≡ q
        → pick p true (pick q false (lower_digits ds es)) ≡ ltb (decimal_value ds) (decimal_value es)
    go true e q f = sym (lt-ltb _ _ (fewer ds es m n (ltb-true _ _ e)))
    go false e true f =
        let z = fewer es ds n m (ltb-true _ _ f) in
        sym (le-ltb (decimal_value ds) (decimal_value es) (omega arith))
    go false e false f =
        let x = ltb-false (length ds) (length es) e in
        let y = ltb-false (length es) (length ds) f in
        lower_is 0 ds es (omega arith) (numeral_digits ds m) (numeral_digits es n)
