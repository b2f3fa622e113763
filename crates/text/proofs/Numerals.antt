-- The digits of numbers of any size: exactly where the test says so, and the number is the one worked out; of 64 bits, as they are written.
use Prim.Native.Nat.{ℕ, zero, suc, ◌+◌, ◌-◌, ◌*◌, ◌/◌, ◌%◌, ◌^◌, ◌<◌, ◌≤◌}
use mathlib.Core.Path.{◌≡◌, refl, sym, ap, ap₂, subst, subst₂, ◌∙◌}
use mathlib.Core.Bool.{Bool, true, not, ◌&&◌, false≢true, and-eq-true_iff}
use mathlib.Core.List.{List, [], ◌∷◌, ◌++◌, append_assoc, append-nil}
use mathlib.Core.Logic.{◌≢◌}
use native.Mathlib.Omega.{arith}
use native.Mathlib.Decide.{dec_lt}
use lib.Dec.{eqb, leb}
use borrow.Author.Tests.{leb-true, le-leb, eqb-false, ne_eqb, not-true}
use Rattle.text.specs.Decimal.{digit_of, decimal_of}
use Rattle.text.specs.Numerals.{Decimal, one_digit, more_digits, is_digit, all_digits, is_decimal, decimal_from, DecimalsAgree, DecimalsExactly}
use Rattle.text.proofs.Decimal as written

parts : (a b : Bool) → (a && b) ≡ true → (a ≡ true) × (b ≡ true)
parts a b = (and-eq-true_iff a b).0

both : (a b : Bool) → a ≡ true → b ≡ true → (a && b) ≡ true
both a b p q = (and-eq-true_iff a b).1 (p, q)

pub digit_accepted : (d : ℕ) → d < 10 → is_digit (digit_of d) ≡ true
digit_accepted d h =
    both (leb 48 (digit_of d)) (leb (digit_of d) 57) (le-leb 48 (digit_of d) (omega arith)) (le-leb (digit_of d) 57 (omega arith))

pub digit_bounds : (b : ℕ) → is_digit b ≡ true → (48 ≤ b) × (b ≤ 57)
digit_bounds b q = let k = parts (leb 48 b) (leb b 57) q in (leb-true 48 b k.0, leb-true b 57 k.1)

-- ---- from a number's digits

digits_append : (ds es : List ℕ) → all_digits ds ≡ true → all_digits es ≡ true → all_digits (ds ++ es) ≡ true
unfolding all_digits
digits_append [] es p q = q
digits_append (b ∷ ds) es p q =
    let k = parts (is_digit b) (all_digits ds) p in both (is_digit b) (all_digits (ds ++ es)) k.0 (digits_append ds es k.1 q)

digits_one : (d : ℕ) → d < 10 → all_digits (digit_of d ∷ []) ≡ true
unfolding all_digits
digits_one d h = both (is_digit (digit_of d)) true (digit_accepted d h) refl

pub decimal_digits : {ds : List ℕ} {n : ℕ} → Decimal ds n → all_digits ds ≡ true
decimal_digits (one_digit d h) = digits_one d h
decimal_digits (more_digits {ds = ds} d r p h) = digits_append ds (digit_of d ∷ []) (decimal_digits r) (digits_one d h)

pub decimal_from_append : (n : ℕ) (ds es : List ℕ) → decimal_from n (ds ++ es) ≡ decimal_from (decimal_from n ds) es
unfolding decimal_from
decimal_from_append n [] es = refl
decimal_from_append n (b ∷ ds) es = decimal_from_append (10 * n + (b - 48)) ds es

pub decimal_value_lem : {ds : List ℕ} {n : ℕ} → Decimal ds n → decimal_from 0 ds ≡ n
unfolding decimal_from
decimal_value_lem (one_digit d h) = omega arith
decimal_value_lem (more_digits {ds = ds} {n = n} d r p h) =
    let before : decimal_from 0 ds ≡ n = decimal_value_lem r in
    decimal_from_append 0 ds (digit_of d ∷ []) ∙ rw before (omega arith)

-- the first digit of a number that is not 0
record Leading (ds : List ℕ) : Type 0 where
  first : ℕ
  others : List ℕ
  split : ds ≡ first ∷ others
  positive : first ≢ 48

leading : {ds : List ℕ} {n : ℕ} → Decimal ds n → 1 ≤ n → Leading ds
leading (one_digit d h) p = record { first = digit_of d; others = []; split = refl; positive = λ q. omega arith }
leading (more_digits {ds = ds} d r p h) q =
    let k = leading r p in
    record {
      first = k.first;
      others = k.others ++ digit_of d ∷ [];
      split = ap (λ (l : List ℕ). l ++ digit_of d ∷ []) k.split;
      positive = k.positive;
    }

-- digits with no zero in front
positive_digits : (b : ℕ) (ds : List ℕ) → b ≢ 48 → all_digits (b ∷ ds) ≡ true → is_decimal (b ∷ ds) ≡ true
unfolding all_digits
positive_digits b [] p q = (parts (is_digit b) true q).0
positive_digits b (c ∷ ds) p q = rw (ne_eqb b 48 p) q

pub decimal_accepted : {ds : List ℕ} {n : ℕ} → Decimal ds n → is_decimal ds ≡ true
decimal_accepted (one_digit d h) = digit_accepted d h
decimal_accepted (more_digits d r p h) =
    let whole = more_digits d r p h in
    let k = leading whole (omega arith) in
    subst (λ (l : List ℕ). is_decimal l ≡ true) (sym k.split)
    (positive_digits k.first k.others k.positive (subst (λ (l : List ℕ). all_digits l ≡ true) k.split (decimal_digits whole)))

-- ---- to a number

digit_of_lem : (b : ℕ) → is_digit b ≡ true → (digit_of (b - 48) ≡ b) × (b - 48 < 10)
digit_of_lem b q = let k = digit_bounds b q in (omega arith, omega arith)

-- the number is worked out from 0 on
first_digit : (b : ℕ) → is_digit b ≡ true → Decimal (b ∷ []) (10 * 0 + (b - 48))
first_digit b q =
    let k = digit_of_lem b q in
    let same : 10 * 0 + (b - 48) ≡ b - 48 = omega arith in
    rw same (subst (λ (x : ℕ). Decimal (x ∷ []) (b - 48)) k.0 (one_digit (b - 48) k.1))

next_digit : {ds : List ℕ} {n : ℕ} (b : ℕ) → Decimal ds n → 1 ≤ n → is_digit b ≡ true → Decimal (ds ++ b ∷ []) (10 * n + (b - 48))
next_digit {ds} {n} b r p q =
    let k = digit_of_lem b q in
    subst (λ (x : ℕ). Decimal (ds ++ x ∷ []) (10 * n + (b - 48))) k.0 (more_digits (b - 48) r p k.1)

next_digits : {ds : List ℕ} {n : ℕ} (es : List ℕ) → Decimal ds n → 1 ≤ n → all_digits es ≡ true → Decimal (ds ++ es) (decimal_from n es)
unfolding all_digits decimal_from
next_digits {ds} [] r p q = rw (append-nil ds) r
next_digits {ds} (b ∷ es) r p q =
    let k = parts (is_digit b) (all_digits es) q in
    rw (append_assoc ds (b ∷ []) es) at (next_digits {ds = ds ++ b ∷ []} es (next_digit b r p k.0) (omega arith) k.1)

pub accepted_decimal : (w : List ℕ) → is_decimal w ≡ true → Decimal w (decimal_from 0 w)
unfolding all_digits decimal_from
accepted_decimal [] q = absurd (false≢true q)
accepted_decimal (b ∷ []) q = first_digit b q
accepted_decimal (b ∷ c ∷ ds) q =
    let k = parts (not (eqb b 48)) (all_digits (b ∷ c ∷ ds)) q in
    let digits = parts (is_digit b) (all_digits (c ∷ ds)) k.1 in
    let positive = eqb-false b 48 (not-true (eqb b 48) k.0) in
    let bounds = digit_bounds b digits.0 in
    next_digits (c ∷ ds) (first_digit b digits.0) (omega arith) digits.1

pub decimals_exactly : DecimalsExactly
decimals_exactly ds n =
    (λ r. (decimal_accepted r, decimal_value_lem r), λ k. subst (Decimal ds) k.1 (accepted_decimal ds k.0))

-- ---- as they are written

-- at most k, so that the recursion ends
by_digits : (k n : ℕ) → n ≤ k → n < 2 ^ 64 → Decimal (decimal_of n) n
by_digits zero n l h = subst (λ (ds : List ℕ). Decimal ds n) (sym (written.one_digit n (omega arith))) (one_digit n (omega arith))
by_digits (suc k) n l h =
    elim (dec_lt n 10) [
      | yes less ↦ subst (λ (ds : List ℕ). Decimal ds n) (sym (written.one_digit n less)) (one_digit n less)
      | no more ↦
          let r = by_digits k (n / 10) (omega arith) (omega arith) in
          let m : 10 * (n / 10) + n % 10 ≡ n = omega arith in
          subst₂ Decimal (sym (written.last_digit n (omega arith) h)) m (more_digits (n % 10) r (omega arith) (omega arith))
    ]

read_back : {ds : List ℕ} {n : ℕ} → Decimal ds n → n < 2 ^ 64 → ds ≡ decimal_of n
read_back (one_digit d l) h = sym (written.one_digit d l)
read_back (more_digits {ds = ds} {n = n} d r p l) h =
    let q : (10 * n + d) / 10 ≡ n = omega arith in
    let m : (10 * n + d) % 10 ≡ d = omega arith in
    ap₂ (λ (es : List ℕ) (e : ℕ). es ++ digit_of e ∷ []) (read_back r (omega arith) ∙ ap decimal_of (sym q)) (sym m)
    ∙ sym (written.last_digit (10 * n + d) (omega arith) h)

pub decimals_agree : DecimalsAgree
decimals_agree n h ds = (λ r. read_back r h, λ q. subst (λ (es : List ℕ). Decimal es n) (sym q) (by_digits n n (omega arith) h))
