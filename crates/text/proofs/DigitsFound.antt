-- The digits of a number, found from the last to the first.
use Prim.Native.Nat.{ℕ, zero, suc, ◌-◌, ◌/◌, ◌%◌, ◌^◌, ◌≤◌, ◌<◌}
use mathlib.Core.Path.{◌≡◌, sym, ap, ◌∙◌, subst}
use mathlib.Core.List.{List, ◌∷◌, ◌++◌}
use native.Mathlib.Omega.{arith}
use lib.ListN.{length, take, drop, set, length-drop, length-set}
use lib.Seq.{append_snoc, drop_at, length-take-le, set_split, take_all}
use Rattle.text.specs.Decimal.{digit_of, digits_of, decimal_of}
use Rattle.text.proofs.Decimal.{digits_one, digits_more, tenth}

-- the digits behind index first are the last of n's, and those of rest are yet to find
pub record DigitsFound (n : ℕ) (digits : List ℕ) (first rest : ℕ) : Type 0 where
  pub length_is : length digits ≡ 20
  pub within : first < 20
  pub small : rest < 10 ^ suc first
  pub whole : digits_of (suc first) rest ++ drop (suc first) digits ≡ decimal_of n

drop_set : (l : List ℕ) (i v : ℕ) → i < length l → drop i (set l i v) ≡ v ∷ drop (suc i) l
drop_set l i v h = ap (drop i) (set_split l i v h) ∙ drop_at (take i l) (v ∷ drop (suc i) l) i (length-take-le i l (omega arith))

module _ {n : ℕ} {digits : List ℕ} where
  pub one_found : (first rest : ℕ) → DigitsFound n digits first rest → 10 ≤ rest → DigitsFound n (set digits first (digit_of (rest % 10))) (first - 1) (rest / 10)
  one_found zero rest f h = absurd (omega (arith, f.small))
  one_found (suc first) rest f h =
      let d = digit_of (rest % 10) in
      let found : DigitsFound n (set digits (suc first) d) first (rest / 10) = record {
        length_is = length-set digits (suc first) d ∙ f.length_is;
        within = omega (arith, f.within);
        small = tenth first rest f.small;
        whole = ap (λ (l : List ℕ). digits_of (suc first) (rest / 10) ++ l) (drop_set digits (suc first) d (omega (arith, f.length_is, f.within)))
            ∙ sym (append_snoc (digits_of (suc first) (rest / 10)) d (drop (suc (suc first)) digits))
            ∙ sym (ap (λ (l : List ℕ). l ++ drop (suc (suc first)) digits) (digits_more (suc first) rest h))
            ∙ f.whole;
      } in
      subst (λ (k : ℕ). DigitsFound n (set digits (suc first) d) k (rest / 10)) (omega arith) found

  -- with the first digit the part from its index on is the numeral
  pub all_found : (first rest : ℕ) → DigitsFound n digits first rest → rest < 10 → take (20 - first) (drop first (set digits first (digit_of rest))) ≡ decimal_of n
  all_found first rest f h =
      let e = length-drop first (set digits first (digit_of rest)) in
      let l = length-set digits first (digit_of rest) in
      take_all (20 - first) (drop first (set digits first (digit_of rest))) (omega (arith, e, l, f.length_is)) ∙
      (drop_set digits first (digit_of rest) (omega (arith, f.length_is, f.within)) ∙
      (sym (ap (λ (l : List ℕ). l ++ drop (suc first) digits) (digits_one first rest h)) ∙ f.whole))
