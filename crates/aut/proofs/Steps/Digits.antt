-- Digits compared, and the number that they say.
use Rattle.std.proofs.Common.{◌≡◌, ℕ, ◌+◌, ◌-◌, ◌*◌, ◌^◌, ◌<◌, ◌≤◌, min, Bool, Some, List, [], ◌∷◌, length, get_or, drop, refl, sym, ap, ◌∙◌, arith}
use native.Mathlib.Numerals.{add-one}
use native.Mathlib.Nat.{min-eq_left, min-eq_right}
use native.Mathlib.Decide.{dec_lt}
use lib.ListN.{drop_of_length-le}
use lib.Seq.{drop-cons}
use borrow.Author.Tests.{le-ltb}
use Rattle.std.specs.Ordering.{nat_cmp, is_lt, is_some_and}
use Rattle.std.specs.Cmp.Lexicographic.{slice_partial_cmp}
use Rattle.std.proofs.lemmas.Cmp.{same_from_slice_cmp_tested}
use Rattle.std.proofs.lemmas.Bool.Decides.{nat_tests}
use Rattle.text.specs.Numerals.{decimal_from}
use Rattle.aut.specs.Internal.Digits.{lower_digits, below_digits}

-- ---- compared

lower_is : (ds es : List ℕ) (r : Bool) → r ≡ is_some_and is_lt (slice_partial_cmp (λ x y. Some (nat_cmp x y)) ds es) → r ≡ lower_digits ds es
unfolding lower_digits
lower_is =
    same_from_slice_cmp_tested nat_cmp is_lt lower_digits refl (λ _ _. refl) (λ _ _. refl) (λ x y xs ys o h. grind (arith, nat_tests))

-- as many digits as the others
pub below_same : (ds es : List ℕ) (r : Bool) → length ds ≡ length es
    → r ≡ is_some_and is_lt (slice_partial_cmp (λ x y. Some (nat_cmp x y)) ds es) → r ≡ below_digits ds es
below_same ds es r n h =
    lower_is ds es r h ∙ sym (rw (le-ltb (length ds) (length es) (omega arith), le-ltb (length es) (length ds) (omega arith)) refl)

-- ---- the number

value_least : (v : ℕ) (ds : List ℕ) → v ≤ decimal_from v ds
unfolding decimal_from
value_least v [] = omega arith
value_least v (d ∷ ds) = omega (arith, value_least (10 * v + (d - 48)) ds)

module _ (ds : List ℕ) (bound v i : ℕ) where
  -- one digit more: what is above the bound stays so
  pub value_turn : i < length ds → bound < 2 ^ 64 → v ≤ bound → {a b n w : ℕ}
      → a ≡ min (v * 10) (2 ^ 64 - 1) → b ≡ get_or ds i 0 - 48 → n ≡ min (a + b) (2 ^ 64 - 1) → w ≡ min n bound
      → min (decimal_from w (drop (i + 1) ds)) bound ≡ min (decimal_from v (drop i ds)) bound
  unfolding decimal_from
  value_turn h k l {w = w} a b c e =
      let d = get_or ds i 0 in
      let m = 10 * v + (d - 48) in
      let s = value_least m (drop (i + 1) ds) in
      let t : decimal_from v (drop i ds) ≡ decimal_from m (drop (i + 1) ds) =
      ap (decimal_from v) (drop-cons ds i 0 h) ∙ ap (λ (j : ℕ). decimal_from m (drop j ds)) (sym (add-one i)) in
      elim (dec_lt bound m) [
        | yes o ↦
            let q : w ≡ bound = omega arith in
            let u = value_least w (drop (i + 1) ds) in
            min-eq_right (omega arith) ∙ sym (min-eq_right (omega arith))
        | no o ↦
            let q : w ≡ m = omega arith in
            ap (λ (x : ℕ). min x bound) (ap (λ (x : ℕ). decimal_from x (drop (i + 1) ds)) q ∙ sym t)
      ]

  -- the bound is reached: what the digits left say is no less
  pub value_full : v ≡ bound → v ≡ min (decimal_from v (drop i ds)) bound
  value_full e = let l = value_least v (drop i ds) in e ∙ sym (min-eq_right (omega (arith, l, e)))

  pub value_end : length ds ≤ i → v ≤ bound → v ≡ min (decimal_from v (drop i ds)) bound
  unfolding decimal_from
  value_end h l = sym (ap (λ (s : List ℕ). min (decimal_from v s) bound) (drop_of_length-le ds h) ∙ min-eq_left l)
