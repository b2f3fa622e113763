-- A range of actions means what the "or" of its actions means.
use Prim.Native.Nat.{ℕ, zero, suc, ◌+◌, ◌≤◌}
use mathlib.Core.Path.{◌≡◌, ap, ◌∙◌}
use mathlib.Core.Bool.{Bool, ◌&&◌, ◌||◌}
use native.Mathlib.Omega.{arith}
use native.Mathlib.Decide.{dec_lt, ℕ_discrete}
use lib.Dec.{leb, eqb}
use borrow.Author.Tests.{le-leb, lt-leb, eq-eqb, ne_eqb}
use Rattle.calculus.specs.Meaning.{meets}
use Rattle.calculus.specs.Ranges.{enumerated, RangeEnumerated}

module _ (x a : ℕ) where
  one_action_lem : (leb x a && leb a x) ≡ eqb a x
  one_action_lem = elim (ℕ_discrete a x) [
    | yes q ↦ simp (le-leb x a (omega arith), le-leb a x (omega arith), eq-eqb a x q)
    | no q ↦ elim (dec_lt a x) [
      | yes l ↦ simp (lt-leb x a l, ne_eqb a x q)
      | no l ↦ simp (le-leb x a (omega arith), lt-leb a x (omega arith), ne_eqb a x q)
    ]
  ]

  -- the first action of a range, and those after it
  first_action : (y : ℕ) → x ≤ y → (leb x a && leb a y) ≡ (eqb a x || (leb (suc x) a && leb a y))
  first_action y l = elim (ℕ_discrete a x) [
    | yes q ↦ simp (le-leb x a (omega arith), le-leb a y (omega arith), eq-eqb a x q)
    | no q ↦ elim (dec_lt a x) [
      | yes h ↦ simp (lt-leb x a h, ne_eqb a x q, lt-leb (suc x) a (omega arith))
      | no h ↦ simp (le-leb x a (omega arith), ne_eqb a x q, le-leb (suc x) a (omega arith))
    ]
  ]

pub range_enumerated : RangeEnumerated
unfolding meets enumerated
range_enumerated A x zero a = ap (λ (y : ℕ). leb x a && leb a y) (omega arith) ∙ one_action_lem x a
range_enumerated A x (suc more) a =
    first_action x a (x + suc more) (omega arith) ∙
    ap (λ (b : Bool). eqb a x || b) (ap (λ (y : ℕ). leb (suc x) a && leb a y) (omega arith) ∙ range_enumerated A (suc x) more a)
