-- What an action entry of each kind must be.
use Prim.Native.Nat.{ℕ, ◌<◌, ◌≤◌}
use mathlib.Core.Path.{◌≡◌}
use mathlib.Core.Bool.{false, ◌&&◌}
use native.Mathlib.Omega.{arith}
use lib.Dec.{ltb, leb, eqb}
use borrow.Author.Tests.{lt-ltb, le-ltb, eq-eqb, ne_eqb}
use Rattle.sheet.specs.Actions.{entry_right}

module _ (actions e k x y : ℕ) where
  pub right_constant : k < 2 → entry_right actions e k x y ≡ (eqb x 0 && eqb y 0)
  unfolding entry_right
  right_constant h = simp (lt-ltb k 2 h)

  pub right_action : k ≡ 2 → entry_right actions e k x y ≡ (ltb x actions && eqb y 0)
  unfolding entry_right
  right_action h = simp (le-ltb k 2 (omega arith), eq-eqb k 2 h)

  pub right_pair : 3 ≤ k → k < 5 → entry_right actions e k x y ≡ (ltb x e && ltb y e)
  unfolding entry_right
  right_pair h l = simp (le-ltb k 2 (omega arith), ne_eqb k 2 (λ q. omega arith), lt-ltb k 5 l)

  pub right_not : k ≡ 5 → entry_right actions e k x y ≡ (ltb x e && eqb y 0)
  unfolding entry_right
  right_not h = simp (le-ltb k 2 (omega arith), ne_eqb k 2 (λ q. omega arith), le-ltb k 5 (omega arith), eq-eqb k 5 h)

  pub right_range : k ≡ 6 → entry_right actions e k x y ≡ (leb x y && ltb y actions)
  unfolding entry_right
  right_range h = simp (le-ltb k 2 (omega arith), ne_eqb k 2 (λ q. omega arith), le-ltb k 5 (omega arith), ne_eqb k 5 (λ q. omega arith), eq-eqb k 6 h)

  pub right_unknown : 6 < k → entry_right actions e k x y ≡ false
  unfolding entry_right
  right_unknown h =
      simp (le-ltb k 2 (omega arith), ne_eqb k 2 (λ q. omega arith), le-ltb k 5 (omega arith), ne_eqb k 5 (λ q. omega arith), ne_eqb k 6 (λ q. omega arith))
