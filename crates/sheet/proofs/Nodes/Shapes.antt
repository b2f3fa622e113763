-- The kinds of nodes: the shape of each, and what is shown kind by kind.
use Prim.Native.Nat.{ℕ, ◌+◌, ◌<◌, ◌≤◌}
use mathlib.Core.Path.{◌≡◌}
use mathlib.Core.Logic.{◌⊎◌, inl, inr}
use native.Mathlib.Omega.{arith}
use native.Mathlib.Decide.{dec_lt}
use borrow.Author.Tests.{lt-ltb, le-ltb, ne_eqb}
use Rattle.sheet.specs.Rule.{shape_of, leaf, pair, modal, variable, binder, unknown}

pub shape_leaf : (k : ℕ) → k < 2 → shape_of k ≡ leaf
shape_leaf k h = simp (lt-ltb k 2 h)

pub shape_pair : (k : ℕ) → 2 ≤ k → k < 4 → shape_of k ≡ pair
shape_pair k h l = simp (le-ltb k 2 h, lt-ltb k 4 l)

pub shape_modal : (k : ℕ) → 4 ≤ k → k < 6 → shape_of k ≡ modal
shape_modal k h l = simp (le-ltb k 2 (omega arith), le-ltb k 4 h, lt-ltb k 6 l)

pub shape_variable : (k : ℕ) → k ≡ 6 → shape_of k ≡ variable
shape_variable k h = rw h

pub shape_binder : (k : ℕ) → 7 ≤ k → k < 9 → shape_of k ≡ binder
shape_binder k h l = simp (le-ltb k 2 (omega arith), le-ltb k 4 (omega arith), le-ltb k 6 (omega arith), ne_eqb k 6 (λ q. omega arith), lt-ltb k 9 l)

pub shape_unknown : (k : ℕ) → 9 ≤ k → shape_of k ≡ unknown
shape_unknown k h =
    simp (le-ltb k 2 (omega arith), le-ltb k 4 (omega arith), le-ltb k 6 (omega arith), ne_eqb k 6 (λ q. omega arith), le-ltb k 9 h)

-- a kind is one of two numbers exactly where it lies between them
pub ranged : (k a : ℕ) → (k ≡ a) ⊎ (k ≡ a + 1) → (a ≤ k) × (k < a + 2)
ranged k a (inl q) = omega arith
ranged k a (inr q) = omega arith

pub one_of : (k a : ℕ) → a ≤ k → k < a + 2 → (k ≡ a) ⊎ (k ≡ a + 1)
one_of k a h l = elim (dec_lt a k) [ yes q ↦ inr (omega arith) | no q ↦ inl (omega arith) ]

-- the six cases of a kind
pub kinds : {X : Type 0} (k : ℕ) → (k < 2 → X) → (2 ≤ k → k < 4 → X) → (4 ≤ k → k < 6 → X) → (k ≡ 6 → X) → (7 ≤ k → k < 9 → X) → (9 ≤ k → X) → X
kinds k a b c d e f =
    elim (dec_lt k 2) [
      | yes h ↦ a h
      | no h ↦ elim (dec_lt k 4) [
        | yes i ↦ b (omega arith) i
        | no i ↦ elim (dec_lt k 6) [
          | yes j ↦ c (omega arith) j
          | no j ↦ elim (dec_lt k 7) [
            | yes l ↦ d (omega arith)
            | no l ↦ elim (dec_lt k 9) [ yes m ↦ e (omega arith) m | no m ↦ f (omega arith) ]
          ]
        ]
      ]
    ]
