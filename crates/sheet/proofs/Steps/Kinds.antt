-- The number of a kind that is one of two, as an arm of a `match` on kinds knows it.
use Prim.Native.Nat.{ℕ, ◌≤◌}
use mathlib.Core.Path.{◌≡◌, sym, ap, ◌∙◌}
use mathlib.Core.Logic.{◌⊎◌, inl, inr}
use native.Mathlib.Omega.{arith}

pub between_kinds : {K : Type 0} (number : K → ℕ) (x a b : K) (k : ℕ) → number x ≡ k → number a ≤ number b → (x ≡ a) ⊎ (x ≡ b)
    → (number a ≤ k) × (k ≤ number b)
between_kinds number x a b k e h (inl f) = let q : k ≡ number a = sym e ∙ ap number f in (omega arith, omega arith)
between_kinds number x a b k e h (inr f) = let q : k ≡ number b = sym e ∙ ap number f in (omega arith, omega arith)
