-- Tabulating changes no value below S.
use Prim.Native.Nat.{ℕ, zero, suc, ◌<◌}
use mathlib.Core.Path.{◌≡◌, refl}
use mathlib.Core.Bool.{Bool}
use native.Mathlib.Omega.{arith}
use native.Mathlib.Nat.{le_of_suc-le-suc}
use Rattle.calculus.specs.Eval.{values_below, tabulate}

pub tabulate_at : (S : ℕ) (U : ℕ → Bool) (t : ℕ) → t < S → tabulate S U t ≡ U t
unfolding tabulate values_below
tabulate_at zero U t h = absurd (omega arith)
tabulate_at (suc S) U zero h = refl
tabulate_at (suc S) U (suc t) h = tabulate_at S (λ x. U (suc x)) t (le_of_suc-le-suc h)
