-- No more states are reachable than a plan can have: each has one number of steps.
use Prim.Native.Nat.{ℕ, zero, suc, ◌+◌, ◌≤◌}
use mathlib.Core.Path.{◌≡◌, refl, ap, ◌∙◌}
use mathlib.Core.Bool.{Bool, true, false}
use mathlib.Core.List.{◌∷◌}
use native.Mathlib.Omega.{arith}
use native.Mathlib.Decide.{dec_lt}
use lib.Dec.{eqb}
use lib.ListN.{length, get_or}
use borrow.Author.Tests.{ne_eqb}
use Rattle.std.specs.Prelude.{Option, None, Some}
use Rattle.std.specs.Option.{option_eq}
use Rattle.sheet.specs.Bytes.{pick}
use Rattle.rows.specs.Tables.{count}
use Rattle.rows.proofs.Tables.Counting.{one_if, count_suc, count_zero, count_none, count_one}
use Rattle.closest.specs.Steps.{passing}
use Rattle.closest.specs.Internal.Distances.{Distances}
use Rattle.closest.specs.Internal.Ordering.{has_steps}

module _ (d : Distances) where
  -- how many of k states from s on have fewer than n steps
  unfoldable pub steps_below : ℕ → ℕ → ℕ → ℕ
  steps_below zero k s = 0
  steps_below (suc n) k s = steps_below n k s + length (passing (has_steps d n) k s)

  none_below : (n s : ℕ) → steps_below n 0 s ≡ 0
  unfolding steps_below passing
  none_below zero s = refl
  none_below (suc n) s = omega (arith, none_below n s)

  abbrev here : ℕ → ℕ → Bool
  here s n = has_steps d n s

  -- the first state counts at one number of steps at most
  one_state : (n k s : ℕ) → steps_below n (suc k) s ≡ count n (here s) + steps_below n k (suc s)
  unfolding steps_below passing
  one_state zero k s = omega (arith, count_zero (here s))
  one_state (suc n) k s = go (has_steps d n s) refl (one_state n k s)
    where
      go : (b : Bool) → has_steps d n s ≡ b → steps_below n (suc k) s ≡ count n (here s) + steps_below n k (suc s)
          → steps_below n (suc k) s + length (pick b (s ∷ passing (has_steps d n) k (suc s)) (passing (has_steps d n) k (suc s)))
          ≡ count (suc n) (here s) + (steps_below n k (suc s) + length (passing (has_steps d n) k (suc s)))
      go true e h = omega (arith, h, count_suc n (here s) ∙ ap (λ (b : Bool). one_if b + count n (here s)) e)
      go false e h = omega (arith, h, count_suc n (here s) ∙ ap (λ (b : Bool). one_if b + count n (here s)) e)

  at_one : (n : ℕ) (o : Option ℕ) → count n (λ m. option_eq eqb o (Some m)) ≤ 1
  at_one n None = omega (arith, count_none n (λ m. option_eq eqb None (Some m)) (λ i l. refl))
  at_one n (Some m) = elim (dec_lt m n) [
    | yes h ↦ omega (arith, count_one n m h)
    | no h ↦ omega (arith, count_none n (eqb m) (λ i l. ne_eqb m i (λ e. omega arith)))
  ]

  pub few_below : (k n s : ℕ) → steps_below n k s ≤ k
  few_below zero n s = omega (arith, none_below n s)
  few_below (suc k) n s = omega (arith, one_state n k s, at_one n (get_or d s None), few_below k n (suc s))
