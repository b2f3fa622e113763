-- The step count that is computed is the one that is said, and it is computed exactly of the states that can be reached.
use Prim.Native.Nat.{ℕ, suc, ◌≤◌}
use mathlib.Core.Path.{◌≡◌, sym, ◌∙◌}
use mathlib.Core.Bool.{true, false, true≢false}
use mathlib.Core.List.{List}
use native.Mathlib.Omega.{arith}
use native.Mathlib.Decide.{dec_lt}
use borrow.Author.Tests.{leb-true, le-leb}
use Rattle.sheet.specs.Plan.{state_count}
use Rattle.sheet.specs.WellFormed.{WellFormedPlan}
use Rattle.sheet.proofs.Checks.Lowest.{lowest_below, lowest_found}
use Rattle.rows.proofs.Tables.Among.{false_if}
use Rattle.closest.specs.Steps.{Steps, at_steps}
use Rattle.closest.specs.Tracing.{step_count, is_reached}
use Rattle.closest.proofs.Ways.Within.{at_steps_lem, steps_at}

module _ (p : List ℕ) (t : ℕ) where
  low_count : step_count p t ≤ state_count p → Steps p t (step_count p t)
  unfolding step_count
  low_count l = at_steps_lem p (step_count p t) t (lowest_found (λ n. at_steps p n t) (suc (state_count p)) (omega arith))

  pub reached_counted : is_reached p t ≡ true → Steps p t (step_count p t)
  reached_counted e = low_count (leb-true (step_count p t) (state_count p) e)

  pub not_reached : ((n : ℕ) → Steps p t n → ⊥) → is_reached p t ≡ false
  not_reached none = false_if (is_reached p t) (λ e. none (step_count p t) (reached_counted e))

  module _ (kept : WellFormedPlan p) (n : ℕ) (c : Steps p t n) where
    count_low : step_count p t ≤ state_count p
    unfolding step_count
    count_low =
        let r = steps_at p kept t n c in
        elim (dec_lt (state_count p) (step_count p t)) [
          | yes l ↦ absurd (true≢false (sym r.1 ∙ lowest_below (λ m. at_steps p m t) (suc (state_count p)) n (omega (arith, r.0))))
          | no l ↦ omega arith
        ]

    pub is_reached_lem : is_reached p t ≡ true
    is_reached_lem = le-leb (step_count p t) (state_count p) count_low

    pub count_is : step_count p t ≡ n
    count_is = let d = low_count count_low in omega (arith, c.fewest (step_count p t) d.way, d.fewest n c.way)
