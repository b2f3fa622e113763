-- The fixed points that the evaluator reaches: S rounds from the empty set give the least fixed point of a monotone function on the sets of states,
-- S rounds from the full set the greatest.
use Prim.Native.Nat.{ℕ, zero, suc}
use mathlib.Core.Path.{sym, ◌∙◌}
use mathlib.Core.Bool.{Bool}
use Rattle.calculus.specs.Formulas.{Formula, least, greatest}
use Rattle.sheet.specs.TransitionSystem.{Plan, TransitionsInRange}
use Rattle.calculus.specs.Meaning.{bind}
use Rattle.calculus.proofs.Table1.Sets.{Within, Below, within_refl, within_trans, empty_within, within_full, settles, settles_down}
use Rattle.calculus.specs.Eval.{empty_set, full_set, eval, rounds}
use Rattle.calculus.proofs.Table1.Tabulate.{tabulate_at}
use Rattle.calculus.proofs.Table1.Monotone.{all_states, bind_ordered, eval_ordered}

module _ (S : ℕ) (F : (ℕ → Bool) → ℕ → Bool) where
  -- A round is F, below S.
  round_in : (n : ℕ) (U : ℕ → Bool) → Within (Below S) (F (rounds S F n U)) (rounds S F (suc n) U)
  unfolding rounds
  round_in n U = record { at = λ t r e. tabulate_at S (F (rounds S F n U)) t r ∙ e }

  round_out : (n : ℕ) (U : ℕ → Bool) → Within (Below S) (rounds S F (suc n) U) (F (rounds S F n U))
  unfolding rounds
  round_out n U = record { at = λ t r e. sym (tabulate_at S (F (rounds S F n U)) t r) ∙ e }

module _ (S : ℕ) (F : (ℕ → Bool) → ℕ → Bool) (monotone : (U W : ℕ → Bool) → Within (Below S) U W → Within (Below S) (F U) (F W)) where
  step : (U : ℕ → Bool) (m n : ℕ) → Within (Below S) (rounds S F m U) (rounds S F n U) → Within (Below S) (rounds S F (suc m) U) (rounds S F (suc n) U)
  step U m n h = within_trans (round_out S F m U) (within_trans (monotone _ _ h) (round_in S F n U))

  rise : (n : ℕ) → Within (Below S) (rounds S F n empty_set) (rounds S F (suc n) empty_set)
  unfolding rounds
  rise zero = empty_within
  rise (suc n) = step empty_set n (suc n) (rise n)

  fall : (n : ℕ) → Within (Below S) (rounds S F (suc n) full_set) (rounds S F n full_set)
  unfolding rounds
  fall zero = within_full
  fall (suc n) = step full_set (suc n) n (fall n)

  lowest_closed : Within (Below S) (F (rounds S F S empty_set)) (rounds S F S empty_set)
  lowest_closed = within_trans (round_in S F S empty_set) (settles S (λ n. rounds S F n empty_set) (record { rise = rise; still = λ n h. step empty_set (suc n) n h }))

  highest_open : Within (Below S) (rounds S F S full_set) (F (rounds S F S full_set))
  highest_open = within_trans (settles_down S (λ n. rounds S F n full_set) (record { fall = fall; still = λ n h. step full_set n (suc n) h })) (round_out S F S full_set)

  rounds_below : {W : ℕ → Bool} → Within (Below S) (F W) W → (n : ℕ) → Within (Below S) (rounds S F n empty_set) W
  unfolding rounds
  rounds_below h zero = empty_within
  rounds_below h (suc n) = within_trans (round_out S F n empty_set) (within_trans (monotone _ _ (rounds_below h n)) h)

  rounds_above : {W : ℕ → Bool} → Within (Below S) W (F W) → (n : ℕ) → Within (Below S) W (rounds S F n full_set)
  unfolding rounds
  rounds_above h zero = within_full
  rounds_above h (suc n) = within_trans h (within_trans (monotone _ _ (rounds_above h n)) (round_in S F n full_set))

-- What the body φ makes of a set U for X.
abbrev pub image : Plan → ℕ → Formula → (ℕ → ℕ → Bool) → (ℕ → Bool) → ℕ → Bool
image P X φ ρ U = eval P φ (bind ρ X U)

module _ {P : Plan} (w : TransitionsInRange P) (X : ℕ) (φ : Formula) (ρ : ℕ → ℕ → Bool) where
  pub image_monotone : (U W : ℕ → Bool) → Within (Below P.states) U W → Within (Below P.states) (image P X φ ρ U) (image P X φ ρ W)
  image_monotone U W h = eval_ordered (all_states w) φ (bind_ordered X (λ Y f. within_refl) h)

  -- The evaluated least fixed point contains its image, and is contained in each set that contains its own image.
  pub least_closed : Within (Below P.states) (image P X φ ρ (eval P (least X φ) ρ)) (eval P (least X φ) ρ)
  unfolding eval
  least_closed = lowest_closed P.states (image P X φ ρ) image_monotone

  pub least_within : {U : ℕ → Bool} → Within (Below P.states) (image P X φ ρ U) U → Within (Below P.states) (eval P (least X φ) ρ) U
  unfolding eval
  least_within h = rounds_below P.states (image P X φ ρ) image_monotone h P.states

  -- The same for the greatest, the other way round.
  pub greatest_open : Within (Below P.states) (eval P (greatest X φ) ρ) (image P X φ ρ (eval P (greatest X φ) ρ))
  unfolding eval
  greatest_open = highest_open P.states (image P X φ ρ) image_monotone

  pub within_greatest : {U : ℕ → Bool} → Within (Below P.states) U (image P X φ ρ U) → Within (Below P.states) U (eval P (greatest X φ) ρ)
  unfolding eval
  within_greatest h = rounds_above P.states (image P X φ ρ) image_monotone h P.states
