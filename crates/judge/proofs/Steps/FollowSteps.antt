-- The cells that the transitions of a state lead to, one transition a turn.
use Rattle.std.proofs.Common.{◌≡◌, ℕ, zero, suc, ◌+◌, ◌-◌, ◌<◌, ◌≤◌, Bool, true, false, ◌&&◌, eqb, List, [], ◌∷◌, sym, refl, ap, ◌∙◌, add-one, arith, eq-eqb, ne_eqb}
use native.Mathlib.Decide.{dec_lt}
use Rattle.sheet.specs.Plan.{transition_count, origin, label, target}
use Rattle.calculus.specs.Meaning.{meets}
use Rattle.sheet.specs.TransitionSystem.{transitions_from}
use Rattle.calculus.specs.Decode.{action_formula}
use Rattle.judge.specs.Cells.{Cell, cell, following}

module _ (A : ℕ) (p a : List ℕ) (e child st : ℕ) where
  -- the cells of count transitions from i on
  abbrev cells : ℕ → ℕ → List Cell
  cells count i = following A a e child st (transitions_from p count i)

  -- the cells of all transitions from i on
  abbrev pub from : ℕ → List Cell
  from i = cells (transition_count p - i) i

  -- whether transition i leaves the state by an action that meets the formula
  abbrev taken : ℕ → Bool
  taken i = eqb (origin p i) st && meets A (action_formula a e) (label p i)

  step_miss : (count i : ℕ) → taken i ≡ false → cells (suc count) i ≡ cells count (suc i)
  unfolding following transitions_from
  step_miss count i q = rw q

  step_hit : (count i : ℕ) → taken i ≡ true → cells (suc count) i ≡ cell 0 child (target p i) ∷ cells count (suc i)
  unfolding following transitions_from
  step_hit count i q = rw q

  next_count : (i : ℕ) → i < transition_count p → transition_count p - i ≡ suc (transition_count p - (i + 1))
  next_count i h = omega arith

  from_miss : (i : ℕ) → i < transition_count p → taken i ≡ false → from i ≡ from (i + 1)
  from_miss i h q =
      ap (λ (c : ℕ). cells c i) (next_count i h) ∙
      (step_miss (transition_count p - (i + 1)) i q ∙ ap (λ (j : ℕ). cells (transition_count p - (i + 1)) j) (sym (add-one i)))

  from_other : (i : ℕ) → i < transition_count p → (origin p i ≡ st → ⊥) → from i ≡ from (i + 1)
  from_other i h q = from_miss i h (rw (ne_eqb (origin p i) st q))

  pub from_unmet : (i : ℕ) → i < transition_count p → origin p i ≡ st → meets A (action_formula a e) (label p i) ≡ false
      → from i ≡ from (i + 1)
  from_unmet i h o q = from_miss i h (rw (eq-eqb (origin p i) st o) q)

  pub from_met : (i : ℕ) → i < transition_count p → origin p i ≡ st → meets A (action_formula a e) (label p i) ≡ true
      → from i ≡ cell 0 child (target p i) ∷ from (i + 1)
  from_met i h o q =
      ap (λ (c : ℕ). cells c i) (next_count i h) ∙
      (step_hit (transition_count p - (i + 1)) i (rw (eq-eqb (origin p i) st o) q) ∙
      ap (λ (j : ℕ). cell 0 child (target p i) ∷ cells (transition_count p - (i + 1)) j) (sym (add-one i)))

  from_end : (i : ℕ) → transition_count p ≤ i → from i ≡ []
  unfolding following transitions_from
  from_end i h = let z : transition_count p - i ≡ 0 = omega arith in ap (λ (c : ℕ). cells c i) z

  pub from_past : (d i : ℕ) → transition_count p ≤ d + i → ((j : ℕ) → i ≤ j → j < transition_count p → origin p j ≡ st → ⊥) → from i ≡ []
  from_past zero i h none = from_end i (omega arith)
  from_past (suc d) i h none =
      elim (dec_lt i (transition_count p)) [
        | yes q ↦ from_other i q (none i (omega arith) q) ∙ from_past d (i + 1) (omega arith) (λ j l m. none j (omega arith) m)
        | no q ↦ from_end i (omega arith)
      ]

  pub from_first : (i : ℕ) → i ≤ transition_count p → ((j : ℕ) → j < i → origin p j ≡ st → ⊥) → from 0 ≡ from i
  from_first zero h none = refl
  from_first (suc i) h none =
      from_first i (omega arith) (λ j l. none j (omega arith)) ∙
      (from_other i (omega arith) (none i (omega arith)) ∙ ap from (add-one i))
