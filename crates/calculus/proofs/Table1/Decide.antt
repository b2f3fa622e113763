-- The evaluator computes Table 1's meaning, for any number of states.
use Prim.Native.Nat.{ℕ, ◌<◌}
use mathlib.Core.Path.{◌≡◌, refl}
use mathlib.Core.Bool.{Bool, true, and-eq-true_iff, false≢true}
use mathlib.Core.Logic.{◌↔◌, ⊎_map}
use Rattle.calculus.specs.Formulas.{Formula, false_formula, true_formula, disj, conj, some, every, var, least, greatest}
use Rattle.sheet.specs.TransitionSystem.{Plan, TransitionsInRange}
use Rattle.calculus.specs.Meaning.{Holds, bind}
use Rattle.calculus.specs.Eval.{eval, EvalMeaning}
use Rattle.calculus.proofs.Table1.Modal.{or-true, some_true, every_true}
use Rattle.calculus.proofs.Table1.Iterates.{least_closed, least_within, greatest_open, within_greatest}

module _ {P : Plan} (w : TransitionsInRange P) where
  pub holds_eval : (φ : Formula) (ρ : ℕ → ℕ → Bool) (s : ℕ) → s < P.states → Holds P φ ρ s → eval P φ ρ s ≡ true
  unfolding eval Holds
  holds_eval false_formula ρ s l h = absurd h
  holds_eval true_formula ρ s l h = refl
  holds_eval (disj φ ψ) ρ s l h = (or-true (eval P φ ρ s) (eval P ψ ρ s)).1 (⊎_map (holds_eval φ ρ s l) (holds_eval ψ ρ s l) h)
  holds_eval (conj φ ψ) ρ s l h = (and-eq-true_iff (eval P φ ρ s) (eval P ψ ρ s)).1 (holds_eval φ ρ s l h.0, holds_eval ψ ρ s l h.1)
  holds_eval (some α φ) ρ s l h =
      (some_true P α s (eval P φ ρ)).1 (h.0, h.1, h.2, h.3, holds_eval φ ρ h.0.target (w.target_below h.0 h.1) h.4)
  holds_eval (every α φ) ρ s l h = (every_true P α s (eval P φ ρ)).1 (λ t m o a. holds_eval φ ρ t.target (w.target_below t m) (h t m o a))
  holds_eval (var X) ρ s l h = h
  holds_eval (least X φ) ρ s l h =
      h (eval P (least X φ) ρ) (λ t r k. (least_closed w X φ ρ).at t r (holds_eval φ (bind ρ X (eval P (least X φ) ρ)) t r k))
  holds_eval (greatest X φ) ρ s l h =
      (within_greatest w X φ ρ (record { at = λ t r u. holds_eval φ (bind ρ X h.0) t r (h.1 t r u) })).at s l h.2

  pub eval_holds : (φ : Formula) (ρ : ℕ → ℕ → Bool) (s : ℕ) → s < P.states → eval P φ ρ s ≡ true → Holds P φ ρ s
  unfolding eval Holds
  eval_holds false_formula ρ s l e = absurd (false≢true e)
  eval_holds true_formula ρ s l e = tt
  eval_holds (disj φ ψ) ρ s l e = ⊎_map (eval_holds φ ρ s l) (eval_holds ψ ρ s l) ((or-true (eval P φ ρ s) (eval P ψ ρ s)).0 e)
  eval_holds (conj φ ψ) ρ s l e = let k = (and-eq-true_iff (eval P φ ρ s) (eval P ψ ρ s)).0 e in (eval_holds φ ρ s l k.0, eval_holds ψ ρ s l k.1)
  eval_holds (some α φ) ρ s l e = let k = (some_true P α s (eval P φ ρ)).0 e in
      (k.0, k.1, k.2, k.3, eval_holds φ ρ k.0.target (w.target_below k.0 k.1) k.4)
  eval_holds (every α φ) ρ s l e = λ t m o a. eval_holds φ ρ t.target (w.target_below t m) ((every_true P α s (eval P φ ρ)).0 e t m o a)
  eval_holds (var X) ρ s l e = e
  eval_holds (least X φ) ρ s l e = λ U h. (least_within w X φ ρ (record { at = λ t r u. h t r (eval_holds φ (bind ρ X U) t r u) })).at s l e
  eval_holds (greatest X φ) ρ s l e = (eval P (greatest X φ) ρ, λ t r u. eval_holds φ (bind ρ X (eval P (greatest X φ) ρ)) t r ((greatest_open w X φ ρ).at t r u), e)

  pub decide : (φ : Formula) (ρ : ℕ → ℕ → Bool) (s : ℕ) → s < P.states → Holds P φ ρ s ↔ (eval P φ ρ s ≡ true)
  decide φ ρ s l = (holds_eval φ ρ s l, eval_holds φ ρ s l)

pub eval_meaning : EvalMeaning
eval_meaning P w φ ρ s l = (eval_holds w φ ρ s l, holds_eval w φ ρ s l)
