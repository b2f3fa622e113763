-- Induction on the rounds of a fixed point, for any property Q of states: nothing has to be decided.
use Prim.Native.Nat.{ℕ, zero, suc, ◌<◌}
use mathlib.Core.Path.{◌≡◌, refl, sym, ◌∙◌}
use mathlib.Core.Bool.{Bool, true, false≢true}
use Rattle.sheet.specs.TransitionSystem.{Plan, TransitionsInRange}
use Rattle.calculus.specs.Formulas.{Formula, least, greatest}
use Rattle.calculus.specs.Meaning.{Holds, bind}
use Rattle.calculus.specs.Eval.{eval, rounds, empty_set, full_set}
use Rattle.calculus.proofs.Table1.Tabulate.{tabulate_at}
use Rattle.calculus.proofs.Table1.Iterates.{image}
use Rattle.calculus.proofs.Table1.Decide.{holds_eval, eval_holds}

module _ {P : Plan} (w : TransitionsInRange P) (X : ℕ) (φ : Formula) (ρ : ℕ → ℕ → Bool) (Q : ℕ → Type 0) where
  -- If the states of φ have Q whenever those of the set for X do, the states of the least fixed point have Q.
  pub least_induct :
      ((U : ℕ → Bool) → ((t : ℕ) → t < P.states → U t ≡ true → Q t) → (t : ℕ) → t < P.states → Holds P φ (bind ρ X U) t → Q t)
      → (s : ℕ) → s < P.states → Holds P (least X φ) ρ s → Q s
  unfolding eval rounds
  least_induct h s l k = go P.states s l (holds_eval w (least X φ) ρ s l k)
    where
      go : (n t : ℕ) → t < P.states → rounds P.states (image P X φ ρ) n empty_set t ≡ true → Q t
      go zero t r e = absurd (false≢true e)
      go (suc n) t r e =
          let U = rounds P.states (image P X φ ρ) n empty_set in
          h U (go n) t r (eval_holds w φ (bind ρ X U) t r (sym (tabulate_at P.states (image P X φ ρ U) t r) ∙ e))

  -- If the states with Q are states of φ whenever they are in the set for X, they are states of the greatest fixed point.
  pub greatest_induct :
      ((U : ℕ → Bool) → ((t : ℕ) → t < P.states → Q t → U t ≡ true) → (t : ℕ) → t < P.states → Q t → Holds P φ (bind ρ X U) t)
      → (s : ℕ) → s < P.states → Q s → Holds P (greatest X φ) ρ s
  unfolding eval rounds
  greatest_induct h s l k = eval_holds w (greatest X φ) ρ s l (go P.states s l k)
    where
      go : (n t : ℕ) → t < P.states → Q t → rounds P.states (image P X φ ρ) n full_set t ≡ true
      go zero t r q = refl
      go (suc n) t r q =
          let U = rounds P.states (image P X φ ρ) n full_set in
          tabulate_at P.states (image P X φ ρ U) t r ∙ holds_eval w φ (bind ρ X U) t r (h U (go n) t r q)
