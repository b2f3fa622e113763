-- Monotonicity and locality of the meanings: both are the order of the evaluated sets on a region.
use Prim.Native.Nat.{ℕ, ◌<◌}
use mathlib.Core.Path.{◌≡◌, sym, ◌∙◌}
use mathlib.Core.Bool.{Bool, true}
use mathlib.Core.Logic.{◌↔◌}
use mathlib.Core.List.{Memᴰ}
use Rattle.calculus.specs.Formulas.{Formula}
use Rattle.sheet.specs.TransitionSystem.{LabelledTransition, Plan, TransitionsInRange}
use Rattle.sheet.proofs.Checks.Bools.{together}
use Rattle.calculus.specs.Meaning.{Holds}
use Rattle.calculus.proofs.Table1.Sets.{Within, Below}
use Rattle.calculus.specs.Eval.{eval}
use Rattle.calculus.proofs.Table1.Monotone.{free, Region, Ordered, all_states, eval_ordered}
use Rattle.calculus.proofs.Table1.Decide.{holds_eval, eval_holds}

-- A set that no transition leaves is a region, taken among the states.
pub closed_region : {P : Plan} → TransitionsInRange P → {R : ℕ → Type 0} → ((t : LabelledTransition) → Memᴰ t P.transitions → R t.origin → R t.target)
    → Region P (λ s. (s < P.states) × R s)
closed_region w h = record { inside = λ s r. r.0; closed = λ t m r. (w.target_below t m, h t m r.1) }

-- On R, ρ and σ agree on the variables that are free in φ.
pub record Agree (R : ℕ → Type 0) (φ : Formula) (ρ σ : ℕ → ℕ → Bool) : Type 0 where
  pub at : (X : ℕ) → free X φ ≡ true → (t : ℕ) → R t → ρ X t ≡ σ X t

agree_ordered : {R : ℕ → Type 0} {φ : Formula} {ρ σ : ℕ → ℕ → Bool} → Agree R φ ρ σ → Ordered R φ ρ σ
agree_ordered h = record { at = λ X f. record { at = λ t r e. sym (h.at X f t r) ∙ e } }

agree_sym : {R : ℕ → Type 0} {φ : Formula} {ρ σ : ℕ → ℕ → Bool} → Agree R φ ρ σ → Agree R φ σ ρ
agree_sym h = record { at = λ X f t r. sym (h.at X f t r) }

module _ {P : Plan} (w : TransitionsInRange P) where
  holds_ordered : {R : ℕ → Type 0} → Region P R → (φ : Formula) {ρ σ : ℕ → ℕ → Bool} → Ordered R φ ρ σ → (s : ℕ) → R s → Holds P φ ρ s → Holds P φ σ s
  holds_ordered region φ {ρ} {σ} o s r h =
      let l = region.inside s r in eval_holds w φ σ s l ((eval_ordered region φ o).at s r (holds_eval w φ ρ s l h))

  pub monotone : (φ : Formula) {ρ σ : ℕ → ℕ → Bool} → ((X : ℕ) → Within (Below P.states) (ρ X) (σ X)) → (s : ℕ) → s < P.states → Holds P φ ρ s → Holds P φ σ s
  monotone φ h = holds_ordered (all_states w) φ (record { at = λ X f. h X })

  pub local_free : {R : ℕ → Type 0} → Region P R → (φ : Formula) {ρ σ : ℕ → ℕ → Bool} → Agree R φ ρ σ → (s : ℕ) → R s → Holds P φ ρ s ↔ Holds P φ σ s
  local_free region φ a s r = (holds_ordered region φ (agree_ordered a) s r, holds_ordered region φ (agree_ordered (agree_sym a)) s r)

-- The same for the evaluated sets, as an equation.
pub eval_local : {P : Plan} {R : ℕ → Type 0} → Region P R → (φ : Formula) {ρ σ : ℕ → ℕ → Bool} → Agree R φ ρ σ → (s : ℕ) → R s → eval P φ ρ s ≡ eval P φ σ s
eval_local {P} region φ {ρ} {σ} a s r =
    together (eval P φ ρ s) (eval P φ σ s) ((eval_ordered region φ (agree_ordered a)).at s r, (eval_ordered region φ (agree_ordered (agree_sym a))).at s r)
