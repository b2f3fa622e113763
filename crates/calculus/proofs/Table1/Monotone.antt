-- On a region closed under transitions, larger contexts give larger meanings. Monotonicity is this on all states, locality is this both ways.
use Prim.Native.Nat.{ℕ, zero, suc, ◌<◌}
use mathlib.Core.Path.{◌≡◌, refl, sym, ◌∙◌, ap, subst}
use mathlib.Core.Bool.{Bool, true, false, not, ◌&&◌, ◌||◌, and-eq-true_iff, cond}
use mathlib.Core.Logic.{inl, inr, ⊎_map, ◌≢◌}
use mathlib.Core.List.{Memᴰ}
use lib.Dec.{eqb}
use borrow.Author.Tests.{eq-eqb, ne_eqb}
use Rattle.calculus.specs.Formulas.{Formula, false_formula, true_formula, disj, conj, some, every, var, least, greatest}
use Rattle.sheet.specs.TransitionSystem.{LabelledTransition, Plan, TransitionsInRange}
use Rattle.calculus.specs.Meaning.{bind}
use Rattle.calculus.proofs.Table1.Sets.{Within, Below, within_refl}
use Rattle.calculus.specs.Eval.{eval, rounds}
use Rattle.calculus.proofs.Table1.Tabulate.{tabulate_at}
use Rattle.calculus.proofs.Table1.Modal.{or-true, some_true, every_true}

-- Definition 1: the variable Y is free in φ.
unfoldable pub free : ℕ → Formula → Bool
free Y false_formula = false
free Y true_formula = false
free Y (disj φ ψ) = free Y φ || free Y ψ
free Y (conj φ ψ) = free Y φ || free Y ψ
free Y (some α φ) = free Y φ
free Y (every α φ) = free Y φ
free Y (var X) = eqb Y X
free Y (least X φ) = free Y φ && not (eqb Y X)
free Y (greatest X φ) = free Y φ && not (eqb Y X)

-- States from which no transition leads out of R.
pub record Region (P : Plan) (R : ℕ → Type 0) : Type 0 where
  pub inside : (s : ℕ) → R s → s < P.states
  pub closed : (t : LabelledTransition) → Memᴰ t P.transitions → R t.origin → R t.target

pub all_states : {P : Plan} → TransitionsInRange P → Region P (Below P.states)
all_states w = record { inside = λ s r. r; closed = λ t m r. w.target_below t m }

-- On R, ρ gives each variable that is free in φ less than σ does.
pub record Ordered (R : ℕ → Type 0) (φ : Formula) (ρ σ : ℕ → ℕ → Bool) : Type 0 where
  pub at : (X : ℕ) → free X φ ≡ true → Within R (ρ X) (σ X)

-- ρ[U/X] at X, and at another variable.
pub bind_same : (ρ : ℕ → ℕ → Bool) (X : ℕ) (U : ℕ → Bool) → bind ρ X U X ≡ U
bind_same ρ X U = ap (λ (b : Bool). cond b U (ρ X)) (eq-eqb X X refl)

pub bind_other : (ρ : ℕ → ℕ → Bool) (X : ℕ) (U : ℕ → Bool) (Y : ℕ) → Y ≢ X → bind ρ X U Y ≡ ρ Y
bind_other ρ X U Y n = ap (λ (b : Bool). cond b U (ρ Y)) (ne_eqb Y X n)

pub bind_ordered : {R : ℕ → Type 0} {φ : Formula} {ρ σ : ℕ → ℕ → Bool} (X : ℕ) {U W : ℕ → Bool}
    → ((Y : ℕ) → (free Y φ && not (eqb Y X)) ≡ true → Within R (ρ Y) (σ Y)) → Within R U W → Ordered R φ (bind ρ X U) (bind σ X W)
bind_ordered {R} {φ} {ρ} {σ} X {U} {W} h w = record { at = λ Y f. go Y f (eqb Y X) refl }
  where
    go : (Y : ℕ) → free Y φ ≡ true → (b : Bool) → eqb Y X ≡ b → Within R (cond b U (ρ Y)) (cond b W (σ Y))
    go Y f true e = w
    go Y f false e = h Y ((and-eq-true_iff (free Y φ) (not (eqb Y X))).1 (f, ap not e))

module _ {P : Plan} {R : ℕ → Type 0} (region : Region P R) where
  onward : {s : ℕ} {t : LabelledTransition} → R s → Memᴰ t P.transitions → t.origin ≡ s → R t.target
  onward r m o = region.closed _ m (subst R (sym o) r)

  rounds_ordered : {F G : (ℕ → Bool) → ℕ → Bool} → ((U W : ℕ → Bool) → Within R U W → Within R (F U) (G W))
      → {U W : ℕ → Bool} → Within R U W → (n : ℕ) → Within R (rounds P.states F n U) (rounds P.states G n W)
  unfolding rounds
  rounds_ordered h w zero = w
  rounds_ordered {F} {G} h {U} {W} w (suc n) = record {
    at = λ t r e.
        let e' = sym (tabulate_at P.states (F (rounds P.states F n U)) t (region.inside t r)) ∙ e in
        tabulate_at P.states (G (rounds P.states G n W)) t (region.inside t r) ∙ (h _ _ (rounds_ordered h w n)).at t r e';
  }

  pub eval_ordered : (φ : Formula) {ρ σ : ℕ → ℕ → Bool} → Ordered R φ ρ σ → Within R (eval P φ ρ) (eval P φ σ)
  unfolding eval free
  eval_ordered false_formula h = within_refl
  eval_ordered true_formula h = within_refl
  eval_ordered (disj φ ψ) {ρ} {σ} h =
      let l = eval_ordered φ {ρ = ρ} {σ = σ} (record { at = λ X f. h.at X ((or-true (free X φ) (free X ψ)).1 (inl f)) }) in
      let r = eval_ordered ψ {ρ = ρ} {σ = σ} (record { at = λ X f. h.at X ((or-true (free X φ) (free X ψ)).1 (inr f)) }) in
      record { at = λ s i e. (or-true (eval P φ σ s) (eval P ψ σ s)).1 (⊎_map (l.at s i) (r.at s i) ((or-true (eval P φ ρ s) (eval P ψ ρ s)).0 e)) }
  eval_ordered (conj φ ψ) {ρ} {σ} h =
      let l = eval_ordered φ {ρ = ρ} {σ = σ} (record { at = λ X f. h.at X ((or-true (free X φ) (free X ψ)).1 (inl f)) }) in
      let r = eval_ordered ψ {ρ = ρ} {σ = σ} (record { at = λ X f. h.at X ((or-true (free X φ) (free X ψ)).1 (inr f)) }) in
      record {
        at = λ s i e. let k = (and-eq-true_iff (eval P φ ρ s) (eval P ψ ρ s)).0 e in
            (and-eq-true_iff (eval P φ σ s) (eval P ψ σ s)).1 (l.at s i k.0, r.at s i k.1);
      }
  eval_ordered (some α φ) {ρ} {σ} h =
      let k = eval_ordered φ {ρ = ρ} {σ = σ} (record { at = h.at }) in
      record {
        at = λ s i e. let r = (some_true P α s (eval P φ ρ)).0 e in
            (some_true P α s (eval P φ σ)).1 (r.0, r.1, r.2, r.3, k.at r.0.target (onward i r.1 r.2) r.4);
      }
  eval_ordered (every α φ) {ρ} {σ} h =
      let k = eval_ordered φ {ρ = ρ} {σ = σ} (record { at = h.at }) in
      record { at = λ s i e. (every_true P α s (eval P φ σ)).1 (λ t m o a. k.at t.target (onward i m o) ((every_true P α s (eval P φ ρ)).0 e t m o a)) }
  eval_ordered (var X) h = h.at X (eq-eqb X X refl)
  eval_ordered (least X φ) h = rounds_ordered (λ U W w. eval_ordered φ (bind_ordered X h.at w)) within_refl P.states
  eval_ordered (greatest X φ) h = rounds_ordered (λ U W w. eval_ordered φ (bind_ordered X h.at w)) within_refl P.states
