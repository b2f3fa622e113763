-- A pattern before what follows it: if what follows means Q, the pattern before it means that some run matching the pattern ends where Q
-- holds, or every run.
use Prim.Native.Nat.{ℕ, suc, ◌+◌, ◌<◌, ◌≤◌}
use mathlib.Core.Path.{◌≡◌, refl, sym, ◌∙◌, ap}
use mathlib.Core.Bool.{Bool, true, false}
use mathlib.Core.List.{List}
use mathlib.Core.Logic.Iff
use mathlib.Core.Logic.{◌↔◌, ⊎_map}
use native.Mathlib.Omega.{arith}
use Rattle.sheet.specs.TransitionSystem.{Plan, TransitionsInRange}
use Rattle.calculus.specs.Decode.{action_formula}
use Rattle.calculus.specs.Meaning.{Holds, bind}
use Rattle.calculus.specs.Trees.{Tree, pair, modal, variable, binder, binders, formula_of}
use Rattle.calculus.proofs.Table1.Monotone.{bind_same, bind_other}
use Rattle.calculus.proofs.Table1.Induction.{least_induct, greatest_induct}
use Rattle.patterns.specs.Patterns.{Pattern, action, sequence, choice, repetition}
use Rattle.patterns.specs.Runs.{SomeRun, EveryRun, Sentence}
use Rattle.patterns.specs.Translation.{before}
use Rattle.patterns.proofs.Meaning.Sentences.{Joined, Onward, sentence_map, some_within, within_every}
use Rattle.patterns.proofs.Meaning.Sentences.{action_sentence, sequence_sentence, choice_sentence, some_repeated, every_repeated}

-- σ gives each variable below n what ρ gives it
abbrev pub Agrees : ℕ → (ℕ → ℕ → Bool) → (ℕ → ℕ → Bool) → Type 0
Agrees n ρ σ = (X : ℕ) → X < n → σ X ≡ ρ X

-- What follows means Q at the states of P, where at least `base` binders stand before it, in every context that agrees with ρ below base:
-- the variables from base on belong to binders passed on the way, and what follows has none of them free.
pub record FollowMeans (P : Plan) (a : List ℕ) (base : ℕ) (ρ : ℕ → ℕ → Bool) (k : ℕ → Tree) (Q : ℕ → Type 0) : Type 0 where
  pub means :
      (n : ℕ) → base ≤ n → (σ : ℕ → ℕ → Bool) → Agrees base ρ σ → (s : ℕ) → s < P.states → Holds P (formula_of a (k n)) σ s ↔ Q s

agrees_bind : {base n : ℕ} {ρ σ : ℕ → ℕ → Bool} (U : ℕ → Bool) → base ≤ n → Agrees base ρ σ → Agrees base ρ (bind σ n U)
agrees_bind {base} {n} {ρ} {σ} U b g X l = bind_other σ n U X (λ q. absurd (omega arith)) ∙ g X l

module _ (P : Plan) (a : List ℕ) where
  -- the variable of a binder means the set that is bound to it
  variable_follows : (σ : ℕ → ℕ → Bool) (n : ℕ) (U : ℕ → Bool) → FollowMeans P a (suc n) (bind σ n U) (λ m. variable n) (λ s. U s ≡ true)
  unfolding Holds formula_of
  variable_follows σ n U = record {
    means = λ m b τ g s l. let q = ap (λ (W : ℕ → Bool). W s) (g n (omega arith) ∙ bind_same σ n U) in (λ h. sym q ∙ h, λ h. q ∙ h);
  }

  pair_means : (every : Bool) (l r : Tree) (σ : ℕ → ℕ → Bool) (s : ℕ) {A B : Type 0}
      → Holds P (formula_of a l) σ s ↔ A → Holds P (formula_of a r) σ s ↔ B → Holds P (formula_of a (pair every l r)) σ s ↔ Joined every A B
  unfolding Holds formula_of
  pair_means false l r σ s i j = (⊎_map i.0 j.0, ⊎_map i.1 j.1)
  pair_means true l r σ s i j = Iff.and i j

module _ {P : Plan} (w : TransitionsInRange P) (a : List ℕ) where
  modal_means : (every : Bool) (e : ℕ) (t : Tree) (σ : ℕ → ℕ → Bool) {Q : ℕ → Type 0}
      → ((u : ℕ) → u < P.states → Holds P (formula_of a t) σ u ↔ Q u) → (s : ℕ)
      → Holds P (formula_of a (modal every e t)) σ s ↔ Onward every P (action_formula a e) s Q
  unfolding Holds formula_of
  modal_means false e t σ i s = (
    λ x. (x.0, x.1, x.2, x.3, (i x.0.target (w.target_below x.0 x.1)).0 x.4),
    λ x. (x.0, x.1, x.2, x.3, (i x.0.target (w.target_below x.0 x.1)).1 x.4),
  )
  modal_means true e t σ i s = (
    λ x t m o k. (i t.target (w.target_below t m)).0 (x t m o k),
    λ x t m o k. (i t.target (w.target_below t m)).1 (x t m o k),
  )

  -- the fixed point of "Q, or R into the set" is where some repetition of R leads into Q; of "Q, and R only into the set", where every does
  repetition_means : (every : Bool) (n : ℕ) (t : Tree) (σ : ℕ → ℕ → Bool) (R : Pattern) (Q : ℕ → Type 0)
      → ((U : ℕ → Bool) (u : ℕ) → u < P.states
      → Holds P (formula_of a t) (bind σ n U) u ↔ Joined every (Q u) (Sentence every P a R (λ x. U x ≡ true) u))
      → (s : ℕ) → s < P.states → Holds P (formula_of a (binder every n t)) σ s ↔ Sentence every P a (repetition R) Q s
  unfolding Holds formula_of Sentence
  repetition_means false n t σ R Q i s l = (
    least_induct w n (formula_of a t) σ (SomeRun P a (repetition R) Q)
        (λ U h u r x. some_repeated P a (⊎_map (λ q. q) (sentence_map w a false R h u r) ((i U u r).0 x))) s l,
    λ r U c. some_within w a U (λ u b x. c u b ((i U u b).1 x)) r.run l r.ends,
  )
  repetition_means true n t σ R Q i s l = (
    λ h. record { ends = λ u p. within_every w a h.0 (λ v b x. (i h.0 v b).0 (h.1 v b x)) p l h.2 },
    greatest_induct w n (formula_of a t) σ (EveryRun P a (repetition R) Q)
        (λ U h u r q. let x = every_repeated P a q in (i U u r).1 (x.0, sentence_map w a true R h u r x.1)) s l,
  )

  pub before_follows : (every : Bool) (R : Pattern) {base : ℕ} {ρ : ℕ → ℕ → Bool} {k : ℕ → Tree} {Q : ℕ → Type 0}
      → FollowMeans P a base ρ k Q → FollowMeans P a base ρ (before every R k) (Sentence every P a R Q)
  unfolding before
  before_follows every (action e) {k = k} {Q = Q} f = record {
    means = λ n b σ g s l. Iff.trans (modal_means every e (k n) σ (f.means n b σ g) s) (action_sentence P a every e Q s);
  }
  before_follows every (sequence R T) {Q = Q} f = let i = before_follows every R (before_follows every T f) in record {
    means = λ n b σ g s l. Iff.trans (i.means n b σ g s l) (sequence_sentence P a every R T Q s);
  }
  before_follows every (choice R T) {k = k} {Q = Q} f = record {
    means = λ n b σ g s l.
        let i = (before_follows every R f).means n b σ g s l in
        let j = (before_follows every T f).means (n + binders (before every R k n)) (omega arith) σ g s l in
        Iff.trans (pair_means P a every _ _ σ s i j) (choice_sentence P a every R T Q s);
  }
  before_follows every (repetition R) {k = k} {Q = Q} f = record {
    means = λ n b σ g. repetition_means every n _ σ R Q λ U u r.
        let i = f.means (suc n) (omega arith) (bind σ n U) (agrees_bind U b g) u r in
        let once = before_follows every R (variable_follows P a σ n U) in
        let j = once.means (suc n + binders (k (suc n))) (omega arith) (bind σ n U) (λ X x. refl) u r in
        pair_means P a every _ _ (bind σ n U) u i j;
  }
