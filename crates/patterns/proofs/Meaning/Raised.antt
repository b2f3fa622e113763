-- "Binders are renumbered.": a tree with every variable raised by n means in a context what the tree means in the context's part from n on.
use Prim.Native.Nat.{ℕ, ◌<◌, ◌+◌}
use mathlib.Core.Path.{◌≡◌, refl, sym, ◌∙◌, ap}
use mathlib.Core.Bool.{Bool, true, false, cond, false≢true}
use mathlib.Core.List.{List}
use mathlib.Core.Logic.{◌↔◌, ◌⊎◌}
use native.Mathlib.Omega.{arith}
use lib.Dec.{eqb}
use borrow.Author.Tests.{eqb-true, eqb-false, eq-eqb, ne_eqb}
use Rattle.sheet.specs.TransitionSystem.{Plan, TransitionsInRange}
use Rattle.calculus.specs.Decode.{action_formula}
use Rattle.calculus.specs.Meaning.{Holds, bind}
use Rattle.calculus.specs.Trees.{Tree, constant, pair, modal, variable, binder, formula_of}
use Rattle.calculus.proofs.Table1.Modal.{Somewhere, Everywhere}
use Rattle.calculus.proofs.Table1.Monotone.{free, all_states}
use Rattle.calculus.proofs.Table1.Locality.{local_free}
use Rattle.patterns.specs.Translation.{raised}

eqb_raised : (n Y X : ℕ) → eqb (n + Y) (n + X) ≡ eqb Y X
eqb_raised n Y X = go (eqb Y X) refl
  where
    go : (b : Bool) → eqb Y X ≡ b → eqb (n + Y) (n + X) ≡ b
    go true e = eq-eqb (n + Y) (n + X) (ap (λ (m : ℕ). n + m) (eqb-true Y X e))
    go false e = let d = eqb-false Y X e in ne_eqb (n + Y) (n + X) (λ q. d (omega arith))

module _ (P : Plan) (a : List ℕ) (n : ℕ) where
  -- the set for X becomes that for n + X
  under_binder : (t : Tree) → ((σ : ℕ → ℕ → Bool) → Holds P (formula_of a (raised n t)) σ ≡ Holds P (formula_of a t) (λ Y. σ (n + Y)))
      → (X : ℕ) (σ : ℕ → ℕ → Bool) (U : ℕ → Bool)
      → Holds P (formula_of a (raised n t)) (bind σ (n + X) U) ≡ Holds P (formula_of a t) (bind (λ Y. σ (n + Y)) X U)
  under_binder t h X σ U = h (bind σ (n + X) U) ∙ (λ i. Holds P (formula_of a t) (λ Y. cond (eqb_raised n Y X i) U (σ (n + Y))))

  -- an equation of sets of states, so that each clause is Table 1's with the equations of the parts put for the parts
  raised_holds : (t : Tree) (σ : ℕ → ℕ → Bool) → Holds P (formula_of a (raised n t)) σ ≡ Holds P (formula_of a t) (λ X. σ (n + X))
  unfolding Holds formula_of raised
  raised_holds (constant false) σ = refl
  raised_holds (constant true) σ = refl
  raised_holds (pair false l r) σ = λ i s. raised_holds l σ i s ⊎ raised_holds r σ i s
  raised_holds (pair true l r) σ = λ i s. raised_holds l σ i s × raised_holds r σ i s
  raised_holds (modal false e t) σ = λ i s. Somewhere P (action_formula a e) s (raised_holds t σ i)
  raised_holds (modal true e t) σ = λ i s. Everywhere P (action_formula a e) s (raised_holds t σ i)
  raised_holds (variable X) σ = refl
  raised_holds (binder false X t) σ = let body = under_binder t (raised_holds t) X σ in
      λ i s. (U : ℕ → Bool) → ((u : ℕ) → u < P.states → body U i u → U u ≡ true) → U s ≡ true
  raised_holds (binder true X t) σ = let body = under_binder t (raised_holds t) X σ in
      λ i s. (U : ℕ → Bool) × ((u : ℕ) → u < P.states → U u ≡ true → body U i u) × (U s ≡ true)

-- a tree without free variables means the same in every context, whatever it is raised by
pub raised_means :
    {P : Plan} → TransitionsInRange P → (a : List ℕ) (n : ℕ) (t : Tree) → ((X : ℕ) → free X (formula_of a t) ≡ false)
    → (ρ σ : ℕ → ℕ → Bool) (s : ℕ) → s < P.states → Holds P (formula_of a (raised n t)) σ s ↔ Holds P (formula_of a t) ρ s
raised_means {P} w a n t closed ρ σ s l = rw (raised_holds P a n t σ)
    (local_free w (all_states w) (formula_of a t) (record { at = λ X f u r. absurd (false≢true (sym (closed X) ∙ f)) }) s l)
