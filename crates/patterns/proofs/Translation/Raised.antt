-- Raising the variables of a tree keeps its size, its binders, its entries and their order, and raises its free variables.
use Prim.Native.Nat.{ℕ, suc, ◌+◌}
use mathlib.Core.Path.{◌≡◌, refl, ◌∙◌, ap, subst}
use mathlib.Core.Logic.{inl, inr, ⊎_elim}
use native.Mathlib.Omega.{arith}
use Rattle.calculus.specs.Trees.{Tree, constant, pair, modal, variable, binder, tree_size, binders}
use Rattle.calculus.proofs.Trees.Conditions.{TreeEntriesBelow, InOrder, FreeIn}
use Rattle.patterns.specs.Translation.{raised}

module _ (n : ℕ) where
  pub raised_size : (t : Tree) → tree_size (raised n t) ≡ tree_size t
  unfolding tree_size raised
  raised_size (constant b) = refl
  raised_size (pair b l r) = omega (arith, raised_size l, raised_size r)
  raised_size (modal b e t) = ap suc (raised_size t)
  raised_size (variable X) = refl
  raised_size (binder b X t) = ap suc (raised_size t)

  pub raised_binders : (t : Tree) → binders (raised n t) ≡ binders t
  unfolding binders raised
  raised_binders (constant b) = refl
  raised_binders (pair b l r) = omega (arith, raised_binders l, raised_binders r)
  raised_binders (modal b e t) = raised_binders t
  raised_binders (variable X) = refl
  raised_binders (binder b X t) = ap suc (raised_binders t)

  pub raised_entries : (entries : ℕ) (t : Tree) → TreeEntriesBelow entries t → TreeEntriesBelow entries (raised n t)
  unfolding TreeEntriesBelow raised
  raised_entries entries (constant b) h = tt
  raised_entries entries (pair b l r) h = (raised_entries entries l h.0, raised_entries entries r h.1)
  raised_entries entries (modal b e t) h = (h.0, raised_entries entries t h.1)
  raised_entries entries (variable X) h = tt
  raised_entries entries (binder b X t) h = raised_entries entries t h

  pub raised_order : (k : ℕ) (t : Tree) → InOrder k t → InOrder (n + k) (raised n t)
  unfolding InOrder raised
  raised_order k (constant b) h = tt
  raised_order k (pair b l r) h = (
    raised_order k l h.0,
    subst (λ (c : ℕ). InOrder c (raised n r)) (omega (arith, raised_binders l)) (raised_order (k + binders l) r h.1),
  )
  raised_order k (modal b e t) h = raised_order k t h
  raised_order k (variable X) h = tt
  raised_order k (binder b X t) h = (
    ap (λ (c : ℕ). n + c) h.0,
    subst (λ (c : ℕ). InOrder c (raised n t)) (omega arith) (raised_order (suc k) t h.1),
  )

  pub raised_free : (Y : ℕ) (t : Tree) → FreeIn Y (raised n t) → (X : ℕ) × (Y ≡ n + X) × FreeIn X t
  unfolding FreeIn raised
  raised_free Y (constant b) f = absurd f
  raised_free Y (pair b l r) f =
      ⊎_elim (λ g. let q = raised_free Y l g in (q.0, q.1, inl q.2)) (λ g. let q = raised_free Y r g in (q.0, q.1, inr q.2)) f
  raised_free Y (modal b e t) f = raised_free Y t f
  raised_free Y (variable X) f = (X, f, refl)
  raised_free Y (binder b X t) f =
      let q = raised_free Y t f.0 in
      (q.0, q.1, (q.2, λ e. f.1 (q.1 ∙ ap (λ (c : ℕ). n + c) e)))
