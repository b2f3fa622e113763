-- The translation of a pattern with a well-formed rule is the tree of a well-formed rule, where it has at most 64 nodes and 6 binders: its
-- entries are those of pattern and rule, its binders are numbered in preorder, and no variable is free.
use Prim.Native.Nat.{ℕ, suc, ◌≤◌}
use mathlib.Core.Path.{◌≡◌, refl, subst}
use mathlib.Core.Bool.{Bool}
use mathlib.Core.List.{List}
use mathlib.Core.Logic.{⊎_elim}
use native.Mathlib.Omega.{arith}
use Rattle.sheet.specs.WellFormed.{WellFormedRule}
use Rattle.calculus.specs.Trees.{Tree, variable, tree_size, binders, encode, tree_of}
use Rattle.calculus.proofs.Trees.Conditions.{TreeEntriesBelow, InOrder, FreeIn}
use Rattle.calculus.proofs.Trees.WellFormed.{encode_well_formed}
use Rattle.calculus.proofs.Trees.TreeOf.{tree_entries, tree_order, tree_closed}
use Rattle.patterns.specs.Patterns.{Pattern, action, sequence, choice, repetition, EntriesBelow}
use Rattle.patterns.specs.Translation.{raised, before, translation}
use Rattle.patterns.proofs.Translation.Raised.{raised_entries, raised_order, raised_free}

module _ (every : Bool) where
  before_entries : (entries : ℕ) (R : Pattern) → EntriesBelow entries R → (k : ℕ → Tree) → ((n : ℕ) → TreeEntriesBelow entries (k n))
      → (n : ℕ) → TreeEntriesBelow entries (before every R k n)
  unfolding before TreeEntriesBelow EntriesBelow
  before_entries entries (action e) s k h n = (s, h n)
  before_entries entries (sequence R Q) s k h n =
      before_entries entries R s.0 (before every Q k) (before_entries entries Q s.1 k h) n
  before_entries entries (choice R Q) s k h n = (before_entries entries R s.0 k h n, before_entries entries Q s.1 k h _)
  before_entries entries (repetition R) s k h n = (h (suc n), before_entries entries R s (λ m. variable n) (λ m. tt) _)

  before_order : (R : Pattern) (k : ℕ → Tree) → ((n : ℕ) → InOrder n (k n)) → (n : ℕ) → InOrder n (before every R k n)
  unfolding before InOrder
  before_order (action e) k h n = h n
  before_order (sequence R Q) k h n = before_order R (before every Q k) (before_order Q k h) n
  before_order (choice R Q) k h n = (before_order R k h n, before_order Q k h _)
  before_order (repetition R) k h n = (refl, (h (suc n), before_order R (λ m. variable n) (λ m. tt) _))

  -- what is free in it is free in what follows
  before_free : (R : Pattern) (k : ℕ → Tree) {F : ℕ → Type 0} → ((n X : ℕ) → FreeIn X (k n) → F X)
      → (n X : ℕ) → FreeIn X (before every R k n) → F X
  unfolding before FreeIn
  before_free (action e) k h n X f = h n X f
  before_free (sequence R Q) k h n X f = before_free R (before every Q k) (before_free Q k h) n X f
  before_free (choice R Q) k h n X f = ⊎_elim (before_free R k h n X) (before_free Q k h _ X) f
  before_free (repetition R) k h n X f =
      ⊎_elim (h (suc n) X) (λ g. absurd (f.1 (before_free R (λ m. variable n) {F = λ Y. Y ≡ n} (λ m Y e. e) _ X g))) f.0

  module _ (R : Pattern) (t : Tree) where
    translation_entries : (entries : ℕ) → EntriesBelow entries R → TreeEntriesBelow entries t
        → TreeEntriesBelow entries (translation every R t)
    unfolding translation
    translation_entries entries s h = before_entries entries R s (λ n. raised n t) (λ n. raised_entries n entries t h) 0

    translation_order : InOrder 0 t → InOrder 0 (translation every R t)
    unfolding translation
    translation_order h =
        before_order R (λ n. raised n t) (λ n. subst (λ (c : ℕ). InOrder c (raised n t)) (omega arith) (raised_order n 0 t h)) 0

    translation_closed : ((X : ℕ) → FreeIn X t → ⊥) → (X : ℕ) → FreeIn X (translation every R t) → ⊥
    unfolding translation
    translation_closed c = before_free R (λ n. raised n t) (λ n Y f. let q = raised_free n Y t f in c q.0 q.2) 0

  pub translation_well_formed : {entries : ℕ} {r : List ℕ} → WellFormedRule entries r → (R : Pattern) → EntriesBelow entries R
      → tree_size (translation every R (tree_of r)) ≤ 64 → binders (translation every R (tree_of r)) ≤ 6
      → WellFormedRule entries (encode (translation every R (tree_of r)))
  translation_well_formed {entries} {r} kept R s h g =
      encode_well_formed (translation every R (tree_of r)) h g (translation_entries R (tree_of r) entries s (tree_entries kept))
      (translation_order R (tree_of r) (tree_order kept)) (translation_closed R (tree_of r) (tree_closed kept))
