-- A variable that is free in the formula of a node has its binder above the node; so the rule, the formula of node 0, is closed.
use Prim.Native.Nat.{ℕ, suc, ◌<◌, ◌≤◌}
use mathlib.Core.Path.{◌≡◌, refl, sym, subst, ◌∙◌}
use mathlib.Core.Bool.{Bool, true, false, not, ◌&&◌, ◌||◌, and-eq-true_iff, false≢true}
use mathlib.Core.List.{List}
use mathlib.Core.Logic.{◌⊎◌, inl, inr, ⊎_elim}
use native.Mathlib.Omega.{arith}
use native.Mathlib.Decide.{ℕ_discrete, dec_lt}
use lib.Dec.{eqb}
use borrow.Author.Tests.{lt-leb, eqb-true, eqb-false, not-true}
use Rattle.sheet.specs.Rule.{node_count, node_kind, node_x, node_y, is_binder, binders_before}
use Rattle.sheet.specs.WellFormed.{Subtree, Below, Binds, WellFormedRule}
use Rattle.sheet.proofs.Nodes.Shapes.{ranged}
use Rattle.sheet.proofs.Nodes.Binders.{kind_binder}
use Rattle.sheet.proofs.Nodes.Subtrees.{subtree_after, subtree_nests}
use Rattle.calculus.specs.Formulas.{Formula}
use Rattle.calculus.specs.Decode.{formula}
use Rattle.calculus.proofs.Table1.Modal.{or-true}
use Rattle.calculus.proofs.Table1.Monotone.{free}
use Rattle.sheet.proofs.Nodes.Children.{node_subtree}
use Rattle.calculus.proofs.Decoding.Nodes.{false_node_holds, true_node_holds, or_node_holds, and_node_holds, some_node_holds, every_node_holds, variable_node_holds, least_node_holds, greatest_node_holds}

pub not_binder : (r : List ℕ) (n : ℕ) → node_kind r n < 7 → is_binder r n ≡ false
not_binder r n h = simp (lt-leb 7 (node_kind r n) h)

pub is_binder_holds : (r : List ℕ) (n : ℕ) → (node_kind r n ≡ 7) ⊎ (node_kind r n ≡ 8) → is_binder r n ≡ true
is_binder_holds r n q = let h = ranged (node_kind r n) 7 q in kind_binder r n h.0 h.1

-- the binder of variable k stands above node n
pub record Above (entries : ℕ) (r : List ℕ) (k n : ℕ) : Type 0 where
  pub at : ℕ
  pub binds : Binds r at k
  pub below : Below entries r at n

module _ {entries : ℕ} {r : List ℕ} where
  -- a binder above a child of node n that is not n itself stands above n
  raised : {k c n : ℕ} (u : Above entries r k c) → u.at < n → n < c → Above entries r k n
  raised u h l = record {
    at = u.at;
    binds = u.binds;
    below = record { end = u.below.end; whole = u.below.whole; after = h; inside = omega (arith, u.below.inside) };
  }

  other : {k c : ℕ} (n : ℕ) (u : Above entries r k c) → is_binder r n ≡ false → u.at ≡ n → ⊥
  other n u f q = false≢true (sym f ∙ subst (λ (i : ℕ). is_binder r i ≡ true) q u.binds.is_binder_holds)

  pub above_next : {k : ℕ} (n : ℕ) → is_binder r n ≡ false → Above entries r k (suc n) → Above entries r k n
  above_next n f u = let d = other n u f in raised u (omega (arith, u.below.after, d)) (omega arith)

  pub above_second : {k m : ℕ} (n : ℕ) → is_binder r n ≡ false → Subtree entries r (suc n) m → Above entries r k m → Above entries r k n
  above_second n f p u =
      let d = other n u f in
      elim (dec_lt n u.at) [
        | yes q ↦ absurd (omega (arith, subtree_nests p q u.below.after u.below.whole, u.below.inside))
        | no q ↦ raised u (omega (arith, d)) (omega (arith, subtree_after p))
      ]

  pub above_body : {k : ℕ} (n : ℕ) → (binders_before r n ≡ k → ⊥) → Above entries r k (suc n) → Above entries r k n
  above_body {k} n f u =
      let d : u.at ≡ n → ⊥ = λ q. f (subst (λ (i : ℕ). binders_before r i ≡ k) q u.binds.numbered) in
      raised u (omega (arith, u.below.after, d)) (omega arith)

module _ {entries : ℕ} {r : List ℕ} (kept : WellFormedRule entries r) (a : List ℕ) where
  free_above : {n e : ℕ} → Subtree entries r n e → e ≤ node_count r → (k : ℕ) → free k (formula a r n) ≡ true → Above entries r k n
  unfolding free
  free_above (Subtree.constant {n = n} c x y) h k f =
      elim (ℕ_discrete (node_kind r n) 0) [
        | yes q ↦ absurd (false≢true (subst (λ (φ : Formula). free k φ ≡ true) (false_node_holds kept a n h q) f))
        | no q ↦ absurd (false≢true (subst (λ (φ : Formula). free k φ ≡ true) (true_node_holds kept a n h (omega arith)) f))
      ]
  free_above (Subtree.variable {n = n} c y) h k f =
      let b = kept.bound n h c in
      let q = eqb-true k (node_x r n) (subst (λ (φ : Formula). free k φ ≡ true) (variable_node_holds kept a n h c) f) in
      record { at = b.at; binds = subst (Binds r b.at) (sym q) b.binds; below = b.below }
  free_above (Subtree.pair {n = n} {m = m} c x p y q) h k f = go c (free_above p (omega (arith, subtree_after q)) k) (free_above q h k)
    where
      l : n < node_count r
      l = omega (arith, subtree_after p, subtree_after q)

      none : is_binder r n ≡ false
      none = not_binder r n (omega (arith, ranged (node_kind r n) 2 c))

      up : (free k (formula a r (suc n)) || free k (formula a r (node_y r n))) ≡ true → (free k (formula a r (suc n)) ≡ true → Above entries r k (suc n))
          → (free k (formula a r m) ≡ true → Above entries r k m) → Above entries r k n
      up g s t =
          ⊎_elim (λ i. above_next n none (s i)) (λ i. above_second n none p (t (subst (λ (j : ℕ). free k (formula a r j) ≡ true) y i)))
          ((or-true (free k (formula a r (suc n))) (free k (formula a r (node_y r n)))).0 g)

      go : (node_kind r n ≡ 2) ⊎ (node_kind r n ≡ 3) → (free k (formula a r (suc n)) ≡ true → Above entries r k (suc n))
          → (free k (formula a r m) ≡ true → Above entries r k m) → Above entries r k n
      go (inl i) = up (subst (λ (φ : Formula). free k φ ≡ true) (or_node_holds kept a n l i) f)
      go (inr i) = up (subst (λ (φ : Formula). free k φ ≡ true) (and_node_holds kept a n l i) f)
  free_above (Subtree.modal {n = n} c x y p) h k f = go c (free_above p h k)
    where
      l : n < node_count r
      l = omega (arith, subtree_after p)

      none : is_binder r n ≡ false
      none = not_binder r n (omega (arith, ranged (node_kind r n) 4 c))

      go : (node_kind r n ≡ 4) ⊎ (node_kind r n ≡ 5) → (free k (formula a r (suc n)) ≡ true → Above entries r k (suc n)) → Above entries r k n
      go (inl i) rec = above_next n none (rec (subst (λ (φ : Formula). free k φ ≡ true) (some_node_holds kept a n l i) f))
      go (inr i) rec = above_next n none (rec (subst (λ (φ : Formula). free k φ ≡ true) (every_node_holds kept a n l i) f))
  free_above (Subtree.binder {n = n} c y p) h k f = go c (free_above p h k)
    where
      l : n < node_count r
      l = omega (arith, subtree_after p)

      number : node_x r n ≡ binders_before r n
      number = kept.binder_numbers n l (is_binder_holds r n c)

      up : (free k (formula a r (suc n)) && not (eqb k (node_x r n))) ≡ true → (free k (formula a r (suc n)) ≡ true → Above entries r k (suc n)) → Above entries r k n
      up g rec =
          let s = (and-eq-true_iff (free k (formula a r (suc n))) (not (eqb k (node_x r n)))).0 g in
          above_body n (λ q. eqb-false k (node_x r n) (not-true (eqb k (node_x r n)) s.1) (sym (number ∙ q))) (rec s.0)

      go : (node_kind r n ≡ 7) ⊎ (node_kind r n ≡ 8) → (free k (formula a r (suc n)) ≡ true → Above entries r k (suc n)) → Above entries r k n
      go (inl i) = up (subst (λ (φ : Formula). free k φ ≡ true) (least_node_holds kept a n l i) f)
      go (inr i) = up (subst (λ (φ : Formula). free k φ ≡ true) (greatest_node_holds kept a n l i) f)

  -- a variable that is free at node n has its binder above n
  pub free_at : (n : ℕ) → n < node_count r → (k : ℕ) → free k (formula a r n) ≡ true → Above entries r k n
  free_at n l = let i = node_subtree kept n l in free_above i.whole i.within

  -- the rule is closed
  pub closed : (k : ℕ) → free k (formula a r 0) ≡ false
  closed k = go (free k (formula a r 0)) refl
    where
      go : (b : Bool) → free k (formula a r 0) ≡ b → b ≡ false
      go true q = absurd (omega (arith, (free_at 0 kept.some_nodes k q).below.after))
      go false q = refl
