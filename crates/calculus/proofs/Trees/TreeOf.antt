-- The tree of a well-formed rule body: it stands at the body's nodes, its bytes are the body, its formula is the rule, and it keeps what a
-- rule must keep.
use Prim.Native.Nat.{ℕ, zero, suc, ◌+◌, ◌<◌, ◌≤◌}
use mathlib.Core.Path.{◌≡◌, refl, sym, ◌∙◌, ap, subst}
use mathlib.Core.Bool.{true, false, not, and-eq-true_iff, false≢true}
use mathlib.Core.List.{List, []}
use mathlib.Core.Logic.{◌⊎◌, inl, inr, ⊎_map}
use native.Mathlib.Omega.{arith}
use native.Mathlib.Decide.{ℕ_discrete}
use lib.Dec.{eqb}
use borrow.Author.Tests.{eq-eqb, ne_eqb}
use Rattle.sheet.specs.Rule.{node_count, node_kind, node_x, one_if, Shape, shape_of, is_binder, binders_before}
use Rattle.sheet.specs.WellFormed.{Subtree, WellFormedRule}
use Rattle.sheet.proofs.Nodes.Shapes.{ranged, shape_leaf, shape_pair, shape_modal, shape_variable, shape_binder}
use Rattle.sheet.proofs.Nodes.Subtrees.{subtree_after, pair_subtrees, modal_subtree, binder_subtree}
use Rattle.calculus.specs.Decode.{formula}
use Rattle.calculus.specs.Trees.{Tree, formula_of, tree_size, encode, tree_course, tree_within, tree_of, TreeOfRule, TreesExactly}
use Rattle.calculus.proofs.Table1.Modal.{or-true}
use Rattle.calculus.proofs.Table1.Monotone.{free}
use Rattle.calculus.proofs.Decoding.Variables.{is_binder_holds, closed}
use Rattle.calculus.proofs.Trees.Stands.{Stands, flag_small, one_of_two, stands_end, stands_formula, stands_tree}
use Rattle.calculus.proofs.Trees.Encoding.{encode_stands, stands_encode}
use Rattle.calculus.proofs.Trees.Conditions.{TreeEntriesBelow, InOrder, FreeIn}
use Rattle.calculus.proofs.Trees.Nodes.{Span, span_inner, none_next, one_next, stands_binders}

-- the second of two kinds where the flag says so
flag_of : (k c : ℕ) → (k ≡ c) ⊎ (k ≡ c + 1) → k ≡ c + one_if (eqb k (c + 1))
flag_of k c (inl q) = let e = ne_eqb k (c + 1) (λ i. absurd (omega arith)) in rw e (omega arith)
flag_of k c (inr q) = let e = eq-eqb k (c + 1) q in rw e (omega arith)

constant_flag : (k : ℕ) → k ≤ 1 → k ≡ one_if (eqb k 1)
constant_flag k h =
    elim (ℕ_discrete k 1) [ yes q ↦ let e = eq-eqb k 1 q in rw e q | no q ↦ let e = ne_eqb k 1 q in rw e (omega arith) ]

module _ (entries : ℕ) (r : List ℕ) where
  by_shape : (d : ℕ) {n e : ℕ} (s : Shape) → shape_of (node_kind r n) ≡ s → Stands r (tree_course (tree_within d r) r n s) n e
      → Stands r (tree_within (suc d) r n) n e
  unfolding tree_within
  by_shape d {n} {e} s q p = subst (λ (i : Shape). Stands r (tree_course (tree_within d r) r n i) n e) (sym q) p

  at_child : (d : ℕ) {c c' e : ℕ} → c ≡ c' → Stands r (tree_within d r c') c' e → Stands r (tree_within d r c) c' e
  at_child d {c} {c'} {e} q p = subst (λ (i : ℕ). Stands r (tree_within d r i) c' e) (sym q) p

  subtree_stands : {n e : ℕ} → Subtree entries r n e → (d : ℕ) → e ≤ d + n → Stands r (tree_within d r n) n e
  subtree_stands p zero h = absurd (omega (arith, subtree_after p))
  subtree_stands (Subtree.constant {n = n} k x y) (suc d) h =
      by_shape d Shape.leaf (shape_leaf (node_kind r n) (omega arith)) (Stands.constant (constant_flag _ k) x y)
  subtree_stands (Subtree.variable {n = n} k y) (suc d) h =
      by_shape d Shape.variable (shape_variable (node_kind r n) k) (Stands.variable k refl y)
  subtree_stands (Subtree.pair {n = n} k x p y q) (suc d) h =
      let g = ranged (node_kind r n) 2 k in
      by_shape d Shape.pair (shape_pair (node_kind r n) g.0 g.1)
      (Stands.pair (flag_of _ 2 k) x y
      (at_child d x (subtree_stands p d (omega (arith, subtree_after q))))
      (at_child d y (subtree_stands q d (omega (arith, subtree_after p)))))
  subtree_stands (Subtree.modal {n = n} k x y p) (suc d) h =
      let g = ranged (node_kind r n) 4 k in
      by_shape d Shape.modal (shape_modal (node_kind r n) g.0 g.1)
      (Stands.modal (flag_of _ 4 k) refl y (at_child d y (subtree_stands p d (omega arith))))
  subtree_stands (Subtree.binder {n = n} k y p) (suc d) h =
      let g = ranged (node_kind r n) 7 k in
      by_shape d Shape.binder (shape_binder (node_kind r n) g.0 g.1)
      (Stands.binder (flag_of _ 7 k) refl y (at_child d y (subtree_stands p d (omega arith))))

  stands_entries : {t : Tree} {n e : ℕ} → Stands r t n e → Subtree entries r n e → TreeEntriesBelow entries t
  unfolding TreeEntriesBelow
  stands_entries (Stands.constant k x y) p = tt
  stands_entries (Stands.pair {b = b} {n = n} {e = e} k x y q q') p =
      let g = flag_small b in
      let i = pair_subtrees p (omega arith) (omega arith) in (
        stands_entries q (subst (Subtree entries r (suc n)) y i.first),
        stands_entries q' (subst (λ (c : ℕ). Subtree entries r c e) y i.second),
      )
  stands_entries (Stands.modal {b = b} {n = n} k x y q) p =
      let g = flag_small b in
      let i = modal_subtree p (omega arith) (omega arith) in
      (subst (λ (c : ℕ). c < entries) x i.x_below, stands_entries q i.child)
  stands_entries (Stands.variable k x y) p = tt
  stands_entries (Stands.binder {b = b} {n = n} k x y q) p =
      let g = flag_small b in stands_entries q (binder_subtree p (omega arith) (omega arith)).child

  stands_order : {t : Tree} {n e : ℕ} → Stands r t n e → Span (λ m. is_binder r m ≡ true → node_x r m ≡ binders_before r m) n e
      → InOrder (binders_before r n) t
  unfolding InOrder
  stands_order (Stands.constant k x y) h = tt
  stands_order (Stands.pair {b = b} {l = l} {t = t} {n = n} k x y q q') h =
      let i = none_next r n (omega (arith, flag_small b)) in
      let j = stands_binders r q in
      let u = stands_end q in
      let v = stands_end q' in (
        subst (λ (c : ℕ). InOrder c l) i (stands_order q (span_inner h (omega arith) (omega arith))),
        subst (λ (c : ℕ). InOrder c t) (omega arith) (stands_order q' (span_inner h (omega arith) (omega arith))),
      )
  stands_order (Stands.modal {b = b} {t = t} {n = n} k x y q) h =
      let i = none_next r n (omega (arith, flag_small b)) in
      subst (λ (c : ℕ). InOrder c t) i (stands_order q (span_inner h (omega arith) (omega arith)))
  stands_order (Stands.variable k x y) h = tt
  stands_order (Stands.binder {b = b} {t = t} {n = n} k x y q) h =
      let v = stands_end q in (
        sym x ∙ h.at n (omega arith) (omega arith) (is_binder_holds r n (one_of_two b k)),
        subst (λ (c : ℕ). InOrder c t) (one_next r n b k) (stands_order q (span_inner h (omega arith) (omega arith))),
      )

free_formula : (a : List ℕ) (X : ℕ) (t : Tree) → FreeIn X t → free X (formula_of a t) ≡ true
unfolding FreeIn free formula_of
free_formula a X (Tree.constant b) f = absurd f
free_formula a X (Tree.pair false l r) f =
    (or-true (free X (formula_of a l)) (free X (formula_of a r))).1 (⊎_map (free_formula a X l) (free_formula a X r) f)
free_formula a X (Tree.pair true l r) f =
    (or-true (free X (formula_of a l)) (free X (formula_of a r))).1 (⊎_map (free_formula a X l) (free_formula a X r) f)
free_formula a X (Tree.modal false e t) f = free_formula a X t f
free_formula a X (Tree.modal true e t) f = free_formula a X t f
free_formula a X (Tree.variable Y) f = eq-eqb X Y f
free_formula a X (Tree.binder false Y t) f =
    (and-eq-true_iff (free X (formula_of a t)) (not (eqb X Y))).1 (free_formula a X t f.0, ap not (ne_eqb X Y f.1))
free_formula a X (Tree.binder true Y t) f =
    (and-eq-true_iff (free X (formula_of a t)) (not (eqb X Y))).1 (free_formula a X t f.0, ap not (ne_eqb X Y f.1))

module _ {entries : ℕ} {r : List ℕ} (kept : WellFormedRule entries r) where
  pub tree_stands : Stands r (tree_of r) 0 (node_count r)
  tree_stands = subtree_stands entries r kept.whole 64 (omega (arith, kept.few_nodes))

  tree_size_lem : tree_size (tree_of r) ≡ node_count r
  tree_size_lem = omega (arith, stands_end tree_stands)

  tree_formula : (a : List ℕ) → formula a r 0 ≡ formula_of a (tree_of r)
  tree_formula a = stands_formula a r tree_stands 64 (omega (arith, tree_size_lem, kept.few_nodes))

  pub tree_entries : TreeEntriesBelow entries (tree_of r)
  tree_entries = stands_entries entries r tree_stands kept.whole

  pub tree_order : InOrder 0 (tree_of r)
  unfolding binders_before
  tree_order = stands_order entries r tree_stands (record { at = λ m l u. kept.binder_numbers m u })

  pub tree_closed : (X : ℕ) → FreeIn X (tree_of r) → ⊥
  tree_closed X f = false≢true (sym (closed kept [] X) ∙ ap (free X) (tree_formula []) ∙ free_formula [] X (tree_of r) f)

  pub formula_closed : (a : List ℕ) (X : ℕ) → free X (formula_of a (tree_of r)) ≡ false
  formula_closed a X = sym (ap (free X) (tree_formula a)) ∙ closed kept a X

  of_rule : TreeOfRule r
  unfolding binders_before
  of_rule = record {
    encoded = stands_encode r tree_stands kept.exact;
    decoded = λ a. sym (tree_formula a);
    nodes_are = tree_size_lem;
    binders_are = omega (arith, stands_binders r tree_stands);
  }

pub trees_exactly : TreesExactly
trees_exactly = record {
  of_rules = λ entries r kept. of_rule kept;
  of_trees = λ t h. record {
    back = stands_tree (encode t) (encode_stands t) 64 h;
    decoded = λ a. stands_formula a (encode t) (encode_stands t) 64 h;
  };
}
