-- The formula of a node, kind by kind; the depth of the decoding does not matter.
use Prim.Native.Nat.{ℕ, zero, suc, ◌+◌, ◌<◌, ◌≤◌}
use mathlib.Core.Path.{◌≡◌, refl, sym, ap, ap₂, subst, ◌∙◌}
use mathlib.Core.List.{List}
use mathlib.Core.Logic.{◌⊎◌, inl, inr}
use native.Mathlib.Omega.{arith}
use native.Mathlib.Decide.{ℕ_discrete}
use Rattle.sheet.specs.Rule.{node_count, node_kind, node_x, node_y}
use Rattle.sheet.specs.WellFormed.{Subtree, WellFormedRule}
use Rattle.sheet.specs.Kinds.{node_sort}
use Rattle.sheet.proofs.Nodes.Subtrees.{subtree_after}
use Rattle.sheet.proofs.Nodes.Children.{node_subtree, pair_children, modal_child, binder_child}
use Rattle.calculus.specs.Formulas.{Formula, false_formula, true_formula, disj, conj, some, every, var, least, greatest}
use Rattle.calculus.specs.Decode.{action_formula, node_formula, formula_within, formula}
use Rattle.calculus.specs.DecodedKinds.{NodeDecoded, NodesDecoded}

module _ (a r : List ℕ) (n : ℕ) (go go' : ℕ → Formula) where
  Same : ℕ → Type 0
  Same k = node_formula go a r n (node_sort k) ≡ node_formula go' a r n (node_sort k)

  same_kind : (k : ℕ) → node_kind r n ≡ k → Same k → Same (node_kind r n)
  same_kind k q h = subst Same (sym q) h

  same_constant : node_kind r n ≤ 1 → Same (node_kind r n)
  unfolding Same
  same_constant h =
      elim (ℕ_discrete (node_kind r n) 0) [ yes q ↦ same_kind 0 q refl | no q ↦ same_kind 1 (omega arith) refl ]

  same_pair : (node_kind r n ≡ 2) ⊎ (node_kind r n ≡ 3) → go (node_x r n) ≡ go' (node_x r n) → go (node_y r n) ≡ go' (node_y r n) → Same (node_kind r n)
  unfolding Same
  same_pair (inl q) hx hy = same_kind 2 q (ap₂ disj hx hy)
  same_pair (inr q) hx hy = same_kind 3 q (ap₂ conj hx hy)

  same_modal : (node_kind r n ≡ 4) ⊎ (node_kind r n ≡ 5) → go (node_y r n) ≡ go' (node_y r n) → Same (node_kind r n)
  unfolding Same
  same_modal (inl q) hy = same_kind 4 q (ap (some (action_formula a (node_x r n))) hy)
  same_modal (inr q) hy = same_kind 5 q (ap (every (action_formula a (node_x r n))) hy)

  same_variable : node_kind r n ≡ 6 → Same (node_kind r n)
  unfolding Same
  same_variable q = same_kind 6 q refl

  same_binder : (node_kind r n ≡ 7) ⊎ (node_kind r n ≡ 8) → go (node_y r n) ≡ go' (node_y r n) → Same (node_kind r n)
  unfolding Same
  same_binder (inl q) hy = same_kind 7 q (ap (least (node_x r n)) hy)
  same_binder (inr q) hy = same_kind 8 q (ap (greatest (node_x r n)) hy)

moved : (go go' : ℕ → Formula) {c c' : ℕ} → c ≡ c' → go c' ≡ go' c' → go c ≡ go' c
moved go go' q h = subst (λ (i : ℕ). go i ≡ go' i) (sym q) h

module _ {entries : ℕ} {r : List ℕ} (a : List ℕ) where
  -- every depth of at least the number of nodes of a part gives the same formula
  formula_same : {n e : ℕ} → Subtree entries r n e → (d d' : ℕ) → e ≤ d + n → e ≤ d' + n → formula_within d a r n ≡ formula_within d' a r n
  unfolding formula_within Same
  formula_same p zero d' h h' = absurd (omega (arith, subtree_after p))
  formula_same p (suc d) zero h h' = absurd (omega (arith, subtree_after p))
  formula_same (Subtree.constant {n = n} k x y) (suc d) (suc d') h h' = same_constant a r n (formula_within d a r) (formula_within d' a r) k
  formula_same (Subtree.variable {n = n} k y) (suc d) (suc d') h h' = same_variable a r n (formula_within d a r) (formula_within d' a r) k
  formula_same (Subtree.pair {n = n} k x p y q) (suc d) (suc d') h h' =
      same_pair a r n (formula_within d a r) (formula_within d' a r) k
      (moved (formula_within d a r) (formula_within d' a r) x (formula_same p d d' (omega (arith, subtree_after q)) (omega (arith, subtree_after q))))
      (moved (formula_within d a r) (formula_within d' a r) y (formula_same q d d' (omega (arith, subtree_after p)) (omega (arith, subtree_after p))))
  formula_same (Subtree.modal {n = n} k x y p) (suc d) (suc d') h h' =
      same_modal a r n (formula_within d a r) (formula_within d' a r) k (moved (formula_within d a r) (formula_within d' a r) y (formula_same p d d' (omega arith) (omega arith)))
  formula_same (Subtree.binder {n = n} k y p) (suc d) (suc d') h h' =
      same_binder a r n (formula_within d a r) (formula_within d' a r) k (moved (formula_within d a r) (formula_within d' a r) y (formula_same p d d' (omega arith) (omega arith)))

  -- the formula of a node by those of its children
  formula_step : {n e : ℕ} → Subtree entries r n e → e ≤ 64 → formula a r n ≡ node_formula (formula a r) a r n (node_sort (node_kind r n))
  unfolding formula_within
  formula_step p h = formula_same p 64 65 (omega arith) (omega arith)

module _ {entries : ℕ} {r : List ℕ} (kept : WellFormedRule entries r) (a : List ℕ) (n : ℕ) (l : n < node_count r) where
  of_kind : (k : ℕ) → node_kind r n ≡ k → formula a r n ≡ node_formula (formula a r) a r n (node_sort k)
  of_kind k q =
      let i = node_subtree kept n l in
      formula_step a i.whole (omega (arith, kept.few_nodes)) ∙ ap (λ (j : ℕ). node_formula (formula a r) a r n (node_sort j)) q

  decoded : NodeDecoded a r n
  decoded = record {
    false_node_holds = of_kind 0;
    true_node_holds = of_kind 1;
    or_node_holds = of_kind 2;
    and_node_holds = of_kind 3;
    some_node_holds = of_kind 4;
    every_node_holds = of_kind 5;
    variable_node_holds = of_kind 6;
    least_node_holds = of_kind 7;
    greatest_node_holds = of_kind 8;
  }

pub nodes_decoded : NodesDecoded
nodes_decoded entries a r kept n l = decoded kept a n l

-- The same with the first or only child as the next node.
module _ {entries : ℕ} {r : List ℕ} (kept : WellFormedRule entries r) (a : List ℕ) (n : ℕ) (l : n < node_count r) where
  is : NodeDecoded a r n
  is = nodes_decoded entries a r kept n l

  first : 2 ≤ node_kind r n → node_kind r n < 4 → formula a r (node_x r n) ≡ formula a r (suc n)
  first h g = ap (formula a r) (pair_children kept n l h g).x_is

  under : 4 ≤ node_kind r n → node_kind r n < 6 → formula a r (node_y r n) ≡ formula a r (suc n)
  under h g = ap (formula a r) (modal_child kept n l h g).y_is

  body : 7 ≤ node_kind r n → node_kind r n < 9 → formula a r (node_y r n) ≡ formula a r (suc n)
  body h g = ap (formula a r) (binder_child kept n l h g).y_is

  pub false_node_holds : node_kind r n ≡ 0 → formula a r n ≡ false_formula
  false_node_holds q = is.false_node_holds q

  pub true_node_holds : node_kind r n ≡ 1 → formula a r n ≡ true_formula
  true_node_holds q = is.true_node_holds q

  pub or_node_holds : node_kind r n ≡ 2 → formula a r n ≡ disj (formula a r (suc n)) (formula a r (node_y r n))
  or_node_holds q = is.or_node_holds q ∙ ap (λ (φ : Formula). disj φ (formula a r (node_y r n))) (first (omega arith) (omega arith))

  pub and_node_holds : node_kind r n ≡ 3 → formula a r n ≡ conj (formula a r (suc n)) (formula a r (node_y r n))
  and_node_holds q = is.and_node_holds q ∙ ap (λ (φ : Formula). conj φ (formula a r (node_y r n))) (first (omega arith) (omega arith))

  pub some_node_holds : node_kind r n ≡ 4 → formula a r n ≡ some (action_formula a (node_x r n)) (formula a r (suc n))
  some_node_holds q = is.some_node_holds q ∙ ap (some (action_formula a (node_x r n))) (under (omega arith) (omega arith))

  pub every_node_holds : node_kind r n ≡ 5 → formula a r n ≡ every (action_formula a (node_x r n)) (formula a r (suc n))
  every_node_holds q = is.every_node_holds q ∙ ap (every (action_formula a (node_x r n))) (under (omega arith) (omega arith))

  pub variable_node_holds : node_kind r n ≡ 6 → formula a r n ≡ var (node_x r n)
  variable_node_holds q = is.variable_node_holds q

  pub least_node_holds : node_kind r n ≡ 7 → formula a r n ≡ least (node_x r n) (formula a r (suc n))
  least_node_holds q = is.least_node_holds q ∙ ap (least (node_x r n)) (body (omega arith) (omega arith))

  pub greatest_node_holds : node_kind r n ≡ 8 → formula a r n ≡ greatest (node_x r n) (formula a r (suc n))
  greatest_node_holds q = is.greatest_node_holds q ∙ ap (greatest (node_x r n)) (body (omega arith) (omega arith))
