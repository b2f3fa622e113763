-- How many children a node has: by its kind, and by the subtrees that stand behind it.
use Prim.Native.Nat.{ℕ, suc, ◌+◌, ◌<◌, ◌≤◌}
use mathlib.Core.Path.{◌≡◌, refl, sym, ap, subst, ◌∙◌}
use mathlib.Core.Bool.{false}
use mathlib.Core.List.{List}
use mathlib.Core.Logic.{◌⊎◌, inl, inr}
use native.Mathlib.Omega.{arith}
use lib.Dec.{eqb}
use borrow.Author.Tests.{ne_eqb}
use Rattle.sheet.specs.Rule.{node_kind}
use Rattle.sheet.specs.WellFormed.{Subtree}
use Rattle.sheet.specs.Kinds.{child_count}
use Rattle.sheet.specs.Children.{Forest, ChildrenCounted}
use Rattle.sheet.proofs.Nodes.Shapes.{one_of}
use Rattle.sheet.proofs.Nodes.Subtrees.{subtree_after, subtree_one}

-- ---- by the kind

of_two : (count a k : ℕ) → (k ≡ a) ⊎ (k ≡ a + 1) → child_count a ≡ count → child_count (a + 1) ≡ count → child_count k ≡ count
of_two count a k (inl q) h g = ap child_count q ∙ h
of_two count a k (inr q) h g = ap child_count q ∙ g

pub count_leaf : (k : ℕ) → k < 2 → child_count k ≡ 0
count_leaf k l = of_two 0 0 k (one_of k 0 (omega arith) l) refl refl

pub count_pair : (k : ℕ) → 2 ≤ k → k < 4 → child_count k ≡ 2
count_pair k h l = of_two 2 2 k (one_of k 2 h l) refl refl

pub count_modal : (k : ℕ) → 4 ≤ k → k < 6 → child_count k ≡ 1
count_modal k h l = of_two 1 4 k (one_of k 4 h l) refl refl

pub count_variable : (k : ℕ) → k ≡ 6 → child_count k ≡ 0
count_variable k q = ap child_count q

pub count_binder : (k : ℕ) → 7 ≤ k → k < 9 → child_count k ≡ 1
count_binder k h l = of_two 1 7 k (one_of k 7 h l) refl refl

pub count_unknown : (k : ℕ) → 9 ≤ k → child_count k ≡ 0
count_unknown k h =
    simp (
      apart 0 (omega arith),
      apart 1 (omega arith),
      apart 2 (omega arith),
      apart 3 (omega arith),
      apart 4 (omega arith),
      apart 5 (omega arith),
      apart 6 (omega arith),
      apart 7 (omega arith),
      apart 8 (omega arith),
    )
  where
    apart : (a : ℕ) → a < 9 → eqb k a ≡ false
    apart a l = ne_eqb k a (λ q. omega arith)

-- ---- by the subtrees behind the node

module _ {entries : ℕ} {r : List ℕ} where
  forest_within : {count n e : ℕ} → Forest entries r count n e → n ≤ e
  forest_within Forest.none = omega arith
  forest_within (Forest.more p f) = omega (arith, subtree_after p, forest_within f)

  -- the nodes from n up to e are one number of subtrees only
  forest_alike : {count count' n n' e e' : ℕ} → Forest entries r count n e → Forest entries r count' n' e' → n ≡ n' → e ≡ e' → count ≡ count'
  forest_alike Forest.none Forest.none a b = refl
  forest_alike Forest.none (Forest.more q g) a b = absurd (omega (arith, subtree_after q, forest_within g))
  forest_alike (Forest.more p f) Forest.none a b = absurd (omega (arith, subtree_after p, forest_within f))
  forest_alike (Forest.more {m = i} p f) (Forest.more q g) a b =
      ap suc (forest_alike f g (subtree_one (subst (λ (m : ℕ). Subtree entries r m i) a p) q) b)

  forest_one : {count count' n e : ℕ} → Forest entries r count n e → Forest entries r count' n e → count ≡ count'
  forest_one f g = forest_alike f g refl refl

  recount : {count count' n e : ℕ} → count ≡ count' → Forest entries r count n e → Forest entries r count' n e
  recount {n = n} {e = e} q f = subst (λ (c : ℕ). Forest entries r c n e) q f

  children_forest : {n e : ℕ} → Subtree entries r n e → Forest entries r (child_count (node_kind r n)) (suc n) e
  children_forest {n} (Subtree.constant k x y) = recount (sym (count_leaf (node_kind r n) (omega arith))) Forest.none
  children_forest {n} (Subtree.variable k y) = recount (sym (count_variable (node_kind r n) k)) Forest.none
  children_forest {n} (Subtree.pair k x p y q) =
      recount (sym (of_two 2 2 (node_kind r n) k refl refl)) (Forest.more p (Forest.more q Forest.none))
  children_forest {n} (Subtree.modal k x y p) = recount (sym (of_two 1 4 (node_kind r n) k refl refl)) (Forest.more p Forest.none)
  children_forest {n} (Subtree.binder k y p) = recount (sym (of_two 1 7 (node_kind r n) k refl refl)) (Forest.more p Forest.none)

pub children_counted : ChildrenCounted
children_counted = record {
  false_node_holds = refl;
  true_node_holds = refl;
  or_node_holds = refl;
  and_node_holds = refl;
  some_node_holds = refl;
  every_node_holds = refl;
  variable_node_holds = refl;
  least_node_holds = refl;
  greatest_node_holds = refl;
  no_kind = λ k h. count_unknown k (omega arith);
  in_rule =
      λ entries r n e p count. (λ f. forest_one f (children_forest p), λ q. recount (sym q) (children_forest p));
}
