-- A rule as a syntax tree, between the nodes of document 01's "Kind 3, rule" and the formulas of Table 1: a modality names its action entry
-- by number, as a node does. Kinds go in twos, F and T, or and and, some and every, least and greatest: a flag says which of the two, false
-- for the first.
use Rattle.std.specs.Prelude.{ℕ, zero, suc, ◌+◌, ◌≤◌, ◌≡◌, Bool, true, false, List, [], ◌∷◌, ◌++◌, eqb}
use Rattle.sheet.specs.Rule as Rule
use Rattle.sheet.specs.Rule.{node_count, node_kind, node_x, node_y, binder_count, one_if, shape_of}
use Rattle.sheet.specs.WellFormed.{WellFormedRule}
use Rattle.calculus.specs.Formulas.{Formula, false_formula, true_formula, disj, conj, some, every, var, least, greatest}
use Rattle.calculus.specs.Decode.{action_formula, formula}

-- "0 F, 1 T, 2 or, 3 and (children x, y), 4 some (diamond), 5 every (box) (x an action entry below the count, y the child), 6 variable x,
-- 7 least, 8 greatest fixed point (x the variable bound, y the child)."
pub data Tree : Type 0 where
  -- F, T
  constant : Bool → Tree
  -- or, and
  pair : Bool → Tree → Tree → Tree
  -- some, every: the number of the action entry, and the child
  modal : Bool → ℕ → Tree → Tree
  variable : ℕ → Tree
  -- least, greatest: the variable bound, and the child
  binder : Bool → ℕ → Tree → Tree

-- the formula of a tree, over the action table a
unfoldable pub formula_of : List ℕ → Tree → Formula
formula_of a (constant false) = false_formula
formula_of a (constant true) = true_formula
formula_of a (pair false l r) = disj (formula_of a l) (formula_of a r)
formula_of a (pair true l r) = conj (formula_of a l) (formula_of a r)
formula_of a (modal false e t) = some (action_formula a e) (formula_of a t)
formula_of a (modal true e t) = every (action_formula a e) (formula_of a t)
formula_of a (variable X) = var X
formula_of a (binder false X t) = least X (formula_of a t)
formula_of a (binder true X t) = greatest X (formula_of a t)

-- how many nodes it has, as "Count N" counts those of a rule
unfoldable pub tree_size : Tree → ℕ
tree_size (constant b) = 1
tree_size (pair b l r) = suc (tree_size l + tree_size r)
tree_size (modal b e t) = suc (tree_size t)
tree_size (variable X) = 1
tree_size (binder b X t) = suc (tree_size t)

-- how many binders, as "B, their number"
unfoldable pub binders : Tree → ℕ
binders (constant b) = 0
binders (pair b l r) = binders l + binders r
binders (modal b e t) = binders t
binders (variable X) = 0
binders (binder b X t) = suc (binders t)

-- "nodes of kind, x, y", "in preorder": those of a tree whose root is node n. "a first or only child is the next node, a second child the
-- first node after the first child's part"; "Unused fields are 0."
unfoldable pub nodes_from : ℕ → Tree → List ℕ
nodes_from n (constant b) = one_if b ∷ 0 ∷ 0 ∷ []
nodes_from n (pair b l r) =
    (2 + one_if b) ∷ suc n ∷ (suc n + tree_size l) ∷ (nodes_from (suc n) l ++ nodes_from (suc n + tree_size l) r)
nodes_from n (modal b e t) = (4 + one_if b) ∷ e ∷ suc n ∷ nodes_from (suc n) t
nodes_from n (variable X) = 6 ∷ X ∷ 0 ∷ []
nodes_from n (binder b X t) = (7 + one_if b) ∷ X ∷ suc n ∷ nodes_from (suc n) t

-- "Count N (1 byte, 1 to 64), then nodes of kind, x, y. .. node 0 the root": the rule body of a tree
unfoldable pub encode : Tree → List ℕ
encode t = tree_size t ∷ nodes_from 0 t

-- the tree of node n by the shape of its kind, where go gives the trees of its children
abbrev pub tree_course : (ℕ → Tree) → List ℕ → ℕ → Rule.Shape → Tree
tree_course go r n Rule.leaf = constant (eqb (node_kind r n) 1)
tree_course go r n Rule.pair = pair (eqb (node_kind r n) 3) (go (node_x r n)) (go (node_y r n))
tree_course go r n Rule.modal = modal (eqb (node_kind r n) 5) (node_x r n) (go (node_y r n))
tree_course go r n Rule.variable = variable (node_x r n)
tree_course go r n Rule.binder = binder (eqb (node_kind r n) 8) (node_x r n) (go (node_y r n))
-- no accepted sheet has another kind
tree_course go r n Rule.unknown = constant false

-- the same down to a depth: every depth of at least the number of its nodes gives the tree
unfoldable pub tree_within : ℕ → List ℕ → ℕ → Tree
tree_within zero r n = constant false
tree_within (suc depth) r n = tree_course (tree_within depth r) r n (shape_of (node_kind r n))

-- the tree of a rule body; "Count N (1 byte, 1 to 64)", so that a depth of 64 nodes is enough
abbrev pub tree_of : List ℕ → Tree
tree_of r = tree_within 64 r 0

-- ---- what trees are to bodies and formulas; shown by trees_exactly of proofs/Trees/TreeOf.antt

-- of the rule body r of an accepted sheet
pub record TreeOfRule (r : List ℕ) : Type 0 where
  -- the nodes of its tree, in preorder, are its bytes
  pub encoded : encode (tree_of r) ≡ r
  -- the formula of its tree is the one that it holds
  pub decoded : (a : List ℕ) → formula_of a (tree_of r) ≡ formula a r 0
  -- N and B
  pub nodes_are : tree_size (tree_of r) ≡ node_count r
  pub binders_are : binders (tree_of r) ≡ binder_count r

-- of the body of a tree: it is that of no other tree, and holds the tree's formula
pub record BodyOfTree (t : Tree) : Type 0 where
  pub back : tree_of (encode t) ≡ t
  pub decoded : (a : List ℕ) → formula a (encode t) 0 ≡ formula_of a t

-- of every rule body that keeps its rules, and of every tree of at most 64 nodes
pub record TreesExactly : Type 0 where
  pub of_rules : (entries : ℕ) (r : List ℕ) → WellFormedRule entries r → TreeOfRule r
  pub of_trees : (t : Tree) → tree_size t ≤ 64 → BodyOfTree t
