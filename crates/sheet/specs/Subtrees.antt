-- `extent` and `subtree_end` of specs/Rule.antt are computed down to a depth. What they are with no depth: the equations of document 01's
-- courses, and the subtrees of specs/WellFormed.antt. Shown by subtrees of proofs/Nodes/Unfolding.antt and nodes_found of
-- proofs/Nodes/Below.antt.
use Rattle.std.specs.Prelude.{ℕ, ◌+◌, ◌<◌, ◌≤◌, ◌≡◌, true, List, ◌↔◌, Ok}
use Rattle.sheet.specs.Rule.{node_count, node_kind, shape_of, course, extent, syntax_fault, binder_node, subtree_end, below}
use Rattle.sheet.specs.WellFormed.{Subtree, Below, Binds}

-- what refusal 9 finds at node n, down to a depth
pub record Walked (entries : ℕ) (r : List ℕ) (depth n : ℕ) : Type 0 where
  -- "for 9 the first fault met in preorder, a second child's number being looked at after the first child's part, .. a missing child the
  -- fault of its parent": the course of the node's kind, with the same for its children
  pub unfolds : extent depth entries r n ≡ course (extent depth entries r) entries r n (shape_of (node_kind r n))
  -- a greater depth finds nothing else
  pub deeper : (more : ℕ) → extent (depth + more) entries r n ≡ extent depth entries r n
  -- an end is found exactly where the nodes up to it are the node's subtree, and are nodes of the rule
  pub ends : (e : ℕ) → (extent depth entries r n ≡ Ok e) ↔ (Subtree entries r n e × (e ≤ node_count r))

-- of every rule body
pub record Subtrees : Type 0 where
  -- at every depth of at least the number of nodes from n on; the place of refusal 9 takes N
  pub walked : (entries : ℕ) (r : List ℕ) (depth n : ℕ) → n < node_count r → node_count r ≤ depth + n → Walked entries r depth n
  -- "9: a node's kind, field or child number.": there is none exactly where the nodes are the root's subtree, "and nothing follows the
  -- root's part"
  pub faultless :
      (entries : ℕ) (r : List ℕ) → 1 ≤ node_count r → (syntax_fault entries r ≡ node_count r) ↔ Subtree entries r 0 (node_count r)

-- What refusal 10 looks at, in a rule that refusals 8 and 9 let pass: N is at most 64, and the nodes are the root's subtree.
pub record NodesFound : Type 0 where
  -- the first node after the subtree of node b
  pub end_found :
      (entries : ℕ) (r : List ℕ) → node_count r ≤ 64 → Subtree entries r 0 (node_count r) → (b e : ℕ) → b < node_count r
      → (subtree_end r b ≡ e) ↔ Subtree entries r b e
  -- "A variable node stands below its binder.": the nodes below node b
  pub below_found :
      (entries : ℕ) (r : List ℕ) → node_count r ≤ 64 → Subtree entries r 0 (node_count r) → (b n : ℕ) → b < node_count r
      → (below r b n ≡ true) ↔ Below entries r b n
  -- "Binders (kinds 7, 8), in preorder, bind variables 0, 1, 2 and so on": node b is the one that binds variable k; of every rule body
  pub binder_found : (r : List ℕ) (b k : ℕ) → b < node_count r → (binder_node r k ≡ b) ↔ Binds r b k
