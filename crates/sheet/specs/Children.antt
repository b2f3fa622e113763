-- Document 02 (d): how many children a node kind has "is proved to give document 01's number for each kind from 0 to 8", and it is the
-- number of children that a node of the kind has in every rule. Shown by children_counted of proofs/Nodes/Arity.antt.
use Rattle.std.specs.Prelude.{ℕ, suc, ◌<◌, ◌≡◌, List, ◌↔◌}
use Rattle.sheet.specs.Rule.{node_kind}
use Rattle.sheet.specs.WellFormed.{Subtree}
use Rattle.sheet.specs.Kinds.{child_count}

-- Subtrees in a row (a forest), as many as count, from node n up to e. Each next one begins where the one before ends: "a second child the
-- first node after the first child's part".
pub data Forest (entries : ℕ) (r : List ℕ) : ℕ → ℕ → ℕ → Type 0 where
  none : {n : ℕ} → Forest entries r 0 n n
  more : {count n m e : ℕ} → Subtree entries r n m → Forest entries r count m e → Forest entries r (suc count) n e

pub record ChildrenCounted : Type 0 where
  -- "0 F, 1 T, 2 or, 3 and (children x, y), 4 some (diamond), 5 every (box) (.. y the child), 6 variable x, 7 least, 8 greatest fixed point
  -- (.. y the child)."
  pub false_node_holds : child_count 0 ≡ 0
  pub true_node_holds : child_count 1 ≡ 0
  pub or_node_holds : child_count 2 ≡ 2
  pub and_node_holds : child_count 3 ≡ 2
  pub some_node_holds : child_count 4 ≡ 1
  pub every_node_holds : child_count 5 ≡ 1
  pub variable_node_holds : child_count 6 ≡ 0
  pub least_node_holds : child_count 7 ≡ 1
  pub greatest_node_holds : child_count 8 ≡ 1
  -- a number over 8 is no kind
  pub no_kind : (k : ℕ) → 8 < k → child_count k ≡ 0
  -- "a first or only child is the next node, a second child the first node after the first child's part": between a node and the end of
  -- its subtree stand the subtrees of its children, so many and no other number
  pub in_rule :
      (entries : ℕ) (r : List ℕ) (n e : ℕ) → Subtree entries r n e
      → (count : ℕ) → Forest entries r count (suc n) e ↔ (count ≡ child_count (node_kind r n))
