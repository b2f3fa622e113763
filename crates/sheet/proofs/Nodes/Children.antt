-- The nodes of a well-formed rule: each has its subtree within the rule, and its children stand where its fields say.
use Prim.Native.Nat.{ℕ, suc, ◌<◌, ◌≤◌}
use mathlib.Core.Path.{◌≡◌}
use mathlib.Core.List.{List}
use native.Mathlib.Omega.{arith}
use Rattle.sheet.specs.Rule.{node_count, node_kind, node_x, node_y}
use Rattle.sheet.specs.WellFormed.{Subtree, WellFormedRule}
use Rattle.sheet.proofs.Nodes.Subtrees.{SubtreeWithin, subtree_after, subtree_kind, subtree_inside, pair_subtrees, modal_subtree, binder_subtree}

-- the first child of a pair is the next node, the second the node where the first child's subtree ends
pub record PairChildren (entries : ℕ) (r : List ℕ) (n : ℕ) : Type 0 where
  pub x_is : node_x r n ≡ suc n
  pub first : Subtree entries r (suc n) (node_y r n)
  pub after : suc n < node_y r n
  pub below : node_y r n < node_count r

pub record ModalChild (entries : ℕ) (r : List ℕ) (n : ℕ) : Type 0 where
  pub x_below : node_x r n < entries
  pub y_is : node_y r n ≡ suc n
  pub below : suc n < node_count r

pub record BinderChild (r : List ℕ) (n : ℕ) : Type 0 where
  pub y_is : node_y r n ≡ suc n
  pub below : suc n < node_count r

module _ {entries : ℕ} {r : List ℕ} (kept : WellFormedRule entries r) (n : ℕ) (among : n < node_count r) where
  pub node_subtree : SubtreeWithin entries r n (node_count r)
  node_subtree = subtree_inside n kept.whole (omega arith) among

  pub node_kind_lem : node_kind r n ≤ 8
  node_kind_lem = subtree_kind node_subtree.whole

  pub pair_children : 2 ≤ node_kind r n → node_kind r n < 4 → PairChildren entries r n
  pair_children h g =
      let c = pair_subtrees node_subtree.whole h g in
      record { x_is = c.x_is; first = c.first; after = c.after; below = omega (arith, c.before, node_subtree.within) }

  pub modal_child : 4 ≤ node_kind r n → node_kind r n < 6 → ModalChild entries r n
  modal_child h g =
      let c = modal_subtree node_subtree.whole h g in
      record { x_below = c.x_below; y_is = c.y_is; below = omega (arith, subtree_after c.child, node_subtree.within) }

  pub binder_child : 7 ≤ node_kind r n → node_kind r n < 9 → BinderChild r n
  binder_child h g =
      let c = binder_subtree node_subtree.whole h g in
      record { y_is = c.y_is; below = omega (arith, subtree_after c.child, node_subtree.within) }
