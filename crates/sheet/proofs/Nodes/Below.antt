-- In a rule whose nodes are the root's subtree, the end of a node's subtree, the nodes below it and the binder of a variable are found.
use Prim.Native.Nat.{ℕ, ◌<◌, ◌≤◌}
use mathlib.Core.Path.{◌≡◌, sym, subst, ◌∙◌}
use mathlib.Core.Bool.{true}
use mathlib.Core.List.{List}
use mathlib.Core.Logic.{◌↔◌}
use native.Mathlib.Omega.{arith}
use lib.Dec.{ltb}
use borrow.Author.Tests.{lt-ltb, ltb-true}
use Rattle.sheet.specs.Rule.{node_count, binder_node, subtree_end, below}
use Rattle.sheet.specs.WellFormed.{Subtree, Below, Binds}
use Rattle.sheet.specs.Subtrees.{NodesFound}
use Rattle.sheet.proofs.Checks.Checks.{and_parts, all}
use Rattle.sheet.proofs.Nodes.Subtrees.{subtree_end_lem, subtree_inside, subtree_nests}
use Rattle.sheet.proofs.Nodes.Binders.{binder_found, binder_node_lem}

module _ (entries : ℕ) (r : List ℕ) (few : node_count r ≤ 64) (whole : Subtree entries r 0 (node_count r)) where
  end_of : (b e : ℕ) → b < node_count r → Subtree entries r b e → subtree_end r b ≡ e
  end_of b e l p = subtree_end_lem p (omega (arith, subtree_nests whole (omega arith) l p))

  end_iff : (b e : ℕ) → b < node_count r → (subtree_end r b ≡ e) ↔ Subtree entries r b e
  end_iff b e l =
      let w = subtree_inside b whole (omega arith) l in
      (λ q. subst (Subtree entries r b) (sym (end_of b w.end l w.whole) ∙ q) w.whole, end_of b e l)

  below_iff : (b n : ℕ) → b < node_count r → (below r b n ≡ true) ↔ Below entries r b n
  below_iff b n l =
      let w = subtree_inside b whole (omega arith) l in
      let e = end_of b w.end l w.whole in (
        λ q.
            let t = and_parts (ltb b n) (ltb n (subtree_end r b)) q in
            record { end = w.end; whole = w.whole; after = ltb-true b n t.0; inside = omega (arith, e, ltb-true n (subtree_end r b) t.1) },
        λ u.
            let i = end_of b u.end l u.whole in
            all (ltb b n) (ltb n (subtree_end r b)) (lt-ltb b n u.after) (lt-ltb n (subtree_end r b) (omega (arith, i, u.inside))),
      )

binder_iff : (r : List ℕ) (b k : ℕ) → b < node_count r → (binder_node r k ≡ b) ↔ Binds r b k
binder_iff r b k l =
    (λ q. subst (λ (i : ℕ). Binds r i k) q (binder_found r k (omega (arith, q))), binder_node_lem r b k)

pub nodes_found : NodesFound
nodes_found = record { end_found = end_iff; below_found = below_iff; binder_found = binder_iff }
