-- The nodes and binders of a translation are as many as its pattern says. Three times its nodes are more than the bytes of the pattern:
-- only a short pattern has a translation of 64 nodes.
use Prim.Native.Nat.{ℕ, suc, ◌+◌, ◌*◌, ◌≤◌}
use mathlib.Core.Path.{◌≡◌, refl}
use mathlib.Core.Bool.{Bool}
use native.Mathlib.Nat.{one-le-mul, mul-le-mul_right}
use native.Mathlib.Omega.{arith}
use lib.ListN.{length, length-append}
use Rattle.calculus.specs.Trees.{Tree, variable, tree_size, binders}
use Rattle.calculus.proofs.Trees.Stands.{size_some}
use Rattle.patterns.specs.Patterns.{Pattern, action, sequence, choice, repetition, written, pattern_bytes}
use Rattle.patterns.specs.Translation.{before, translation, raised}
use Rattle.patterns.specs.Sizes.{copies, fixed_nodes, own_binders, SizesExactly}
use Rattle.patterns.proofs.Translation.Raised.{raised_size, raised_binders}

-- the tree has c nodes and d binders
abbrev Has : Tree → ℕ → ℕ → Type 0
Has t c d = (tree_size t ≡ c) × (binders t ≡ d)

module _ (every : Bool) where
  -- a pattern before what follows, of c nodes and d binders wherever it stands
  before_has : (R : Pattern) (k : ℕ → Tree) (c d : ℕ) → ((m : ℕ) → Has (k m) c d) → (n : ℕ)
      → Has (before every R k n) (fixed_nodes R + copies R * c) (own_binders R + copies R * d)
  unfolding before tree_size binders copies fixed_nodes own_binders
  before_has (action e) k c d h n = omega (arith, h n)
  before_has (sequence R Q) k c d h n =
      let g = before_has Q k c d h in
      omega (arith, before_has R (before every Q k) (fixed_nodes Q + copies Q * c) (own_binders Q + copies Q * d) g n)
  before_has (choice R Q) k c d h n =
      omega (arith, before_has R k c d h n, before_has Q k c d h (n + binders (before every R k n)))
  before_has (repetition R) k c d h n =
      omega (arith, h (suc n), before_has R (λ m. variable n) 1 0 (λ m. (refl, refl)) (suc n + binders (k (suc n))))

pub sizes_exactly : SizesExactly
unfolding translation
sizes_exactly every R p =
    let h = before_has every R (λ n. raised n p) (tree_size p) (binders p) (λ n. (raised_size n p, raised_binders n p)) 0 in
    record { nodes_are = h.0; binders_are = h.1 }

copies_some : (R : Pattern) → 1 ≤ copies R
unfolding copies
copies_some (action e) = omega arith
copies_some (sequence R Q) = one-le-mul (copies_some R) (copies_some Q)
copies_some (choice R Q) = omega (arith, copies_some R)
copies_some (repetition R) = omega arith

written_short : (R : Pattern) → length (written R) + 1 ≤ 3 * fixed_nodes R
unfolding written fixed_nodes
written_short (action e) = omega arith
written_short (sequence R Q) =
    let l = length-append (written R) (written Q) in
    omega (arith, written_short R, written_short Q, mul-le-mul_right (fixed_nodes Q) (copies_some R))
written_short (choice R Q) = omega (arith, length-append (written R) (written Q), written_short R, written_short Q)
written_short (repetition R) = omega (arith, written_short R)

pub short_pattern : (every : Bool) (R : Pattern) (t : Tree) → tree_size (translation every R t) ≤ 64 → length (pattern_bytes every R) ≤ 189
short_pattern every R t h =
    omega (arith, (sizes_exactly every R t).nodes_are, written_short R, one-le-mul (copies_some R) (size_some t))
