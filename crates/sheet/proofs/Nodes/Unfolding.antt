-- The reader's walk over the nodes never comes to the end of its depth: it follows the equation of the course of each kind, and finds
-- the subtrees.
use Prim.Native.Nat.{ℕ, zero, suc, ◌+◌, ◌<◌, ◌≤◌}
use mathlib.Core.Path.{◌≡◌, refl, sym, ap, subst, ◌∙◌}
use mathlib.Core.Bool.{Bool, true, false, ◌&&◌}
use mathlib.Core.List.{List}
use mathlib.Core.Logic.{◌↔◌}
use native.Mathlib.Omega.{arith}
use lib.Dec.{ltb}
use Rattle.sheet.specs.Bytes.{pick}
use Rattle.sheet.specs.Rule.{node_count, node_kind, node_x, node_y, Shape, shape_of, leaf, pair, modal, variable, binder, unknown}
use Rattle.sheet.specs.Rule.{child_is, fault_at, second, course, extent, first_fault, syntax_fault}
use Rattle.sheet.specs.WellFormed.{Subtree}
use Rattle.sheet.specs.Subtrees.{Walked, Subtrees}
use Rattle.sheet.specs.Internal.Subtrees.{Bounded}
use Rattle.std.specs.Prelude.{Err, Ok}
use Rattle.sheet.specs.Rule.{Extent}
use Rattle.sheet.proofs.Checks.Checks.{and_parts}
use Rattle.sheet.proofs.Nodes.Extents.{child, extent_subtree, subtree_extent, extent_bounded}

pick_same : (n : ℕ) (b : Bool) {x y : Extent} → (b ≡ true → x ≡ y) → pick b x (fault_at n) ≡ pick b y (fault_at n)
pick_same n true h = h refl
pick_same n false h = refl

-- two ways to go on that agree on the later nodes of the rule take the same course
module _ (entries : ℕ) (r : List ℕ) (go go' : ℕ → Extent) (n : ℕ) (same : (m : ℕ) → n < m → m < node_count r → go m ≡ go' m)
    (goes : (m : ℕ) → n < m → m < node_count r → Bounded m (node_count r) (go m)) where
  child_same : (c : ℕ) → child_is r c (n + 1) ≡ true → go (n + 1) ≡ go' (n + 1)
  child_same c q = same (n + 1) (omega arith) (child r c (n + 1) q).1

  second_same : (x : Extent) → Bounded (n + 1) (node_count r) x → second go r n x ≡ second go' r n x
  second_same (Err m) b = refl
  second_same (Ok e) b = pick_same n (child_is r (node_y r n) e) (λ q. same e (omega (arith, b.0)) (child r (node_y r n) e q).1)

  course_same : (s : Shape) → course go entries r n s ≡ course go' entries r n s
  course_same leaf = refl
  course_same pair =
      pick_same n (child_is r (node_x r n) (n + 1))
      (λ q. second_same (go (n + 1)) (goes (n + 1) (omega arith) (child r (node_x r n) (n + 1) q).1) ∙ ap (second go' r n) (child_same (node_x r n) q))
  course_same modal =
      pick_same n (ltb (node_x r n) entries && child_is r (node_y r n) (n + 1))
      (λ q. child_same (node_y r n) (and_parts (ltb (node_x r n) entries) (child_is r (node_y r n) (n + 1)) q).1)
  course_same variable = refl
  course_same binder = pick_same n (child_is r (node_y r n) (n + 1)) (child_same (node_y r n))
  course_same unknown = refl

module _ (entries : ℕ) (r : List ℕ) where
  -- every depth of at least the number of nodes from n on finds the same
  extent_same : (d d' n : ℕ) → n < node_count r → node_count r ≤ d + n → node_count r ≤ d' + n → extent d entries r n ≡ extent d' entries r n
  unfolding extent
  extent_same zero d' n l h h' = absurd (omega arith)
  extent_same (suc d) zero n l h h' = absurd (omega arith)
  extent_same (suc d) (suc d') n l h h' =
      course_same entries r (extent d entries r) (extent d' entries r) n (λ m g k. extent_same d d' m k (omega arith) (omega arith))
      (λ m g k. extent_bounded entries r d m k (omega arith)) (shape_of (node_kind r n))

  module _ (depth n : ℕ) (l : n < node_count r) (h : node_count r ≤ depth + n) where
    extent_unfolds : extent depth entries r n ≡ course (extent depth entries r) entries r n (shape_of (node_kind r n))
    unfolding extent
    extent_unfolds = extent_same depth (suc depth) n l h (omega arith)

    walk : Walked entries r depth n
    walk = record {
      unfolds = extent_unfolds;
      deeper = λ more. extent_same (depth + more) depth n l (omega arith) h;
      ends = λ e. (
        λ q. let f = extent_subtree entries r depth n e q in (f.0, f.1 l),
        λ p. subtree_extent entries r depth n e p.0 p.1 (omega (arith, p.1)),
      );
    }

  whole_iff : 1 ≤ node_count r → (syntax_fault entries r ≡ node_count r) ↔ Subtree entries r 0 (node_count r)
  whole_iff h = (
    go (extent (node_count r) entries r 0) refl (extent_bounded entries r (node_count r) 0 h (omega arith)),
    λ p. ap first_fault (subtree_extent entries r (node_count r) 0 (node_count r) p (omega arith) (omega arith)),
  )
    where
      go : (x : Extent) → extent (node_count r) entries r 0 ≡ x → Bounded 0 (node_count r) x → first_fault (extent (node_count r) entries r 0) ≡ node_count r
          → Subtree entries r 0 (node_count r)
      go (Ok e) q b s = subst (Subtree entries r 0) (sym (ap first_fault q) ∙ s) (extent_subtree entries r (node_count r) 0 e q).0
      go (Err m) q b s = absurd (omega (arith, ap first_fault q))

pub subtrees : Subtrees
subtrees = record { walked = walk; faultless = whole_iff }
