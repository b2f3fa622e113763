-- The subtree of a node by the course of its kind: what one step of the recursive reading shows.
use Prim.Native.Nat.{ℕ, suc, ◌+◌, ◌-◌, ◌<◌, ◌≤◌}
use mathlib.Core.Path.{◌≡◌, refl, sym, ap, ◌∙◌}
use mathlib.Core.Bool.{true, false, ◌&&◌}
use mathlib.Core.List.{List}
use native.Mathlib.Omega.{arith}
use lib.Dec.{eqb, ltb}
use Rattle.sheet.specs.Rule.{node_count, node_kind, node_x, node_y, Shape, shape_of, child_is, fault_at, second, course, extent, first_fault, syntax_fault}
use Rattle.sheet.specs.Internal.Subtrees.{NodeOf, Bounded, Ended}
use Rattle.sheet.specs.declared.Node.{Node}
use Rattle.std.specs.Prelude.{Err, Ok}
use Rattle.sheet.specs.Rule.{Extent}
use Rattle.sheet.proofs.Checks.Checks.{and_parts}
use Rattle.sheet.proofs.Nodes.Shapes.{shape_leaf, shape_pair, shape_modal, shape_variable, shape_binder, shape_unknown}
use Rattle.sheet.proofs.Nodes.Extents.{child as is_child, bounded_from}

-- a child that stands at its place is a node of the rule
module _ (r : List ℕ) (n : ℕ) (node : NodeOf r n) where
  pub child_node : (child place : ℕ) → child_is r child place ≡ true → NodeOf r place
  child_node child place e =
      record { small = node.small; among = (is_child r child place e).1 }

  pub modal_node : (entries : ℕ) → (ltb (node_x r n) entries && child_is r (node_y r n) (n + 1)) ≡ true → NodeOf r (n + 1)
  modal_node entries e = child_node (node_y r n) (n + 1) (and_parts (ltb (node_x r n) entries) (child_is r (node_y r n) (n + 1)) e).1

one_step : (entries : ℕ) (r : List ℕ) (n d : ℕ) → extent (suc d) entries r n ≡ course (extent d entries r) entries r n (shape_of (node_kind r n))
unfolding extent
one_step entries r n d = refl

module _ (entries : ℕ) (r : List ℕ) (n : ℕ) (node : NodeOf r n) where
  opened : (depth : ℕ) → node_count r ≤ depth + n → extent depth entries r n ≡ course (extent (depth - 1) entries r) entries r n (shape_of (node_kind r n))
  opened depth h =
      let s : depth ≡ suc (depth - 1) = omega (arith, node.among) in
      ap (λ (d : ℕ). extent d entries r n) s ∙ one_step entries r n (depth - 1)

  here : (depth : ℕ) (s : Shape) (x : Extent) → node_count r ≤ depth + n → shape_of (node_kind r n) ≡ s → course (extent (depth - 1) entries r) entries r n s ≡ x → extent depth entries r n ≡ x
  here depth s x h e f = opened depth h ∙ (ap (course (extent (depth - 1) entries r) entries r n) e ∙ f)

  faulty_here : Bounded n (node_count r) (fault_at n)
  faulty_here = (omega arith, node.among)

  ends_here : Bounded n (node_count r) (Ok (n + 1))
  ends_here = (omega arith, omega (arith, node.among))

  pub ended_leaf : node_kind r n < 2 → (eqb (node_x r n) 0 && eqb (node_y r n) 0) ≡ true → Ended entries r n (Ok (n + 1))
  ended_leaf k e = record { is = λ d h. here d _ _ h (shape_leaf (node_kind r n) k) (rw e); bounded = ends_here }

  pub ended_leaf_fault : node_kind r n < 2 → (eqb (node_x r n) 0 && eqb (node_y r n) 0) ≡ false → Ended entries r n (fault_at n)
  ended_leaf_fault k e = record { is = λ d h. here d _ _ h (shape_leaf (node_kind r n) k) (rw e); bounded = faulty_here }

  pub ended_variable : node_kind r n ≡ 6 → eqb (node_y r n) 0 ≡ true → Ended entries r n (Ok (n + 1))
  ended_variable k e = record { is = λ d h. here d _ _ h (shape_variable (node_kind r n) k) (rw e); bounded = ends_here }

  pub ended_variable_fault : node_kind r n ≡ 6 → eqb (node_y r n) 0 ≡ false → Ended entries r n (fault_at n)
  ended_variable_fault k e = record { is = λ d h. here d _ _ h (shape_variable (node_kind r n) k) (rw e); bounded = faulty_here }

  pub ended_unknown : 9 ≤ node_kind r n → Ended entries r n (fault_at n)
  ended_unknown k = record { is = λ d h. here d _ _ h (shape_unknown (node_kind r n) k) refl; bounded = faulty_here }

  pub ended_modal_fault : 4 ≤ node_kind r n → node_kind r n < 6 → (ltb (node_x r n) entries && child_is r (node_y r n) (n + 1)) ≡ false → Ended entries r n (fault_at n)
  ended_modal_fault k l e = record { is = λ d h. here d _ _ h (shape_modal (node_kind r n) k l) (rw e); bounded = faulty_here }

  pub ended_binder_fault : 7 ≤ node_kind r n → node_kind r n < 9 → child_is r (node_y r n) (n + 1) ≡ false → Ended entries r n (fault_at n)
  ended_binder_fault k l e = record { is = λ d h. here d _ _ h (shape_binder (node_kind r n) k l) (rw e); bounded = faulty_here }

  pub ended_pair_fault : 2 ≤ node_kind r n → node_kind r n < 4 → child_is r (node_x r n) (n + 1) ≡ false → Ended entries r n (fault_at n)
  ended_pair_fault k l e = record { is = λ d h. here d _ _ h (shape_pair (node_kind r n) k l) (rw e); bounded = faulty_here }

  module _ (x : Extent) (child : Ended entries r (n + 1) x) where
    below : (depth : ℕ) → node_count r ≤ depth + n → extent (depth - 1) entries r (n + 1) ≡ x
    below depth h = child.is (depth - 1) (omega (arith, node.among))

    carried : Bounded n (node_count r) x
    carried = bounded_from n (n + 1) (node_count r) x (omega arith) child.bounded

    pub ended_modal : 4 ≤ node_kind r n → node_kind r n < 6 → (ltb (node_x r n) entries && child_is r (node_y r n) (n + 1)) ≡ true → Ended entries r n x
    ended_modal k l e = record { is = λ d h. here d _ _ h (shape_modal (node_kind r n) k l) (rw e (below d h)); bounded = carried }

    pub ended_binder : 7 ≤ node_kind r n → node_kind r n < 9 → child_is r (node_y r n) (n + 1) ≡ true → Ended entries r n x
    ended_binder k l e = record { is = λ d h. here d _ _ h (shape_binder (node_kind r n) k l) (rw e (below d h)); bounded = carried }

    module _ (k : 2 ≤ node_kind r n) (l : node_kind r n < 4) (e : child_is r (node_x r n) (n + 1) ≡ true) where
      paired : (depth : ℕ) (y : Extent) → node_count r ≤ depth + n → second (extent (depth - 1) entries r) r n x ≡ y → extent depth entries r n ≡ y
      paired depth y h f =
          here depth _ _ h (shape_pair (node_kind r n) k l)
          (rw e (ap (second (extent (depth - 1) entries r) r n) (below depth h) ∙ f))

      pub ended_first_fault : (m : Node) → x ≡ Err m → Ended entries r n (Err m)
      ended_first_fault m q =
          record { is = λ d h. paired d _ h (ap (second (extent (d - 1) entries r) r n) q); bounded = rw q at carried }

      pub ended_second_fault : (m : ℕ) → x ≡ Ok m → child_is r (node_y r n) m ≡ false → Ended entries r n (fault_at n)
      ended_second_fault m q f =
          record { is = λ d h. paired d _ h (ap (second (extent (d - 1) entries r) r n) q ∙ rw f); bounded = faulty_here }

      pub ended_pair : (m : ℕ) (y : Extent) → x ≡ Ok m → child_is r (node_y r n) m ≡ true → Ended entries r m y → Ended entries r n y
      ended_pair m y q f next =
          let b : Bounded n (node_count r) (Ok m) = rw q at carried in
          record {
            is = λ d h. paired d _ h (ap (second (extent (d - 1) entries r) r n) q ∙ rw f (next.is (d - 1) (omega (arith, node.among, b.0))));
            bounded = bounded_from n m (node_count r) y (omega (arith, b.0)) next.bounded;
          }

-- where the first child's subtree ends, its parent has a later node to go on with
pub later : (entries : ℕ) (r : List ℕ) (n m : ℕ) (x : Extent) → Ended entries r (n + 1) x → x ≡ Ok m → n + 1 < m
later entries r n m x child q = let b : Bounded (n + 1) (node_count r) (Ok m) = rw q at child.bounded in b.0

pub root_fault : (entries : ℕ) (r : List ℕ) (x : Extent) → Ended entries r 0 x → first_fault x ≡ syntax_fault entries r
root_fault entries r x e = ap first_fault (sym (e.is (node_count r) (omega arith)))

pub root_bound : (entries : ℕ) (r : List ℕ) (x : Extent) → Ended entries r 0 x → first_fault x ≤ node_count r
root_bound entries r x e = go x e.bounded
  where
    go : (y : Extent) → Bounded 0 (node_count r) y → first_fault y ≤ node_count r
    go (Ok m) b = b.1
    go (Err m) b = omega (arith, b.1)
