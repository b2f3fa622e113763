-- The subtree of a node: what each kind of node says of it, and that it is one run of nodes in which the subtrees of its nodes nest.
use Prim.Native.Nat.{ℕ, zero, suc, ◌+◌, ◌<◌, ◌≤◌}
use mathlib.Core.Path.{◌≡◌, sym, ap, subst, ◌∙◌}
use mathlib.Core.List.{List}
use native.Mathlib.Omega.{arith}
use native.Mathlib.Decide.{dec_lt}
use native.Mathlib.Numerals.{add-one}
use Rattle.sheet.specs.Rule.{node_kind, node_x, node_y, Shape, shape_of, leaf, pair, modal, variable, binder, end_course, end_within, subtree_end}
use Rattle.sheet.specs.WellFormed.{Subtree}
use Rattle.sheet.proofs.Nodes.Shapes.{shape_leaf, shape_pair, shape_modal, shape_variable, shape_binder, ranged}

-- ---- the subtree of each kind of node

pub record PairSubtrees (entries : ℕ) (r : List ℕ) (n e : ℕ) : Type 0 where
  pub x_is : node_x r n ≡ suc n
  pub after : suc n < node_y r n
  pub before : node_y r n < e
  pub first : Subtree entries r (suc n) (node_y r n)
  pub second : Subtree entries r (node_y r n) e

pub record ModalSubtree (entries : ℕ) (r : List ℕ) (n e : ℕ) : Type 0 where
  pub x_below : node_x r n < entries
  pub y_is : node_y r n ≡ suc n
  pub child : Subtree entries r (suc n) e

pub record BinderSubtree (entries : ℕ) (r : List ℕ) (n e : ℕ) : Type 0 where
  pub y_is : node_y r n ≡ suc n
  pub child : Subtree entries r (suc n) e

-- node m has a subtree, and it ends at or before e
pub record SubtreeWithin (entries : ℕ) (r : List ℕ) (m e : ℕ) : Type 0 where
  pub end : ℕ
  pub whole : Subtree entries r m end
  pub within : end ≤ e

end_suc : (r : List ℕ) (depth n : ℕ) (s : Shape) → shape_of (node_kind r n) ≡ s → end_within (suc depth) r n ≡ end_course (end_within depth r) r n s
unfolding end_within
end_suc r depth n s q = rw q

module _ {entries : ℕ} {r : List ℕ} where
  pub subtree_after : {n e : ℕ} → Subtree entries r n e → n < e
  subtree_after {n} (Subtree.constant k x y) = omega arith
  subtree_after {n} (Subtree.variable k y) = omega arith
  subtree_after {n} (Subtree.pair k x p y q) = omega (arith, subtree_after p, subtree_after q)
  subtree_after {n} (Subtree.modal k x y p) = omega (arith, subtree_after p)
  subtree_after {n} (Subtree.binder k y p) = omega (arith, subtree_after p)

  pub subtree_kind : {n e : ℕ} → Subtree entries r n e → node_kind r n ≤ 8
  subtree_kind (Subtree.constant k x y) = omega arith
  subtree_kind (Subtree.variable k y) = omega arith
  subtree_kind {n} (Subtree.pair k x p y q) = omega (arith, ranged (node_kind r n) 2 k)
  subtree_kind {n} (Subtree.modal k x y p) = omega (arith, ranged (node_kind r n) 4 k)
  subtree_kind {n} (Subtree.binder k y p) = omega (arith, ranged (node_kind r n) 7 k)

  pub pair_subtrees : {n e : ℕ} → Subtree entries r n e → 2 ≤ node_kind r n → node_kind r n < 4 → PairSubtrees entries r n e
  pair_subtrees (Subtree.constant k x y) h l = absurd (omega arith)
  pair_subtrees (Subtree.variable k y) h l = absurd (omega arith)
  pair_subtrees {n} {e} (Subtree.pair k x p y q) h l =
      record {
        x_is = x;
        after = omega (arith, subtree_after p);
        before = omega (arith, subtree_after q);
        first = rw y p;
        second = subst (λ (m : ℕ). Subtree entries r m e) (sym y) q;
      }
  pair_subtrees {n} (Subtree.modal k x y p) h l = absurd (omega (arith, ranged (node_kind r n) 4 k))
  pair_subtrees {n} (Subtree.binder k y p) h l = absurd (omega (arith, ranged (node_kind r n) 7 k))

  pub modal_subtree : {n e : ℕ} → Subtree entries r n e → 4 ≤ node_kind r n → node_kind r n < 6 → ModalSubtree entries r n e
  modal_subtree (Subtree.constant k x y) h l = absurd (omega arith)
  modal_subtree (Subtree.variable k y) h l = absurd (omega arith)
  modal_subtree {n} (Subtree.pair k x p y q) h l = absurd (omega (arith, ranged (node_kind r n) 2 k))
  modal_subtree (Subtree.modal k x y p) h l = record { x_below = x; y_is = y; child = p }
  modal_subtree {n} (Subtree.binder k y p) h l = absurd (omega (arith, ranged (node_kind r n) 7 k))

  pub binder_subtree : {n e : ℕ} → Subtree entries r n e → 7 ≤ node_kind r n → node_kind r n < 9 → BinderSubtree entries r n e
  binder_subtree (Subtree.constant k x y) h l = absurd (omega arith)
  binder_subtree (Subtree.variable k y) h l = absurd (omega arith)
  binder_subtree {n} (Subtree.pair k x p y q) h l = absurd (omega (arith, ranged (node_kind r n) 2 k))
  binder_subtree {n} (Subtree.modal k x y p) h l = absurd (omega (arith, ranged (node_kind r n) 4 k))
  binder_subtree (Subtree.binder k y p) h l = record { y_is = y; child = p }

  -- ---- one run of nodes

  subtree_end_within : (depth : ℕ) {n e : ℕ} → Subtree entries r n e → e ≤ n + depth → end_within depth r n ≡ e
  subtree_end_within zero {n} p h = absurd (omega (arith, subtree_after p))
  subtree_end_within (suc depth) {n} (Subtree.constant k x y) h = end_suc r depth n leaf (shape_leaf (node_kind r n) (omega arith)) ∙ add-one n
  subtree_end_within (suc depth) {n} (Subtree.variable k y) h = end_suc r depth n variable (shape_variable (node_kind r n) k) ∙ add-one n
  subtree_end_within (suc depth) {n} {e} (Subtree.pair {m = m} k x p y q) h =
      let g = ranged (node_kind r n) 2 k in
      end_suc r depth n pair (shape_pair (node_kind r n) g.0 g.1) ∙
      ap (end_within depth r) y ∙ subtree_end_within depth q (omega (arith, subtree_after p))
  subtree_end_within (suc depth) {n} {e} (Subtree.modal k x y p) h =
      let g = ranged (node_kind r n) 4 k in
      end_suc r depth n modal (shape_modal (node_kind r n) g.0 g.1) ∙
      ap (end_within depth r) (add-one n) ∙ subtree_end_within depth p (omega arith)
  subtree_end_within (suc depth) {n} {e} (Subtree.binder k y p) h =
      let g = ranged (node_kind r n) 7 k in
      end_suc r depth n binder (shape_binder (node_kind r n) g.0 g.1) ∙
      ap (end_within depth r) (add-one n) ∙ subtree_end_within depth p (omega arith)

  pub subtree_end_lem : {n e : ℕ} → Subtree entries r n e → e ≤ n + 64 → subtree_end r n ≡ e
  subtree_end_lem p h = subtree_end_within 64 p h

  -- a node has one subtree only
  pub subtree_one : {n e e' : ℕ} → Subtree entries r n e → Subtree entries r n e' → e ≡ e'
  subtree_one {n} {e} {e'} p q = sym (subtree_end_within (e + e') p (omega arith)) ∙ subtree_end_within (e + e') q (omega arith)

  at_or_after : {n e : ℕ} → Subtree entries r n e → (m : ℕ) → n ≤ m → (suc n ≤ m → SubtreeWithin entries r m e) → SubtreeWithin entries r m e
  at_or_after {n} {e} p m h next =
      elim (dec_lt n m) [
        | yes j ↦ next j
        | no j ↦ record { end = e; whole = subst (λ (i : ℕ). Subtree entries r i e) (omega arith) p; within = omega arith }
      ]

  widen : {m e e' : ℕ} → SubtreeWithin entries r m e → e ≤ e' → SubtreeWithin entries r m e'
  widen w h = record { end = w.end; whole = w.whole; within = omega arith }

  -- every node inside a subtree has its own subtree there
  pub subtree_inside : {n e : ℕ} (m : ℕ) → Subtree entries r n e → n ≤ m → m < e → SubtreeWithin entries r m e
  subtree_inside {n} m (Subtree.constant k x y) h l = at_or_after (Subtree.constant k x y) m h (λ g. absurd (omega arith))
  subtree_inside {n} m (Subtree.variable k y) h l = at_or_after (Subtree.variable k y) m h (λ g. absurd (omega arith))
  subtree_inside {n} {e} m (Subtree.pair {m = c} k x p y q) h l =
      at_or_after (Subtree.pair k x p y q) m h
      (λ g. elim (dec_lt m c) [
        | yes j ↦ widen (subtree_inside m p g j) (omega (arith, subtree_after q))
        | no j ↦ subtree_inside m q (omega arith) l
      ])
  subtree_inside {n} m (Subtree.modal k x y p) h l = at_or_after (Subtree.modal k x y p) m h (λ g. subtree_inside m p g l)
  subtree_inside {n} m (Subtree.binder k y p) h l = at_or_after (Subtree.binder k y p) m h (λ g. subtree_inside m p g l)

  -- subtrees nest
  pub subtree_nests : {n e m e' : ℕ} → Subtree entries r n e → n ≤ m → m < e → Subtree entries r m e' → e' ≤ e
  subtree_nests {n} {e} {m} {e'} p h l q =
      let w = subtree_inside m p h l in
      omega (arith, subtree_one q w.whole, w.within)
