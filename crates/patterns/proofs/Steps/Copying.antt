-- The rule's own nodes, moved behind those that are made.
use Prim.Native.Nat.{ℕ, zero, suc, ◌+◌, ◌<◌, ◌≤◌}
use mathlib.Core.Path.{◌≡◌, refl, ◌∙◌, ap, ap₂}
use mathlib.Core.List.{List, [], ◌∷◌, ◌++◌}
use native.Mathlib.Omega.{arith}
use Rattle.sheet.specs.Rule.{node_count, node_kind, node_x, node_y}
use Rattle.sheet.specs.Fields.{fields_at}
use Rattle.sheet.specs.WellFormed.{Subtree, WellFormedRule}
use Rattle.sheet.specs.declared.Fields.{Fields}
use Rattle.sheet.proofs.Nodes.Shapes.{ranged}
use Rattle.sheet.proofs.Nodes.Binders.{kind_binder, binders_rise}
use Rattle.sheet.proofs.Nodes.Subtrees.{SubtreeWithin, subtree_after}
use Rattle.sheet.proofs.Nodes.Children.{node_subtree}
use Rattle.calculus.specs.Trees.{Tree, tree_size, nodes_from}
use Rattle.calculus.proofs.Trees.Stands.{Stands, stands_end, flag_small}
use Rattle.patterns.specs.Translation.{raised}
use Rattle.patterns.specs.Internal.Nodes.{Movable, moved}
use Rattle.patterns.proofs.Translation.Raised.{raised_size}
use Rattle.patterns.proofs.Steps.Moving.{moved_leaf, moved_pair, moved_modal, moved_variable, moved_binder}

-- the three bytes of a node before others
abbrev pub node_bytes : Fields → List ℕ → List ℕ
node_bytes f rest = f.kind ∷ f.x ∷ f.y ∷ rest

-- so many nodes of r from node m on, where n nodes and b binders stand before the rule
unfoldable pub copied : ℕ → ℕ → List ℕ → ℕ → ℕ → List ℕ
copied n b r m zero = []
copied n b r m (suc count) = node_bytes (moved n b (fields_at r m)) (copied n b r (suc m) count)

-- the fields of a rule's node are small
pub node_movable : {entries : ℕ} {r : List ℕ} → WellFormedRule entries r → entries ≤ 32 → (m : ℕ) → m < node_count r → {n b : ℕ} → n ≤ 64 → b ≤ 6
    → Movable (fields_at r m) n b
node_movable {entries} {r} kept few m l {n} {b} h g = go w.whole w.within
  where
    w : SubtreeWithin entries r m (node_count r)
    w = node_subtree kept m l

    movable : node_kind r m ≤ 8 → node_x r m ≤ 64 → node_y r m ≤ 64 → Movable (fields_at r m) n b
    movable k x y = record { known = k; small_x = x; small_y = y; few_nodes = h; few_binders = g }

    bound_few : node_kind r m ≡ 6 → node_x r m ≤ 64
    bound_few k = let q = (kept.bound m l k).binds in
        omega (arith, q.numbered, binders_rise r (kept.bound m l k).at (node_count r) (omega (arith, q.among)), kept.few_binders)

    go : {e : ℕ} → Subtree entries r m e → e ≤ node_count r → Movable (fields_at r m) n b
    go (Subtree.constant k x y) u = movable (omega arith) (omega arith) (omega arith)
    go (Subtree.variable k y) u = movable (omega arith) (bound_few k) (omega arith)
    go (Subtree.pair k x p y q) u = movable (omega (arith, ranged (node_kind r m) 2 k)) (omega (arith, kept.few_nodes, subtree_after p, subtree_after q)) (omega (arith, kept.few_nodes, subtree_after q))
    go (Subtree.modal k x y p) u = movable (omega (arith, ranged (node_kind r m) 4 k)) (omega arith) (omega (arith, kept.few_nodes, subtree_after p))
    go (Subtree.binder k y p) u =
        let g = ranged (node_kind r m) 7 k in
        movable (omega (arith, g)) (omega (arith, kept.binder_numbers m l (kind_binder r m g.0 g.1), binders_rise r m (node_count r) (omega arith), kept.few_binders))
        (omega (arith, kept.few_nodes, subtree_after p))

module _ (n b : ℕ) (r : List ℕ) where
  copied_add : (m c d : ℕ) → copied n b r m (c + d) ≡ copied n b r m c ++ copied n b r (m + c) d
  unfolding copied
  copied_add m zero d = let q : m ≡ m + 0 = omega arith in let g : 0 + d ≡ d = omega arith in ap₂ (copied n b r) q g
  copied_add m (suc c) d =
      let q : suc m + c ≡ m + suc c = omega arith in
      let g : suc c + d ≡ suc (c + d) = omega arith in
      ap (copied n b r m) g
      ∙ ap (node_bytes (moved n b (fields_at r m))) (copied_add (suc m) c d ∙ ap (λ (i : ℕ). copied n b r (suc m) c ++ copied n b r i d) q)

  -- a node, by its fields, before what is copied after it
  node_is : (m : ℕ) {f : Fields} {k x y : ℕ} {l l' : List ℕ} → moved n b (fields_at r m) ≡ f → f.kind ≡ k → f.x ≡ x → f.y ≡ y → l ≡ l'
      → node_bytes (moved n b (fields_at r m)) l ≡ k ∷ x ∷ y ∷ l'
  node_is m {l = l} q k x y e = ap (λ (f : Fields). node_bytes f l) q ∙ λ i. k i ∷ x i ∷ y i ∷ e i

  -- the nodes of a tree that stands in r are copied as those of the tree raised
  pub stands_copied : {t : Tree} {m e : ℕ} → Stands r t m e → copied n b r m (tree_size t) ≡ nodes_from (n + m) (raised b t)
  unfolding copied tree_size nodes_from raised
  stands_copied (Stands.constant {b = f} {n = m} k x y) = node_is m (moved_leaf n b (fields_at r m) (omega (arith, flag_small f))) k x y refl
  stands_copied (Stands.pair {b = f} {l} {t} {n = m} {m = m'} k x y p q) =
      let h = flag_small f in
      let i : n + suc m ≡ suc (n + m) = omega arith in
      let j : n + m' ≡ suc (n + m) + tree_size (raised b l) = omega (arith, stands_end p, raised_size b l) in
      let g : suc m + tree_size l ≡ m' = omega (arith, stands_end p) in
      node_is m (moved_pair n b (fields_at r m) (omega arith) (omega arith)) k (omega arith) (omega arith)
      (copied_add (suc m) (tree_size l) (tree_size t)
      ∙ ap₂ ◌++◌ (stands_copied p ∙ ap (λ (c : ℕ). nodes_from c (raised b l)) i)
      (ap (λ (c : ℕ). copied n b r c (tree_size t)) g ∙ stands_copied q ∙ ap (λ (c : ℕ). nodes_from c (raised b t)) j))
  stands_copied (Stands.modal {b = f} {t} {n = m} k x y p) =
      let h = flag_small f in
      let i : n + suc m ≡ suc (n + m) = omega arith in
      node_is m (moved_modal n b (fields_at r m) (omega arith) (omega arith)) k x (omega arith)
      (stands_copied p ∙ ap (λ (c : ℕ). nodes_from c (raised b t)) i)
  stands_copied (Stands.variable {n = m} k x y) = node_is m (moved_variable n b (fields_at r m) k) k (omega arith) y refl
  stands_copied (Stands.binder {b = f} {t} {n = m} k x y p) =
      let h = flag_small f in
      let i : n + suc m ≡ suc (n + m) = omega arith in
      node_is m (moved_binder n b (fields_at r m) (omega arith)) k (omega arith) (omega arith)
      (stands_copied p ∙ ap (λ (c : ℕ). nodes_from c (raised b t)) i)
