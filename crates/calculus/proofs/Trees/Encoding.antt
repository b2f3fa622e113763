-- The nodes of a tree as bytes: a tree stands at the nodes of a body exactly where its bytes do.
use Prim.Native.Nat.{ℕ, suc, ◌+◌, ◌*◌, ◌<◌, ◌≤◌}
use mathlib.Core.Path.{◌≡◌, refl, sym, ◌∙◌, ap, ap₂, subst}
use mathlib.Core.List.{List, [], ◌∷◌, ◌++◌, append_assoc, append-nil}
use native.Mathlib.Omega.{arith}
use lib.ListN.{length, drop, length-append, drop_of_length-le}
use lib.Seq.{get_or-drop, drop-drop, drop_at, drop-cons}
use Rattle.sheet.specs.Bytes.{byte}
use Rattle.sheet.specs.Rule.{node_count, node_kind, node_x, node_y}
use Rattle.calculus.specs.Trees.{Tree, tree_size, nodes_from, encode}
use Rattle.calculus.proofs.Trees.Stands.{Stands, stands_end}

pub nodes_length : (n : ℕ) (t : Tree) → length (nodes_from n t) ≡ 3 * tree_size t
unfolding nodes_from tree_size
nodes_length n (Tree.constant b) = refl
nodes_length n (Tree.pair b l r) =
    omega (
      arith,
      nodes_length (suc n) l,
      nodes_length (suc n + tree_size l) r,
      length-append (nodes_from (suc n) l) (nodes_from (suc n + tree_size l) r),
    )
nodes_length n (Tree.modal b e t) = omega (arith, nodes_length (suc n) t)
nodes_length n (Tree.variable X) = refl
nodes_length n (Tree.binder b X t) = omega (arith, nodes_length (suc n) t)

-- ---- from bytes to the tree

-- three bytes at the place of node n, and what comes after them
record NodeAt (r : List ℕ) (n k x y : ℕ) (rest : List ℕ) : Type 0 where
  kind_is : node_kind r n ≡ k
  x_is : node_x r n ≡ x
  y_is : node_y r n ≡ y
  after : drop (1 + 3 * suc n) r ≡ rest

module _ (r : List ℕ) where
  node_at : (n k x y : ℕ) (rest : List ℕ) → drop (1 + 3 * n) r ≡ k ∷ x ∷ y ∷ rest → NodeAt r n k x y rest
  node_at n k x y rest h = record {
    kind_is = at 0 (1 + 3 * n) (omega arith);
    x_is = at 1 (2 + 3 * n) (omega arith);
    y_is = at 2 (3 + 3 * n) (omega arith);
    after =
        let q : 1 + 3 * suc n ≡ 1 + 3 * n + 3 = omega arith in
        ap (λ (j : ℕ). drop j r) q ∙ sym (drop-drop 3 (1 + 3 * n) r) ∙ ap (drop 3) h;
  }
    where
      at : (i j : ℕ) → 1 + 3 * n + i ≡ j → byte r j ≡ byte (k ∷ x ∷ y ∷ rest) i
      at i j q = ap (byte r) (sym q) ∙ sym (get_or-drop (1 + 3 * n) r i 0) ∙ ap (λ (l : List ℕ). byte l i) h

  nodes_stand : (t : Tree) (n : ℕ) (rest : List ℕ) → drop (1 + 3 * n) r ≡ nodes_from n t ++ rest → Stands r t n (n + tree_size t)
  unfolding nodes_from tree_size
  nodes_stand (Tree.constant b) n rest h =
      let i = node_at n _ _ _ rest h in
      subst (Stands r (Tree.constant b) n) (omega arith) (Stands.constant i.kind_is i.x_is i.y_is)
  nodes_stand (Tree.pair b l t) n rest h =
      let i = node_at n _ _ _ _ h in
      let q = i.after ∙ append_assoc (nodes_from (suc n) l) (nodes_from (suc n + tree_size l) t) rest in
      let p = nodes_stand l (suc n) (nodes_from (suc n + tree_size l) t ++ rest) q in
      let u : 1 + 3 * (suc n + tree_size l) ≡ 1 + 3 * suc n + 3 * tree_size l = omega arith in
      let d : drop (1 + 3 * (suc n + tree_size l)) r ≡ nodes_from (suc n + tree_size l) t ++ rest =
      ap (λ (j : ℕ). drop j r) u ∙ sym (drop-drop (3 * tree_size l) (1 + 3 * suc n) r) ∙ ap (drop (3 * tree_size l)) q
      ∙ drop_at (nodes_from (suc n) l) (nodes_from (suc n + tree_size l) t ++ rest) (3 * tree_size l) (nodes_length (suc n) l) in
      subst (Stands r (Tree.pair b l t) n) (omega arith)
      (Stands.pair i.kind_is i.x_is i.y_is p (nodes_stand t (suc n + tree_size l) rest d))
  nodes_stand (Tree.modal b e t) n rest h =
      let i = node_at n _ _ _ _ h in
      subst (Stands r (Tree.modal b e t) n) (omega arith)
      (Stands.modal i.kind_is i.x_is i.y_is (nodes_stand t (suc n) rest i.after))
  nodes_stand (Tree.variable X) n rest h =
      let i = node_at n _ _ _ rest h in
      subst (Stands r (Tree.variable X) n) (omega arith) (Stands.variable i.kind_is i.x_is i.y_is)
  nodes_stand (Tree.binder b X t) n rest h =
      let i = node_at n _ _ _ _ h in
      subst (Stands r (Tree.binder b X t) n) (omega arith)
      (Stands.binder i.kind_is i.x_is i.y_is (nodes_stand t (suc n) rest i.after))

pub encode_stands : (t : Tree) → Stands (encode t) t 0 (tree_size t)
unfolding encode
encode_stands t =
    subst (Stands (encode t) t 0) (omega arith) (nodes_stand (encode t) t 0 [] (sym (append-nil (nodes_from 0 t))))

-- ---- from the tree to its bytes

module _ (r : List ℕ) where
  bytes_at : (n k x y : ℕ) (rest : List ℕ) → 1 + 3 * suc n ≤ length r → NodeAt r n k x y rest
      → drop (1 + 3 * n) r ≡ k ∷ x ∷ y ∷ rest
  bytes_at n k x y rest h i =
      next (1 + 3 * n) (2 + 3 * n) i.kind_is (omega arith) (omega arith)
      (next (2 + 3 * n) (3 + 3 * n) i.x_is (omega arith) (omega arith)
      (next (3 + 3 * n) (1 + 3 * suc n) i.y_is (omega arith) (omega arith) i.after))
    where
      next : (j j' : ℕ) {v : ℕ} {l : List ℕ} → byte r j ≡ v → j < length r → suc j ≡ j' → drop j' r ≡ l → drop j r ≡ v ∷ l
      next j j' q u e d = drop-cons r j 0 u ∙ ap₂ (λ (v : ℕ) (l : List ℕ). v ∷ l) q (ap (λ (c : ℕ). drop c r) e ∙ d)

  stands_bytes : {t : Tree} {n e : ℕ} → Stands r t n e → 1 + 3 * e ≤ length r → drop (1 + 3 * n) r ≡ nodes_from n t ++ drop (1 + 3 * e) r
  unfolding nodes_from
  stands_bytes (Stands.constant k x y) h = bytes_at _ _ _ _ _ h (record { kind_is = k; x_is = x; y_is = y; after = refl })
  stands_bytes (Stands.pair {l = l} {t = t} {n = n} {m = m} {e = e} k x y p q) h =
      let u = stands_end p in
      let v = stands_end q in
      bytes_at n _ _ _ _ (omega arith) (record {
        kind_is = k;
        x_is = x;
        y_is = y ∙ u;
        after =
            stands_bytes p (omega arith) ∙ ap (λ (j : List ℕ). nodes_from (suc n) l ++ j) (stands_bytes q h)
            ∙ ap (λ (j : ℕ). nodes_from (suc n) l ++ (nodes_from j t ++ drop (1 + 3 * e) r)) u
            ∙ sym (append_assoc (nodes_from (suc n) l) (nodes_from (suc n + tree_size l) t) (drop (1 + 3 * e) r));
      })
  stands_bytes (Stands.modal k x y p) h =
      let u = stands_end p in
      bytes_at _ _ _ _ _ (omega arith) (record { kind_is = k; x_is = x; y_is = y; after = stands_bytes p h })
  stands_bytes (Stands.variable k x y) h = bytes_at _ _ _ _ _ h (record { kind_is = k; x_is = x; y_is = y; after = refl })
  stands_bytes (Stands.binder k x y p) h =
      let u = stands_end p in
      bytes_at _ _ _ _ _ (omega arith) (record { kind_is = k; x_is = x; y_is = y; after = stands_bytes p h })

-- a body that is a tree, with its count and nothing after it, is the body of that tree
pub stands_encode : (r : List ℕ) {t : Tree} → Stands r t 0 (node_count r) → length r ≡ 1 + 3 * node_count r → encode t ≡ r
unfolding encode
stands_encode [] p h = absurd (omega arith)
stands_encode (c ∷ l) {t} p h =
    let d : l ≡ nodes_from 0 t ++ drop (1 + 3 * c) (c ∷ l) = stands_bytes (c ∷ l) p (omega arith) in
    let n : drop (1 + 3 * c) (c ∷ l) ≡ [] = drop_of_length-le (c ∷ l) {i = 1 + 3 * c} (omega arith) in
    let e : c ≡ tree_size t = stands_end p ∙ omega arith in
    ap₂ (λ (v : ℕ) (i : List ℕ). v ∷ i) (sym e) (sym (d ∙ ap (λ (i : List ℕ). nodes_from 0 t ++ i) n ∙ append-nil (nodes_from 0 t)))
