-- Trees made node by node: what is promised of a tree's children is promised of the tree, once its own nodes are put.
use Prim.Native.Nat.{ℕ, suc, ◌+◌, ◌*◌, ◌<◌, ◌≤◌}
use mathlib.Core.Path.{◌≡◌, refl, sym, ◌∙◌, ap, ap₂}
use mathlib.Core.Bool.{Bool}
use mathlib.Core.List.{List, [], ◌∷◌, ◌++◌, append_assoc}
use native.Mathlib.Omega.{arith}
use lib.ListN.{length, take}
use Rattle.sheet.specs.Rule.{one_if}
use Rattle.sheet.specs.declared.Fields.{Fields}
use Rattle.calculus.specs.Trees.{Tree, tree_size, binders, nodes_from, pair, modal, variable, binder}
use Rattle.calculus.proofs.Trees.Stands.{size_some}
use Rattle.calculus.proofs.Trees.Encoding.{nodes_length}
use Rattle.patterns.specs.Internal.Nodes.{pair_fields, modal_fields, variable_fields, binder_fields, with_node, Followed, Exceeds, Progressed}
use Rattle.patterns.specs.Internal.Nodes.{Progress}
use Rattle.patterns.proofs.Steps.Copying.{node_bytes}
use Rattle.patterns.proofs.Steps.Patching.{with_node_length, node_before, node_last}

-- no tree has room where 64 nodes are made
pub full_exceeded : (t : Tree) (n b : ℕ) → 64 ≤ n → Exceeds t n b
full_exceeded t n b h = Exceeds.nodes (omega (arith, size_some t))

module _ (n b : ℕ) where
  -- a first or second child that does not fit
  pub exceeds_first : (every : Bool) {l : Tree} (r : Tree) → Exceeds l (n + 1) b → Exceeds (pair every l r) n b
  unfolding tree_size binders
  exceeds_first every r (Exceeds.nodes h) = Exceeds.nodes (omega arith)
  exceeds_first every r (Exceeds.bound h) = Exceeds.bound (omega arith)

  exceeds_second : (every : Bool) {l : Tree} (r : Tree) {n₁ b₁ : ℕ} → n₁ ≡ n + 1 + tree_size l → b₁ ≡ b + binders l → Exceeds r n₁ b₁ → Exceeds (pair every l r) n b
  unfolding tree_size binders
  exceeds_second every r i j (Exceeds.nodes h) = Exceeds.nodes (omega arith)
  exceeds_second every r i j (Exceeds.bound h) = Exceeds.bound (omega arith)

module _ (out : List ℕ) (room : length out ≡ 193) (n b : ℕ) where
  -- a variable is one node
  pub grow_variable : n < 64 → b ≤ 6 → (X : ℕ) → Followed (variable X) n b out (with_node out n (variable_fields X)) (n + 1) b
  unfolding tree_size binders nodes_from
  grow_variable l u X =
      let i : n + 1 ≡ suc n = omega arith in
      record {
        nodes_are = refl;
        binders_are = omega arith;
        few_nodes = omega arith;
        few_binders = u;
        sized = with_node_length out n (variable_fields X);
        bytes =
            ap (λ (k : ℕ). take (1 + 3 * k) (with_node out n (variable_fields X))) i ∙ node_last out n (variable_fields X) (omega arith);
      }

  -- a node with one child, put before it
  grow_over : n < 64 → (f : Fields) (b₁ : ℕ) {whole t : Tree} → tree_size whole ≡ suc (tree_size t) → b + binders whole ≡ b₁ + binders t
      → nodes_from n whole ≡ node_bytes f (nodes_from (suc n) t) → {out' : List ℕ} {x : Progress}
      → Progressed t (n + 1) b₁ (with_node out n f) out' x → Progressed whole n b out out' x
  grow_over l f b₁ i j k (Progressed.exceeded (Exceeds.nodes h)) = Progressed.exceeded (Exceeds.nodes (omega arith))
  grow_over l f b₁ i j k (Progressed.exceeded (Exceeds.bound h)) = Progressed.exceeded (Exceeds.bound (omega arith))
  grow_over l f b₁ {whole} {t} i j k {out'} (Progressed.followed {n'} {b'} h) =
      let s : n + 1 ≡ suc n = omega arith in
      Progressed.followed {n' = n'} {b' = b'} (record {
        nodes_are = omega (arith, h.nodes_are);
        binders_are = omega (arith, h.binders_are);
        few_nodes = h.few_nodes;
        few_binders = h.few_binders;
        sized = h.sized ∙ with_node_length out n f;
        bytes =
            h.bytes
            ∙ ap (λ (m : ℕ). take (1 + 3 * m) (with_node out n f) ++ nodes_from m t) s
            ∙ ap (λ (v : List ℕ). v ++ nodes_from (suc n) t) (node_last out n f (omega arith))
            ∙ append_assoc (take (1 + 3 * n) out) (node_bytes f []) (nodes_from (suc n) t)
            ∙ ap (λ (v : List ℕ). take (1 + 3 * n) out ++ v) (sym k);
      })

  -- the front of the body when a pair is put over its first child
  front_pair : (every : Bool) {l : Tree} {out₁ : List ℕ} {n₁ b₁ : ℕ} → Followed l (n + 1) b out out₁ n₁ b₁
      → take (1 + 3 * n₁) (with_node out₁ n (pair_fields every n n₁)) ≡ take (1 + 3 * n) out ++ node_bytes (pair_fields every n n₁) (nodes_from (suc n) l)
  front_pair every {l} {out₁} {n₁} h =
      let f = pair_fields every n n₁ in
      let i : n + 1 ≡ suc n = omega arith in
      let k = nodes_length (suc n) l in
      let m : 1 + 3 * suc n + length (nodes_from (suc n) l) ≡ 1 + 3 * n₁ = omega (arith, h.nodes_are) in
      ap (λ (j : ℕ). take j (with_node out₁ n f)) (sym m)
      ∙ node_before out out₁ n f (nodes_from (suc n) l) (omega (arith, h.sized, h.few_nodes)) h.sized
      (ap (λ (j : ℕ). take j out₁) m ∙ h.bytes ∙ ap (λ (j : ℕ). take (1 + 3 * j) out ++ nodes_from j l) i)

  -- a pair, put over its first child before the second
  pub grow_pair : (every : Bool) {l r : Tree} {out₁ out' : List ℕ} {n₁ b₁ : ℕ} {x : Progress} → Followed l (n + 1) b out out₁ n₁ b₁
      → Progressed r n₁ b₁ (with_node out₁ n (pair_fields every n n₁)) out' x → Progressed (pair every l r) n b out out' x
  unfolding tree_size binders nodes_from
  grow_pair every {l} {r} h (Progressed.exceeded g) = Progressed.exceeded (exceeds_second n b every r h.nodes_are h.binders_are g)
  grow_pair every {l} {r} {out₁} {out'} {n₁} h (Progressed.followed {n'} {b'} g) =
      let f = pair_fields every n n₁ in
      let i : n + 1 ≡ suc n = omega arith in
      let j : n₁ ≡ suc n + tree_size l = omega (arith, h.nodes_are) in
      Progressed.followed {n' = n'} {b' = b'} (record {
        nodes_are = omega (arith, h.nodes_are, g.nodes_are);
        binders_are = omega (arith, h.binders_are, g.binders_are);
        few_nodes = g.few_nodes;
        few_binders = g.few_binders;
        sized = g.sized ∙ with_node_length out₁ n f ∙ h.sized;
        bytes =
            g.bytes
            ∙ ap (λ (v : List ℕ). v ++ nodes_from n₁ r) (front_pair every h)
            ∙ append_assoc (take (1 + 3 * n) out) (node_bytes f (nodes_from (suc n) l)) (nodes_from n₁ r)
            ∙ ap₂ (λ (a b : ℕ). take (1 + 3 * n) out ++ ((2 + one_if every) ∷ a ∷ b ∷ (nodes_from (suc n) l ++ nodes_from b r))) i j;
      })

  -- a modality and a binder, put before the child
  pub grow_modal : n < 64 → (every : Bool) (e : ℕ) {t : Tree} {out' : List ℕ} {x : Progress}
      → Progressed t (n + 1) b (with_node out n (modal_fields every n e)) out' x → Progressed (modal every e t) n b out out' x
  unfolding tree_size binders nodes_from
  grow_modal l every e {t} h =
      let i : suc n ≡ n + 1 = omega arith in
      grow_over l (modal_fields every n e) b refl refl (ap (λ (m : ℕ). (4 + one_if every) ∷ e ∷ m ∷ nodes_from (suc n) t) i) h

  pub grow_binder : n < 64 → (every : Bool) {t : Tree} {out' : List ℕ} {x : Progress}
      → Progressed t (n + 1) (b + 1) (with_node out n (binder_fields every n b)) out' x → Progressed (binder every b t) n b out out' x
  unfolding tree_size binders nodes_from
  grow_binder l every {t} h =
      let i : suc n ≡ n + 1 = omega arith in
      grow_over l (binder_fields every n b) (b + 1) refl (omega arith) (ap (λ (m : ℕ). (7 + one_if every) ∷ b ∷ m ∷ nodes_from (suc n) t) i) h
