-- The turns of copying the rule behind the nodes that are made.
use Prim.Native.Nat.{ℕ, suc, ◌+◌, ◌*◌, ◌-◌, ◌<◌, ◌≤◌}
use mathlib.Core.Path.{◌≡◌, refl, sym, ◌∙◌, ap, ap₂, subst}
use mathlib.Core.List.{List, [], ◌++◌, append_assoc, append-nil}
use native.Mathlib.Omega.{arith}
use lib.ListN.{length, take}
use Rattle.sheet.specs.Rule.{node_count, binder_count}
use Rattle.sheet.specs.Fields.{fields_at}
use Rattle.sheet.specs.declared.Fields.{Fields}
use Rattle.calculus.specs.Trees.{tree_size, binders, nodes_from, tree_of}
use Rattle.calculus.proofs.Trees.TreeOf.{tree_stands, trees_exactly}
use Rattle.patterns.specs.Translation.{raised}
use Rattle.patterns.specs.Internal.Nodes.{moved, with_node, Making, Followed, Exceeds}
use Rattle.patterns.proofs.Translation.Raised.{raised_size, raised_binders}
use Rattle.patterns.proofs.Steps.Copying.{node_bytes, copied, stands_copied}
use Rattle.patterns.proofs.Steps.Patching.{with_node_length, node_last}

-- what the loop holds when j nodes are copied: what is done and what is left are the whole
pub record Copying (r : List ℕ) (n b : ℕ) (out out₁ : List ℕ) (j : ℕ) : Type 0 where
  pub among : j ≤ node_count r
  pub sized : length out₁ ≡ length out
  pub bytes : take (1 + 3 * (n + j)) out₁ ++ copied n b r j (node_count r - j) ≡ take (1 + 3 * n) out ++ copied n b r 0 (node_count r)

pub copy_start : (r : List ℕ) (n b : ℕ) (out : List ℕ) → Copying r n b out out 0
copy_start r n b out =
    let i : n + 0 ≡ n = omega arith in
    let j : node_count r - 0 ≡ node_count r = omega arith in
    record {
      among = omega arith;
      sized = refl;
      bytes = ap₂ (λ (k c : ℕ). take (1 + 3 * k) out ++ copied n b r 0 c) i j;
    }

copied_node : {r : List ℕ} {n b : ℕ} {out out₁ : List ℕ} {j : ℕ} → Copying r n b out out₁ j → j < node_count r → n + node_count r ≤ 64
    → length out ≡ 193 → Copying r n b out (with_node out₁ (n + j) (moved n b (fields_at r j))) (j + 1)
unfolding copied
copied_node {r} {n} {b} {out} {out₁} {j} h l few room =
    let f = moved n b (fields_at r j) in
    let i : n + (j + 1) ≡ suc (n + j) = omega arith in
    let k : node_count r - j ≡ suc (node_count r - (j + 1)) = omega arith in
    let s : suc j ≡ j + 1 = omega arith in
    let rest = copied n b r (j + 1) (node_count r - (j + 1)) in
    record {
      among = omega arith;
      sized = with_node_length out₁ (n + j) f ∙ h.sized;
      bytes =
          ap (λ (c : ℕ). take (1 + 3 * c) (with_node out₁ (n + j) f) ++ rest) i
          ∙ ap (λ (v : List ℕ). v ++ rest) (node_last out₁ (n + j) f (omega (arith, h.sized)))
          ∙ append_assoc (take (1 + 3 * (n + j)) out₁) (node_bytes f []) rest
          ∙ ap (λ (v : List ℕ). take (1 + 3 * (n + j)) out₁ ++ v)
          (ap (λ (c : ℕ). node_bytes f (copied n b r c (node_count r - (j + 1)))) (sym s) ∙ ap (copied n b r j) (sym k))
          ∙ h.bytes;
    }

pub copy_more : {r : List ℕ} {n b : ℕ} {out out₁ : List ℕ} {j : ℕ} → Copying r n b out out₁ j → j < node_count r → n + node_count r ≤ 64
    → length out ≡ 193 → {g f : Fields} {out₂ : List ℕ} → g ≡ fields_at r j → f ≡ moved n b g → out₂ ≡ with_node out₁ (n + j) f
    → Copying r n b out out₂ (j + 1)
copy_more {r} {n} {b} {out} {out₁} {j} h l few room d e q =
    subst (λ (o : List ℕ). Copying r n b out o (j + 1))
    (sym (q ∙ ap (with_node out₁ (n + j)) (e ∙ ap (moved n b) d))) (copied_node h l few room)

module _ {r : List ℕ} {n b : ℕ} {out : List ℕ} (h : Making r n b out) where
  rule_size : tree_size (raised b (tree_of r)) ≡ node_count r
  rule_size = raised_size b (tree_of r) ∙ (trees_exactly.of_rules h.entries r h.kept).nodes_are

  rule_binders : binders (raised b (tree_of r)) ≡ binder_count r
  rule_binders = raised_binders b (tree_of r) ∙ (trees_exactly.of_rules h.entries r h.kept).binders_are

  -- a rule that has too many nodes or binders
  pub copy_nodes_exceeded : 64 - n < node_count r → Exceeds (raised b (tree_of r)) n b
  copy_nodes_exceeded l = Exceeds.nodes (omega (arith, rule_size, h.few_nodes))

  pub copy_binders_exceeded : 6 - b < binder_count r → Exceeds (raised b (tree_of r)) n b
  copy_binders_exceeded l = Exceeds.bound (omega (arith, rule_binders, h.few_binders))

  pub copy_done : {out₁ : List ℕ} {j count bound : ℕ} → Copying r n b out out₁ j → count ≡ node_count r → bound ≡ binder_count r → count ≤ j
      → count ≤ 64 - n → bound ≤ 6 - b → Followed (raised b (tree_of r)) n b out out₁ (n + count) (b + bound)
  unfolding copied
  copy_done {out₁} {j} {count} {bound} c nodes-counted binders-counted l u v =
      let i : n + j ≡ n + count = omega (arith, c.among) in
      let k : node_count r - j ≡ 0 = omega arith in
      let m : n + 0 ≡ n = omega arith in
      let t = (trees_exactly.of_rules h.entries r h.kept).nodes_are in
      record {
        nodes_are = ap (λ (q : ℕ). n + q) (nodes-counted ∙ sym rule_size);
        binders_are = ap (λ (q : ℕ). b + q) (binders-counted ∙ sym rule_binders);
        few_nodes = omega (arith, h.few_nodes);
        few_binders = omega (arith, h.few_binders);
        sized = c.sized;
        bytes =
            ap (λ (q : ℕ). take (1 + 3 * q) out₁) (sym i) ∙ sym (append-nil (take (1 + 3 * (n + j)) out₁))
            ∙ ap (λ (q : ℕ). take (1 + 3 * (n + j)) out₁ ++ copied n b r j q) (sym k)
            ∙ c.bytes
            ∙ ap (λ (v : List ℕ). take (1 + 3 * n) out ++ v)
            (ap (copied n b r 0) (sym t) ∙ stands_copied n b r (tree_stands h.kept) ∙ ap (λ (q : ℕ). nodes_from q (raised b (tree_of r))) m);
      }
