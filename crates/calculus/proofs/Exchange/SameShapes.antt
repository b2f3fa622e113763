-- Two rules that differ in kinds alone, and at each node in kinds of one shape: the same parts and binders, so the one is kept when the other is. A
-- change of kinds by an f that keeps the shape of every kind makes two such rules.
use Prim.Native.Nat.{ℕ, zero, suc, ◌+◌, ◌<◌, ◌≤◌}
use mathlib.Core.Path.{◌≡◌, refl, sym, ap, ap₂, subst, subst₃, ◌∙◌}
use mathlib.Core.Bool.{Bool, true, false, ◌&&◌}
use mathlib.Core.List.{List}
use mathlib.Core.Logic.{◌⊎◌}
use native.Mathlib.Omega.{arith}
use lib.Dec.{leb, ltb}
use lib.ListN.{length}
use borrow.Author.Tests.{lt-leb, le-leb, lt-ltb, le-ltb}
use Rattle.sheet.specs.Contents.{rule_length, rule_offset, plan_body, actions_body, rule_body}
use Rattle.sheet.specs.Rule.{node_count, node_kind, node_x, node_y, Shape, leaf, pair, modal, variable, binder, unknown, shape_of, is_binder, one_if, binders_before, binder_count}
use Rattle.sheet.specs.WellFormed.{Subtree, Binds, Bound, WellFormedRule, WellFormedBodies, WellFormedSheet}
use Rattle.sheet.proofs.Nodes.Shapes.{shape_leaf, shape_pair, shape_modal, shape_variable, shape_binder, shape_unknown, ranged, one_of, kinds}
use Rattle.calculus.specs.KindMap.{map_rule_kinds, map_sheet_kinds}
use Rattle.calculus.proofs.Exchange.KindMap.{mapped_rule_length, mapped_count, mapped_x, mapped_y, mapped_kinds}
use Rattle.calculus.proofs.Exchange.KindMap.{mapped_length, mapped_byte, mapped_word, mapped_rule_size, mapped_actions_offset, mapped_rule_offset, mapped_plan, mapped_actions, mapped_rule}

-- the kinds of a shape
abbrev KindOf : Shape → ℕ → Type 0
KindOf leaf k = k ≤ 1
KindOf pair k = (k ≡ 2) ⊎ (k ≡ 3)
KindOf modal k = (k ≡ 4) ⊎ (k ≡ 5)
KindOf variable k = k ≡ 6
KindOf binder k = (k ≡ 7) ⊎ (k ≡ 8)
KindOf unknown k = 9 ≤ k

kind_of_lem : (k : ℕ) → KindOf (shape_of k) k
kind_of_lem k =
    kinds k (λ l. at leaf (shape_leaf k l) (omega arith)) (λ h l. at pair (shape_pair k h l) (one_of k 2 h l))
    (λ h l. at modal (shape_modal k h l) (one_of k 4 h l)) (λ q. at variable (shape_variable k q) q)
    (λ h l. at binder (shape_binder k h l) (one_of k 7 h l)) (λ h. at unknown (shape_unknown k h) h)
  where
    at : (h : Shape) → shape_of k ≡ h → KindOf h k → KindOf (shape_of k) k
    at h q = subst (λ (x : Shape). KindOf x k) (sym q)

binds : Shape → Bool
binds leaf = false
binds pair = false
binds modal = false
binds variable = false
binds binder = true
binds unknown = false

binder_shape : (k : ℕ) → (leb 7 k && ltb k 9) ≡ binds (shape_of k)
unfolding binds
binder_shape k = go (shape_of k) (kind_of_lem k)
  where
    low : k < 7 → (leb 7 k && ltb k 9) ≡ false
    low l = simp (lt-leb 7 k l)

    go : (h : Shape) → KindOf h k → (leb 7 k && ltb k 9) ≡ binds h
    go leaf l = low (omega arith)
    go pair q = low (omega (arith, ranged k 2 q))
    go modal q = low (omega (arith, ranged k 4 q))
    go variable q = low (omega arith)
    go binder q = let h = ranged k 7 q in simp (le-leb 7 k h.0, lt-ltb k 9 h.1)
    go unknown l = simp (le-leb 7 k (omega arith), le-ltb k 9 l)

pub record SameShapes (r r' : List ℕ) : Type 0 where
  pub count : node_count r' ≡ node_count r
  pub xs : (n : ℕ) → node_x r' n ≡ node_x r n
  pub ys : (n : ℕ) → node_y r' n ≡ node_y r n
  pub shapes : (n : ℕ) → shape_of (node_kind r' n) ≡ shape_of (node_kind r n)

module _ {r r' : List ℕ} (same : SameShapes r r') where
  pub same_binder : (n : ℕ) → is_binder r' n ≡ is_binder r n
  same_binder n = binder_shape (node_kind r' n) ∙ (ap binds (same.shapes n) ∙ sym (binder_shape (node_kind r n)))

  pub same_before : (n : ℕ) → binders_before r' n ≡ binders_before r n
  unfolding binders_before
  same_before zero = refl
  same_before (suc n) = ap₂ (λ (b : ℕ) (i : ℕ). b + i) (same_before n) (ap one_if (same_binder n))

  same_binders : binder_count r' ≡ binder_count r
  same_binders = ap (binders_before r') same.count ∙ same_before (node_count r)

  -- a node of a shape has kinds of that shape
  moved : (n : ℕ) (h : Shape) → shape_of (node_kind r n) ≡ h → KindOf h (node_kind r' n)
  moved n h q = subst (λ (x : Shape). KindOf x (node_kind r' n)) (same.shapes n ∙ q) (kind_of_lem (node_kind r' n))

  back : (n : ℕ) (h : Shape) → shape_of (node_kind r' n) ≡ h → KindOf h (node_kind r n)
  back n h q = subst (λ (x : Shape). KindOf x (node_kind r n)) (sym (same.shapes n) ∙ q) (kind_of_lem (node_kind r n))

  same_subtree : {entries n e : ℕ} → Subtree entries r n e → Subtree entries r' n e
  same_subtree (Subtree.constant {n = n} k x y) = Subtree.constant {n = n} (moved n leaf (shape_leaf (node_kind r n) (omega arith))) (same.xs n ∙ x) (same.ys n ∙ y)
  same_subtree (Subtree.variable {n = n} k y) = Subtree.variable (moved n variable (shape_variable _ k)) (same.ys n ∙ y)
  same_subtree (Subtree.pair {n = n} k x p y q) =
      let h = ranged (node_kind r n) 2 k in
      Subtree.pair (moved n pair (shape_pair _ h.0 h.1)) (same.xs n ∙ x) (same_subtree p) (same.ys n ∙ y) (same_subtree q)
  same_subtree (Subtree.modal {n = n} k x y p) =
      let h = ranged (node_kind r n) 4 k in
      Subtree.modal {n = n} (moved n modal (shape_modal _ h.0 h.1)) (omega (arith, same.xs n)) (same.ys n ∙ y) (same_subtree p)
  same_subtree (Subtree.binder {n = n} k y p) =
      let h = ranged (node_kind r n) 7 k in Subtree.binder (moved n binder (shape_binder _ h.0 h.1)) (same.ys n ∙ y) (same_subtree p)

  same_binds : {b k : ℕ} → Binds r b k → Binds r' b k
  same_binds {b} h = record {
    among = omega (arith, h.among, same.count);
    is_binder_holds = same_binder b ∙ h.is_binder_holds;
    numbered = same_before b ∙ h.numbered;
  }

  same_bound : {entries : ℕ} (n : ℕ) → Bound entries r n → Bound entries r' n
  same_bound n b = record {
    at = b.at;
    binds = subst (Binds r' b.at) (sym (same.xs n)) (same_binds b.binds);
    below = record { end = b.below.end; whole = same_subtree b.below.whole; after = b.below.after; inside = b.below.inside };
  }

  pub same_kept : {entries : ℕ} → length r' ≡ length r → WellFormedRule entries r → WellFormedRule entries r'
  same_kept {entries} l kept = record {
    headed = omega (arith, kept.headed);
    some_nodes = omega (arith, kept.some_nodes, same.count);
    few_nodes = omega (arith, kept.few_nodes, same.count);
    exact = omega (arith, kept.exact, same.count);
    whole = subst (Subtree entries r' 0) (sym same.count) (same_subtree kept.whole);
    binder_numbers = λ n h b. same.xs n ∙ (kept.binder_numbers n (omega (arith, same.count)) (sym (same_binder n) ∙ b) ∙ sym (same_before n));
    few_binders = omega (arith, kept.few_binders, same_binders);
    bound = λ n h q. same_bound n (kept.bound n (omega (arith, same.count)) (back n variable (shape_variable _ q)));
  }

module _ (f : ℕ → ℕ → ℕ) (keeps : (n k : ℕ) → shape_of (f n k) ≡ shape_of k) where
  pub mapped_shapes : (r : List ℕ) → SameShapes r (map_rule_kinds f r)
  mapped_shapes r = record {
    count = mapped_count f r;
    xs = mapped_x f r;
    ys = mapped_y f r;
    shapes = mapped_kinds f r (λ (k k' : ℕ). shape_of k' ≡ shape_of k) (λ k. refl) keeps;
  }

  pub mapped_rule_kept : (r : List ℕ) {entries : ℕ} → WellFormedRule entries r → WellFormedRule entries (map_rule_kinds f r)
  mapped_rule_kept r kept = same_kept (mapped_shapes r) (mapped_rule_length f r) kept

  pub mapped_kept : {s : List ℕ} → WellFormedSheet s → WellFormedSheet (map_sheet_kinds f s)
  mapped_kept {s} kept = record {
    headed = omega (arith, kept.headed, mapped_length f s e);
    edition = mapped_byte f s e 0 (omega arith) ∙ kept.edition;
    entries = mapped_byte f s e 1 (omega arith) ∙ kept.entries;
    plan_kind = mapped_byte f s e 2 (omega arith) ∙ kept.plan_kind;
    actions_kind = mapped_byte f s e 7 (omega arith) ∙ kept.actions_kind;
    rule_kind = mapped_byte f s e 12 (omega arith) ∙ kept.rule_kind;
    plan_offset = mapped_word f s e 3 (omega arith) ∙ kept.plan_offset;
    actions_follow = mapped_word f s e 8 (omega arith) ∙ (kept.actions_follow ∙ sym (mapped_actions_offset f s e));
    rule_follows = mapped_word f s e 13 (omega arith) ∙ (kept.rule_follows ∙ sym (mapped_rule_offset f s e));
    ends = mapped_length f s e ∙ (e ∙ sym (ap₂ (λ (x : ℕ) (y : ℕ). x + y) (mapped_rule_offset f s e) (mapped_rule_size f s e)));
    bodies_kept = bodies;
  }
    where
      e : length s ≡ rule_offset s + rule_length s
      e = kept.ends

      bodies : WellFormedBodies (plan_body (map_sheet_kinds f s)) (actions_body (map_sheet_kinds f s)) (rule_body (map_sheet_kinds f s))
      bodies =
          subst₃ WellFormedBodies (sym (mapped_plan f s e)) (sym (mapped_actions f s e)) (sym (mapped_rule f s e))
          (record {
            plan_kept = kept.bodies_kept.plan_kept;
            actions_kept = kept.bodies_kept.actions_kept;
            rule_kept = mapped_rule_kept (rule_body s) kept.bodies_kept.rule_kept;
          })
