-- Counting binders in preorder, and following a node's last child to the end of its subtree.
use Prim.Native.Nat.{ℕ, zero, suc, ◌+◌, ◌-◌, ◌<◌, ◌≤◌}
use mathlib.Core.Path.{◌≡◌, refl, sym, ap, ◌∙◌}
use mathlib.Core.Bool.{true, false, not, ◌&&◌}
use mathlib.Core.List.{List}
use native.Mathlib.Omega.{arith}
use native.Mathlib.Decide.{dec_lt}
use native.Mathlib.Numerals.{add-one}
use lib.Dec.{eqb, ltb, leb}
use borrow.Author.Tests.{lt-ltb, le-ltb, eq-eqb, ne_eqb, le-leb, lt-leb}
use Rattle.sheet.specs.Internal.Counting.{BindersCounted}
use Rattle.sheet.proofs.Nodes.Shapes.{shape_leaf, shape_pair, shape_modal, shape_variable, shape_binder, shape_unknown, kinds}
use Rattle.sheet.specs.Rule.{node_kind, node_x, node_y, shape_of, is_binder, binders_before, binder_node, end_course, end_within, below, binding_faulty}
use Rattle.sheet.specs.Kinds.{child_count}
use Rattle.sheet.proofs.Nodes.Arity.{count_leaf, count_pair, count_modal, count_variable, count_binder, count_unknown}

pub counted_none : (r : List ℕ) → BindersCounted r 0 0
unfolding binders_before
counted_none r = record { is = refl; few = omega arith }

module _ {r : List ℕ} {n binders : ℕ} (k : BindersCounted r n binders) where
  pub counted_binder : is_binder r n ≡ true → BindersCounted r (n + 1) (binders + 1)
  unfolding binders_before
  counted_binder e = record { is = rw (add-one n, e) (omega (arith, k.is)); few = omega (arith, k.few) }

  pub counted_other : is_binder r n ≡ false → BindersCounted r (n + 1) binders
  unfolding binders_before
  counted_other e = record { is = rw (add-one n, e) (omega (arith, k.is)); few = omega (arith, k.few) }

-- the end of a node's subtree, by the number of its children
module _ (go : ℕ → ℕ) (r : List ℕ) (n : ℕ) where
  end_after : ℕ → ℕ
  end_after zero = n + 1
  end_after (suc zero) = go (n + 1)
  end_after (suc (suc more)) = go (node_y r n)

  end_course_lem : (k : ℕ) → end_course go r n (shape_of k) ≡ end_after (child_count k)
  unfolding end_after
  end_course_lem k =
      kinds k
      (λ l. ap (end_course go r n) (shape_leaf k l) ∙ sym (ap end_after (count_leaf k l)))
      (λ h l. ap (end_course go r n) (shape_pair k h l) ∙ sym (ap end_after (count_pair k h l)))
      (λ h l. ap (end_course go r n) (shape_modal k h l) ∙ sym (ap end_after (count_modal k h l)))
      (λ q. ap (end_course go r n) (shape_variable k q) ∙ sym (ap end_after (count_variable k q)))
      (λ h l. ap (end_course go r n) (shape_binder k h l) ∙ sym (ap end_after (count_binder k h l)))
      (λ h. ap (end_course go r n) (shape_unknown k h) ∙ sym (ap end_after (count_unknown k h)))

  after_second : (count : ℕ) → (count ≡ 0 → ⊥) → (count ≡ 1 → ⊥) → end_after count ≡ go (node_y r n)
  unfolding end_after
  after_second zero z o = absurd (z refl)
  after_second (suc zero) z o = absurd (o refl)
  after_second (suc (suc more)) z o = refl

module _ (r : List ℕ) (n : ℕ) where
  pub end_none : n ≡ end_within 0 r n
  unfolding end_within
  end_none = refl

  module _ (left : ℕ) (some : 0 < left) where
    end_counted : end_within left r n ≡ end_after (end_within (left - 1) r) r n (child_count (node_kind r n))
    unfolding end_within
    end_counted =
        ap (λ (depth : ℕ). end_within depth r n) {x = left} {y = suc (left - 1)} (omega arith) ∙
        end_course_lem (end_within (left - 1) r) r n (node_kind r n)

    end_with : (count : ℕ) → child_count (node_kind r n) ≡ count → end_within left r n ≡ end_after (end_within (left - 1) r) r n count
    end_with count q = end_counted ∙ ap (end_after (end_within (left - 1) r) r n) q

    pub end_childless : child_count (node_kind r n) ≡ 0 → n + 1 ≡ end_within left r n
    unfolding end_after
    end_childless q = sym (end_with 0 q)

    pub end_only : child_count (node_kind r n) ≡ 1 → end_within (left - 1) r (n + 1) ≡ end_within left r n
    unfolding end_after
    end_only q = sym (end_with 1 q)

    pub end_second : (child_count (node_kind r n) ≡ 0 → ⊥) → (child_count (node_kind r n) ≡ 1 → ⊥)
        → end_within (left - 1) r (node_y r n) ≡ end_within left r n
    end_second z o = sym (end_counted ∙ after_second (end_within (left - 1) r) r n (child_count (node_kind r n)) z o)

module _ (r : List ℕ) (n : ℕ) where
  pub binding_free : node_kind r n < 6 → false ≡ binding_faulty r n
  unfolding binding_faulty
  binding_free h =
      kinds (node_kind r n)
      (λ l. rw (shape_leaf (node_kind r n) l))
      (λ l m. rw (shape_pair (node_kind r n) l m))
      (λ l m. rw (shape_modal (node_kind r n) l m))
      (λ l. absurd (omega arith))
      (λ l m. absurd (omega arith))
      (λ l. absurd (omega arith))

  pub binding_variable : node_kind r n ≡ 6 → binding_faulty r n ≡ not (below r (binder_node r (node_x r n)) n)
  unfolding binding_faulty
  binding_variable h = rw (shape_variable (node_kind r n) h)

  pub binding_unknown : 9 ≤ node_kind r n → false ≡ binding_faulty r n
  unfolding binding_faulty
  binding_unknown h = rw (shape_unknown (node_kind r n) h)

  binding_binder : 7 ≤ node_kind r n → node_kind r n < 9 → binding_faulty r n ≡ not (eqb (node_x r n) (binders_before r n) && ltb (binders_before r n) 6)
  unfolding binding_faulty
  binding_binder h l = rw (shape_binder (node_kind r n) h l)

  -- the number is right: only a seventh binder is at fault; the number is wrong
  pub binding_numbered : 7 ≤ node_kind r n → node_kind r n < 9 → node_x r n ≡ binders_before r n → leb 6 (binders_before r n) ≡ binding_faulty r n
  binding_numbered h l e = sym (binding_binder h l ∙ rw (eq-eqb (node_x r n) (binders_before r n) e) (flip (binders_before r n)))
    where
      flip : (b : ℕ) → not (ltb b 6) ≡ leb 6 b
      flip b = elim (dec_lt b 6) [ yes q ↦ rw (lt-ltb b 6 q, lt-leb 6 b q) | no q ↦ rw (le-ltb b 6 (omega arith), le-leb 6 b (omega arith)) ]

  pub binding_misnumbered : 7 ≤ node_kind r n → node_kind r n < 9 → (node_x r n ≡ binders_before r n → ⊥) → true ≡ binding_faulty r n
  binding_misnumbered h l e = sym (binding_binder h l ∙ rw (ne_eqb (node_x r n) (binders_before r n) e))
