-- A rule passes its checks exactly when it keeps the rules of document 01's "Kind 3, rule".
use Prim.Native.Nat.{ℕ, suc, ◌+◌, ◌*◌, ◌<◌, ◌≤◌}
use mathlib.Core.Path.{◌≡◌, sym, ap, ◌∙◌}
use mathlib.Core.Bool.{true, false, not, ◌&&◌}
use mathlib.Core.List.{List}
use mathlib.Core.Logic.{◌↔◌}
use native.Mathlib.Omega.{arith}
use lib.ListN.{length}
use lib.Dec.{eqb, ltb}
use borrow.Author.Tests.{lt-ltb, eq-eqb, ltb-true, eqb-true, not-false}
use Rattle.sheet.specs.Rule.{node_count, node_kind, node_x, rule_sized, Shape, shape_of, leaf, pair, modal, variable, binder, unknown}
use Rattle.sheet.specs.Rule.{syntax_fault, is_binder, binders_before, binder_node, subtree_end, below, binding_wrong, binding_faulty, lowest_binding}
use Rattle.sheet.specs.Refusals.{require, and_then}
use Rattle.sheet.specs.Reading.{rule_check}
use Rattle.sheet.specs.Bindings.{BindingRight, Bindings}
use Rattle.sheet.specs.WellFormed.{Subtree, Bound, WellFormedRule}
use Rattle.sheet.specs.declared.Refusal.TheVariants.{RuleSize, SyntaxFault, BindingFault}
use Rattle.std.specs.Prelude.{Ok}
use Rattle.sheet.specs.Refusals.{Check}
use Rattle.sheet.proofs.Steps.Sizes.{rule_limits, rule_exact}
use Rattle.sheet.proofs.Nodes.Shapes.{shape_leaf, shape_pair, shape_modal, shape_variable, shape_binder, shape_unknown, kinds}
use Rattle.sheet.proofs.Nodes.Unfolding.{subtrees}
use Rattle.sheet.proofs.Nodes.Below.{nodes_found}
use Rattle.sheet.proofs.Nodes.Binders.{binder_kind, kind_binder, binders_next, binders_rise, binders_few, binder_found, binder_node_lem}
use Rattle.sheet.proofs.Checks.Checks.{and_parts, all, passed_then, then_passed, passed_require, require_passed, none_found}

module _ (entries : ℕ) (r : List ℕ) where
  -- ---- variables and binders

  wrong : (n : ℕ) (s : Shape) → shape_of (node_kind r n) ≡ s → binding_faulty r n ≡ binding_wrong r n s
  unfolding binding_faulty
  wrong n s q = rw q

  module _ (few : node_count r ≤ 64) (whole : Subtree entries r 0 (node_count r)) where
    bound_of : (n : ℕ) → n < node_count r → node_kind r n ≡ 6 → binding_faulty r n ≡ false → Bound entries r n
    bound_of n h k q =
        let at : ℕ = binder_node r (node_x r n) in
        let b = not-false (below r at n) (sym (wrong n variable (shape_variable (node_kind r n) k)) ∙ q) in
        let l : at < n = ltb-true at n (and_parts (ltb at n) (ltb n (subtree_end r at)) b).0 in
        record {
          at = at;
          binds = binder_found r (node_x r n) (omega arith);
          below = (nodes_found.below_found entries r few whole at n (omega arith)).0 b;
        }

    bound_fine : (n : ℕ) → node_kind r n ≡ 6 → Bound entries r n → binding_faulty r n ≡ false
    bound_fine n k b =
        wrong n variable (shape_variable (node_kind r n) k) ∙ ap (λ (m : ℕ). not (below r m n)) (binder_node_lem r b.at (node_x r n) b.binds) ∙
        ap not ((nodes_found.below_found entries r few whole b.at n b.binds.among).1 b.below)

  binder_of_lem : (n : ℕ) → is_binder r n ≡ true → binding_faulty r n ≡ false → (node_x r n ≡ binders_before r n) × (binders_before r n < 6)
  binder_of_lem n k q =
      let g = binder_kind r n k in
      let b = and_parts (eqb (node_x r n) (binders_before r n)) (ltb (binders_before r n) 6)
      (not-false (eqb (node_x r n) (binders_before r n) && ltb (binders_before r n) 6) (sym (wrong n binder (shape_binder (node_kind r n) g.0 g.1)) ∙ q)) in
      (eqb-true (node_x r n) (binders_before r n) b.0, ltb-true (binders_before r n) 6 b.1)

  right_fine : node_count r ≤ 64 → Subtree entries r 0 (node_count r) → (n : ℕ) → BindingRight entries r n → binding_faulty r n ≡ false
  right_fine few whole n b =
      kinds (node_kind r n)
      (λ l. wrong n leaf (shape_leaf (node_kind r n) l))
      (λ l m. wrong n pair (shape_pair (node_kind r n) l m))
      (λ l m. wrong n modal (shape_modal (node_kind r n) l m))
      (λ l. bound_fine few whole n l (b.bound l))
      (λ l m.
      let i = kind_binder r n l m in
      wrong n binder (shape_binder (node_kind r n) l m) ∙
      ap not (all (eqb (node_x r n) (binders_before r n)) (ltb (binders_before r n) 6) (eq-eqb (node_x r n) (binders_before r n) (b.numbered i))
      (lt-ltb (binders_before r n) 6 (b.few i))))
      (λ l. wrong n unknown (shape_unknown (node_kind r n) l))

  fine_right : node_count r ≤ 64 → Subtree entries r 0 (node_count r) → (n : ℕ) → n < node_count r → binding_faulty r n ≡ false → BindingRight entries r n
  fine_right few whole n h q = record { bound = λ k. bound_of few whole n h k q; numbered = λ i. (binder_of_lem n i q).0; few = λ i. (binder_of_lem n i q).1 }

  fine : (k : WellFormedRule entries r) (n : ℕ) → n < node_count r → binding_faulty r n ≡ false
  fine k n h =
      right_fine k.few_nodes k.whole n (record {
        bound = k.bound n h;
        numbered = k.binder_numbers n h;
        few = λ i. omega (arith, binders_next r n i, binders_rise r (suc n) (node_count r) h, k.few_binders);
      })

  -- ---- the three checks

  abbrev sizes : Check
  sizes = require (rule_sized r) RuleSize

  abbrev nodes : Check
  nodes = require (eqb (syntax_fault entries r) (node_count r)) (SyntaxFault (record { 0 = syntax_fault entries r }))

  abbrev binds : Check
  binds = require (eqb (lowest_binding r) (node_count r)) (BindingFault (record { 0 = lowest_binding r }))

  kept : rule_check entries r ≡ Ok tt → WellFormedRule entries r
  unfolding rule_check
  kept q =
      let c = passed_then sizes (and_then nodes binds) q in
      let d = passed_then nodes binds c.1 in
      let s = rule_limits r (passed_require (rule_sized r) RuleSize c.0) in
      let w = (subtrees.faultless entries r s.1).0 (eqb-true (syntax_fault entries r) (node_count r)
      (passed_require (eqb (syntax_fault entries r) (node_count r)) (SyntaxFault (record { 0 = syntax_fault entries r })) d.0)) in
      let t : (n : ℕ) → n < node_count r → binding_faulty r n ≡ false =
      (none_found (binding_faulty r) (node_count r)).0 (passed_require (eqb (lowest_binding r) (node_count r)) (BindingFault (record { 0 = lowest_binding r })) d.1) in
      record {
        headed = s.0;
        some_nodes = s.1;
        few_nodes = s.2;
        exact = s.3;
        whole = w;
        binder_numbers = λ n h. (fine_right s.2 w n h (t n h)).numbered;
        few_binders = binders_few r (node_count r) (λ n h. (fine_right s.2 w n h (t n h)).few);
        bound = λ n h. (fine_right s.2 w n h (t n h)).bound;
      }

  passes : WellFormedRule entries r → rule_check entries r ≡ Ok tt
  unfolding rule_check
  passes k =
      then_passed sizes (and_then nodes binds)
      (require_passed (rule_sized r) RuleSize (rule_exact r k.headed k.some_nodes k.few_nodes ∙ eq-eqb (length r) (1 + 3 * node_count r) k.exact))
      (then_passed nodes binds
      (require_passed (eqb (syntax_fault entries r) (node_count r)) (SyntaxFault (record { 0 = syntax_fault entries r }))
      (eq-eqb (syntax_fault entries r) (node_count r) ((subtrees.faultless entries r k.some_nodes).1 k.whole)))
      (require_passed (eqb (lowest_binding r) (node_count r)) (BindingFault (record { 0 = lowest_binding r })) ((none_found (binding_faulty r) (node_count r)).1 (fine k))))

  pub rule_iff : (rule_check entries r ≡ Ok tt) ↔ WellFormedRule entries r
  rule_iff = (kept, passes)

pub bindings : Bindings
bindings entries r few whole n h = (fine_right entries r few whole n h, right_fine entries r few whole n)
