-- What the tests of the reader's code say of the checks, in their order.
use Prim.Native.Nat.{ℕ}
use mathlib.Core.Path.{◌≡◌}
use mathlib.Core.Bool.{true, false}
use mathlib.Core.List.{List}
use borrow.Author.Tests.{eq-eqb, ne_eqb}
use Rattle.sheet.specs.Plan.{plan_sized, lowest_transition, transition_count}
use Rattle.sheet.specs.Actions.{actions_sized, lowest_entry, entry_count}
use Rattle.sheet.specs.Rule.{rule_sized, syntax_fault, lowest_binding, node_count}
use Rattle.sheet.specs.Reading.{plan_check, actions_check, rule_check}
use Rattle.sheet.specs.declared.Refusal.TheVariants.{PlanSize, TransitionFault, ActionsSize, EntryFault, RuleSize, SyntaxFault, BindingFault}
use Rattle.std.specs.Prelude.{Err, Ok}

module _ (p : List ℕ) where
  pub plan_unsized : plan_sized p ≡ false → Err PlanSize ≡ plan_check p
  unfolding plan_check
  plan_unsized e = rw e

  pub plan_passed : plan_sized p ≡ true → lowest_transition p ≡ transition_count p → (Ok tt) ≡ plan_check p
  unfolding plan_check
  plan_passed e f = rw (e, eq-eqb (lowest_transition p) (transition_count p) f)

  pub plan_faulty : (i : ℕ) → plan_sized p ≡ true → i ≡ lowest_transition p → (i ≡ transition_count p → ⊥) → Err (TransitionFault i) ≡ plan_check p
  unfolding plan_check
  plan_faulty i e f g = rw (e, ← f, ne_eqb i (transition_count p) g)

module _ (actions : ℕ) (a : List ℕ) where
  pub actions_unsized : actions_sized a ≡ false → Err ActionsSize ≡ actions_check actions a
  unfolding actions_check
  actions_unsized e = rw e

  pub actions_passed : actions_sized a ≡ true → lowest_entry actions a ≡ entry_count a → (Ok tt) ≡ actions_check actions a
  unfolding actions_check
  actions_passed e f = rw (e, eq-eqb (lowest_entry actions a) (entry_count a) f)

  pub actions_faulty : (i : ℕ) → actions_sized a ≡ true → i ≡ lowest_entry actions a → (i ≡ entry_count a → ⊥) → Err (EntryFault i) ≡ actions_check actions a
  unfolding actions_check
  actions_faulty i e f g = rw (e, ← f, ne_eqb i (entry_count a) g)

module _ (entries : ℕ) (r : List ℕ) where
  pub rule_unsized : rule_sized r ≡ false → Err RuleSize ≡ rule_check entries r
  unfolding rule_check
  rule_unsized e = rw e

  pub rule_malformed : (n : ℕ) → rule_sized r ≡ true → n ≡ syntax_fault entries r → (n ≡ node_count r → ⊥) → Err (SyntaxFault (record { 0 = n })) ≡ rule_check entries r
  unfolding rule_check
  rule_malformed n e f g = rw (e, ← f, ne_eqb n (node_count r) g)

  pub rule_misbound : (n : ℕ) → rule_sized r ≡ true → syntax_fault entries r ≡ node_count r → n ≡ lowest_binding r → (n ≡ node_count r → ⊥) → Err (BindingFault (record { 0 = n })) ≡ rule_check entries r
  unfolding rule_check
  rule_misbound n e s f g = rw (e, eq-eqb (syntax_fault entries r) (node_count r) s, ← f, ne_eqb n (node_count r) g)

  pub rule_passed : rule_sized r ≡ true → syntax_fault entries r ≡ node_count r → lowest_binding r ≡ node_count r → (Ok tt) ≡ rule_check entries r
  unfolding rule_check
  rule_passed e s f = rw (e, eq-eqb (syntax_fault entries r) (node_count r) s, eq-eqb (lowest_binding r) (node_count r) f)
