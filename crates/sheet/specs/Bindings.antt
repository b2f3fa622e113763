-- "10: a binder number, a seventh binder, or a variable not below its binder.": what a node that refusal 10 lets pass keeps, in a rule that
-- refusals 8 and 9 let pass. Shown by bindings of proofs/Acceptance/Rule.antt.
use Rattle.std.specs.Prelude.{ℕ, ◌<◌, ◌≤◌, ◌≡◌, true, false, List, ◌↔◌}
use Rattle.sheet.specs.Rule.{node_count, node_kind, node_x, is_binder, binders_before, binding_faulty}
use Rattle.sheet.specs.WellFormed.{Subtree, Bound}

-- node n keeps the rules of binding
pub record BindingRight (entries : ℕ) (r : List ℕ) (n : ℕ) : Type 0 where
  -- "A variable node stands below its binder."
  pub bound : node_kind r n ≡ 6 → Bound entries r n
  -- "Binders (kinds 7, 8), in preorder, bind variables 0, 1, 2 and so on"
  pub numbered : is_binder r n ≡ true → node_x r n ≡ binders_before r n
  -- "B, their number, is at most 6."
  pub few : is_binder r n ≡ true → binders_before r n < 6

-- refusal 10 finds a node faulty exactly where it breaks one
abbrev pub Bindings : Type 0
Bindings =
    (entries : ℕ) (r : List ℕ) → node_count r ≤ 64 → Subtree entries r 0 (node_count r) → (n : ℕ) → n < node_count r
    → (binding_faulty r n ≡ false) ↔ BindingRight entries r n
