-- The guard check's recursion: what a node of each kind asks of its children, and what it makes of their answers.
use Prim.Native.Nat.{ℕ, suc, ◌-◌, ◌<◌, ◌≤◌}
use mathlib.Core.Path.{◌≡◌, sym, ap, ap₂, subst, ◌∙◌}
use mathlib.Core.Bool.{Bool, true, false, ◌&&◌}
use mathlib.Core.List.{List}
use native.Mathlib.Omega.{arith}
use lib.Dec.{ltb}
use Rattle.sheet.specs.Contents.{actions_body, rule_body}
use Rattle.sheet.specs.Actions.{entry_count}
use Rattle.sheet.specs.Rule.{node_count, node_kind, node_x, node_y, binder_node}
use Rattle.sheet.specs.Fields.{fields_at}
use Rattle.sheet.specs.Reading.{sheet_check}
use Rattle.sheet.specs.declared.Fields.{Fields}
use Rattle.std.specs.Prelude.{Err, Ok}
use Rattle.sheet.specs.declared.Refusal.{Refusal}
use Rattle.sheet.proofs.Acceptance.Parts.{rule_kept}
use Rattle.calculus.specs.Definition2.{guarded_in}
use Rattle.calculus.specs.Decode.{formula}
use Rattle.calculus.specs.GuardCheck.{answer_guard, guard_of}
use Rattle.calculus.specs.Internal.GuardContracts.{bound_since, Since, GuardedSince}
use Rattle.sheet.proofs.Nodes.Children.{PairChildren, ModalChild, BinderChild, node_kind_lem, pair_children, modal_child, binder_child}
use Rattle.calculus.proofs.Definition2.Since.{at_constant, at_pair, at_modal, at_variable, at_binder, since_root}

-- a call for node c, from node n: node c stands after n, so that fewer nodes are left
pub record Call (r : List ℕ) (n c first : ℕ) : Type 0 where
  pub fewer : node_count r - c < node_count r - n
  pub asked : Since r c first

module _ (r : List ℕ) (n first : ℕ) (pre : Since r n first) (f : Fields) (is : f ≡ fields_at r n) where
  kind_is : f.kind ≡ node_kind r n
  kind_is = ap (λ (g : Fields). g.kind) is

  x_is : f.x ≡ node_x r n
  x_is = ap (λ (g : Fields). g.x) is

  y_is : f.y ≡ node_y r n
  y_is = ap (λ (g : Fields). g.y) is

  call : (c first' : ℕ) → n < c → c < node_count r → first' ≤ n → Call r n c first'
  call c first' h l s = record { fewer = omega (arith, pre.among); asked = record { entries = pre.entries; kept = pre.kept; among = l; since = omega arith } }

  module _ (h : 2 ≤ f.kind) (g : f.kind < 4) where
    parts : PairChildren pre.entries r n
    parts = pair_children pre.kept n pre.among (omega (arith, kind_is)) (omega (arith, kind_is))

    first_is : f.x ≡ suc n
    first_is = x_is ∙ parts.x_is

    pub call_first : Call r n f.x first
    call_first = call f.x first (omega (arith, first_is)) (omega (arith, first_is, parts.after, parts.below)) pre.since

    pub call_second : Call r n f.y first
    call_second = call f.y first (omega (arith, y_is, parts.after)) (omega (arith, y_is, parts.below)) pre.since

    -- the node's answer is the "and" of its children's
    pub step_pair : (p q b : Bool) → GuardedSince r f.x first p → GuardedSince r f.y first q → b ≡ (p && q) → GuardedSince r n first b
    step_pair p q b s t e = record {
      is = λ a. at_pair pre.kept a n first pre.among (omega (arith, kind_is)) (omega (arith, kind_is)) b
          (e ∙ ap₂ ◌&&◌ (s.is a ∙ ap (λ (c : ℕ). guarded_in (formula a r c) (bound_since r first)) first_is) (t.is a ∙ ap (λ (c : ℕ). guarded_in (formula a r c) (bound_since r first)) y_is));
    }

    -- a first child that is not guarded decides
    pub step_failed : (p : Bool) → GuardedSince r f.x first p → p ≡ false → GuardedSince r n first p
    step_failed p s e = record {
      is = λ a. at_pair pre.kept a n first pre.among (omega (arith, kind_is)) (omega (arith, kind_is)) p
          (e ∙ ap (λ (c : Bool). c && guarded_in (formula a r (node_y r n)) (bound_since r first)) (sym e ∙ (s.is a ∙ ap (λ (c : ℕ). guarded_in (formula a r c) (bound_since r first)) first_is)));
    }

  module _ (h : 4 ≤ f.kind) (g : f.kind < 6) where
    under : ModalChild pre.entries r n
    under = modal_child pre.kept n pre.among (omega (arith, kind_is)) (omega (arith, kind_is))

    pub call_modal : Call r n f.y n
    call_modal = call f.y n (omega (arith, y_is, under.y_is)) (omega (arith, y_is, under.y_is, under.below)) (omega arith)

    pub step_modal : (b : Bool) → GuardedSince r f.y n b → GuardedSince r n first b
    step_modal b s = record {
      is = λ a. at_modal pre.kept a n first pre.among (omega (arith, kind_is)) (omega (arith, kind_is)) (omega (arith, under.below)) b
          (s.is a ∙ ap (λ (c : ℕ). guarded_in (formula a r c) (bound_since r n)) (y_is ∙ under.y_is));
    }

  module _ (h : 7 ≤ f.kind) (g : f.kind < 9) where
    body : BinderChild r n
    body = binder_child pre.kept n pre.among (omega (arith, kind_is)) (omega (arith, kind_is))

    pub call_binder : Call r n f.y first
    call_binder = call f.y first (omega (arith, y_is, body.y_is)) (omega (arith, y_is, body.y_is, body.below)) pre.since

    pub step_binder : (b : Bool) → GuardedSince r f.y first b → GuardedSince r n first b
    step_binder b s = record {
      is = λ a. at_binder pre.kept a n first pre.among (omega (arith, kind_is)) (omega (arith, kind_is)) pre.since b
          (s.is a ∙ ap (λ (c : ℕ). guarded_in (formula a r c) (bound_since r first)) (y_is ∙ body.y_is));
    }

  pub step_constant : f.kind < 2 → GuardedSince r n first true
  step_constant h = record { is = λ a. at_constant pre.kept a n first pre.among (omega (arith, kind_is)) }

  pub step_variable : f.kind ≡ 6 → (b : Bool) → b ≡ ltb (binder_node r f.x) first → GuardedSince r n first b
  step_variable h b e = record {
    is = λ a. e ∙ (ap (λ (k : ℕ). ltb (binder_node r k) first) x_is ∙ at_variable pre.kept a n first pre.among (sym kind_is ∙ h));
  }

  -- a kept rule has no other kind
  pub step_unknown : 8 < f.kind → (b : Bool) → GuardedSince r n first b
  step_unknown h b = absurd (omega (arith, kind_is, node_kind_lem pre.kept n pre.among))

-- the whole sheet
module _ (s : List ℕ) where
  pub guard_refused : (x : Refusal) → sheet_check s ≡ Err x → Err x ≡ guard_of s
  unfolding guard_of
  guard_refused x e = ap (answer_guard s) (sym e)

  module _ (e : sheet_check s ≡ Ok tt) (r : List ℕ) (q : r ≡ rule_body s) where
    pub guard_start : Since r 0 0
    guard_start =
        subst (λ (x : List ℕ). Since x 0 0) (sym q)
        (record { entries = entry_count (actions_body s); kept = rule_kept s e; among = (rule_kept s e).some_nodes; since = omega arith })

    pub guard_answered : (b : Bool) → GuardedSince r 0 0 b → Ok b ≡ guard_of s
    unfolding guard_of
    guard_answered b g =
        ap Ok (subst (λ (x : List ℕ). b ≡ guarded_in (formula (actions_body s) x 0) (bound_since x 0)) q (g.is (actions_body s)) ∙ since_root (rule_kept s e) (actions_body s)) ∙
        ap (answer_guard s) (sym e)
