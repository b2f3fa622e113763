-- A sheet is accepted exactly when it keeps every rule of document 01's "The sheet".
use Prim.Native.Nat.{ℕ, ◌+◌, ◌≤◌}
use mathlib.Core.Path.{◌≡◌, refl, sym, ◌∙◌}
use mathlib.Core.Bool.{Bool, true, ◌&&◌}
use mathlib.Core.List.{List}
use mathlib.Core.Logic.{◌↔◌}
use native.Mathlib.Omega.{arith}
use lib.ListN.{length, length-take, length-drop}
use lib.Dec.{eqb, leb}
use borrow.Author.Tests.{le-leb, eq-eqb, leb-true, eqb-true}
use Rattle.sheet.specs.Bytes.{byte, word, slice}
use Rattle.sheet.specs.Contents.{head_length, longest, heading_right, entry_is, contents_right, plan_length, actions_length, rule_length, actions_offset, rule_offset, plan_body, actions_body, rule_body}
use Rattle.sheet.specs.Plan.{action_count}
use Rattle.sheet.specs.Actions.{entry_count}
use Rattle.sheet.specs.Refusals.{require, and_then}
use Rattle.sheet.specs.Reading.{plan_check, actions_check, rule_check, bodies_check, sheet_check, bodies_of, answer_read, read_of}
use Rattle.sheet.specs.WellFormed.{WellFormedBodies, WellFormedSheet}
use Rattle.sheet.specs.Acceptance.{AcceptedIff, BodiesAcceptedIff}
use Rattle.sheet.specs.declared.Bodies.{Bodies}
use Rattle.sheet.specs.declared.Refusal.{Refusal}
use Rattle.sheet.specs.declared.Refusal.TheVariants.{TooShort, Heading, Contents}
use Rattle.std.specs.Prelude.{Err, Ok}
use Rattle.sheet.specs.Refusals.{Check}
use Rattle.sheet.proofs.Acceptance.Plan.{plan_iff}
use Rattle.sheet.proofs.Acceptance.Actions.{actions_iff}
use Rattle.sheet.proofs.Acceptance.Rule.{rule_iff}
use Rattle.sheet.proofs.Steps.Sheet.{entry_is_lem}
use Rattle.sheet.proofs.Checks.Checks.{and_parts, and_parts₅, all, passed_then, then_passed, passed_require, require_passed}

-- ---- three bodies

pub bodies_iff : BodiesAcceptedIff
unfolding bodies_check
bodies_iff p a r = (
  λ q.
      let c = passed_then (plan_check p) (and_then (actions_check (action_count p) a) (rule_check (entry_count a) r)) q in
      let d = passed_then (actions_check (action_count p) a) (rule_check (entry_count a) r) c.1 in
      record { plan_kept = (plan_iff p).0 c.0; actions_kept = (actions_iff (action_count p) a).0 d.0; rule_kept = (rule_iff (entry_count a) r).0 d.1 },
  λ k.
      then_passed (plan_check p) (and_then (actions_check (action_count p) a) (rule_check (entry_count a) r)) ((plan_iff p).1 k.plan_kept)
      (then_passed (actions_check (action_count p) a) (rule_check (entry_count a) r) ((actions_iff (action_count p) a).1 k.actions_kept)
      ((rule_iff (entry_count a) r).1 k.rule_kept)),
)

-- ---- lengths

-- the bodies' lengths, from their limits
pub record BodyLengths (p a r : List ℕ) : Type 0 where
  pub plan_least : 4 ≤ length p
  pub plan_most : length p ≤ 6148
  pub actions_least : 1 ≤ length a
  pub actions_most : length a ≤ 97
  pub rule_least : 4 ≤ length r
  pub rule_most : length r ≤ 193

pub body_lengths : {p a r : List ℕ} → WellFormedBodies p a r → BodyLengths p a r
body_lengths k =
    let p = k.plan_kept in
    let a = k.actions_kept in
    let r = k.rule_kept in
    record {
      plan_least = p.headed;
      plan_most = omega (arith, p.exact, p.few_transitions);
      actions_least = a.headed;
      actions_most = omega (arith, a.exact, a.few);
      rule_least = omega (arith, r.exact, r.some_nodes);
      rule_most = omega (arith, r.exact, r.few_nodes);
    }

slice_length : (s : List ℕ) (offset size : ℕ) → offset + size ≤ length s → length (slice s offset size) ≡ size
slice_length s offset size h = simp (length-take, length-drop) (omega arith)

module _ (s : List ℕ) (ends : length s ≡ rule_offset s + rule_length s) where
  pub plan_length_lem : length (plan_body s) ≡ plan_length s
  plan_length_lem = slice_length s head_length (plan_length s) (omega arith)

  pub actions_length_lem : length (actions_body s) ≡ actions_length s
  actions_length_lem = slice_length s (actions_offset s) (actions_length s) (omega arith)

  pub rule_length_lem : length (rule_body s) ≡ rule_length s
  rule_length_lem = slice_length s (rule_offset s) (rule_length s) (omega arith)

module _ (s : List ℕ) where
  -- the limits follow from those of the three bodies
  pub kept_lengths : WellFormedSheet s → (26 ≤ length s) × (length s ≤ longest)
  kept_lengths k =
      let p = plan_length_lem s k.ends in
      let a = actions_length_lem s k.ends in
      let r = rule_length_lem s k.ends in
      let ends : length s ≡ rule_offset s + rule_length s = k.ends in
      let b = body_lengths k.bodies_kept in
      (omega arith, omega arith)

  -- ---- the table of contents

  is_entry : (at kind offset : ℕ) → byte s at ≡ kind → word s (at + 1) ≡ offset → entry_is s at kind offset ≡ true
  unfolding entry_is
  is_entry at kind offset p q = all (eqb (byte s at) kind) (eqb (word s (at + 1)) offset) (eq-eqb (byte s at) kind p) (eq-eqb (word s (at + 1)) offset q)

  abbrev sizes : Bool
  sizes = eqb (length s) (rule_offset s + rule_length s) && leb (length s) longest

  abbrev long_enough : Check
  long_enough = require (leb head_length (length s)) TooShort

  abbrev heading : Check
  heading = require (heading_right s) Heading

  abbrev contents : Check
  contents = require (contents_right s) Contents

  abbrev bodies : Check
  bodies = bodies_check (plan_body s) (actions_body s) (rule_body s)

  kept : sheet_check s ≡ Ok tt → WellFormedSheet s
  unfolding sheet_check heading_right contents_right
  kept q =
      let c = passed_then long_enough (and_then heading (and_then contents bodies)) q in
      let d = passed_then heading (and_then contents bodies) c.1 in
      let e = passed_then contents bodies d.1 in
      let h = and_parts (eqb (byte s 0) 1) (eqb (byte s 1) 3) (passed_require (heading_right s) Heading d.0) in
      let t = and_parts₅ (entry_is s 2 1 head_length) (entry_is s 7 2 (actions_offset s)) (entry_is s 12 3 (rule_offset s)) (eqb (length s) (rule_offset s + rule_length s)) (leb (length s) longest)
      (passed_require (contents_right s) Contents e.0) in
      let p = entry_is_lem s 2 1 head_length t.0 in
      let a = entry_is_lem s 7 2 (actions_offset s) t.1 in
      let r = entry_is_lem s 12 3 (rule_offset s) t.2 in
      record {
        headed = leb-true head_length (length s) (passed_require (leb head_length (length s)) TooShort c.0);
        edition = eqb-true (byte s 0) 1 h.0;
        entries = eqb-true (byte s 1) 3 h.1;
        plan_kind = p.0;
        actions_kind = a.0;
        rule_kind = r.0;
        plan_offset = p.1;
        actions_follow = a.1;
        rule_follows = r.1;
        ends = eqb-true (length s) (rule_offset s + rule_length s) t.3;
        bodies_kept = (bodies_iff (plan_body s) (actions_body s) (rule_body s)).0 e.1;
      }

  heads : WellFormedSheet s → heading_right s ≡ true
  unfolding heading_right
  heads k = all (eqb (byte s 0) 1) (eqb (byte s 1) 3) (eq-eqb (byte s 0) 1 k.edition) (eq-eqb (byte s 1) 3 k.entries)

  contains : WellFormedSheet s → contents_right s ≡ true
  unfolding contents_right
  contains k =
      all (entry_is s 2 1 head_length) (entry_is s 7 2 (actions_offset s) && (entry_is s 12 3 (rule_offset s) && sizes)) (is_entry 2 1 head_length k.plan_kind k.plan_offset)
      (all (entry_is s 7 2 (actions_offset s)) (entry_is s 12 3 (rule_offset s) && sizes) (is_entry 7 2 (actions_offset s) k.actions_kind k.actions_follow)
      (all (entry_is s 12 3 (rule_offset s)) sizes (is_entry 12 3 (rule_offset s) k.rule_kind k.rule_follows)
      (all (eqb (length s) (rule_offset s + rule_length s)) (leb (length s) longest) (eq-eqb (length s) (rule_offset s + rule_length s) k.ends) (le-leb (length s) longest (kept_lengths k).1))))

  passes : WellFormedSheet s → sheet_check s ≡ Ok tt
  unfolding sheet_check
  passes k =
      then_passed long_enough (and_then heading (and_then contents bodies))
      (require_passed (leb head_length (length s)) TooShort (le-leb head_length (length s) k.headed))
      (then_passed heading (and_then contents bodies) (require_passed (heading_right s) Heading (heads k))
      (then_passed contents bodies (require_passed (contents_right s) Contents (contains k)) ((bodies_iff (plan_body s) (actions_body s) (rule_body s)).1 k.bodies_kept)))

pub accepted_iff : AcceptedIff
accepted_iff s = (kept s, passes s)

-- a sheet that keeps the rules is not refused
pub not_refused : (s : List ℕ) {x : Refusal} → sheet_check s ≡ Err x → WellFormedSheet s → ⊥
not_refused s {x} e k = let q : (Ok tt) ≡ Err x = sym ((accepted_iff s).1 k) ∙ e in let z : ◌≡◌ {A = ℕ} 0 1 = cc in omega arith

answered : (b : Bodies) (c : Check) → (answer_read b c ≡ Ok b) ↔ (c ≡ Ok tt)
answered b (Ok tt) = (λ q. refl, λ q. refl)
answered b (Err r) = (λ q. cc, λ q. cc)

pub read_accepts : (s : List ℕ) → (read_of s ≡ Ok (bodies_of s)) ↔ WellFormedSheet s
unfolding read_of
read_accepts s =
    let a = answered (bodies_of s) (sheet_check s) in
    (λ q. (accepted_iff s).0 (a.0 q), λ k. a.1 ((accepted_iff s).1 k))
