-- A sheet of 6,455 bytes that is accepted: 128 states with 16 transitions each, 32 action entries, 64 nodes. With it, how long a sheet is.
use Prim.Native.Nat.{ℕ, zero, suc, ◌+◌, ◌*◌, ◌/◌, ◌%◌, ◌<◌, ◌≤◌}
use mathlib.Core.Path.{◌≡◌, refl, ap, subst, ◌∙◌}
use mathlib.Core.Bool.{Bool, true, false}
use mathlib.Core.List.{List, ◌∷◌}
use mathlib.Core.Logic.{inl, inr}
use native.Mathlib.Omega.{arith}
use native.Mathlib.Decide.{dec_lt}
use lib.ListN.{length}
use lib.Dec.{ltb}
use borrow.Author.Tests.{lt-ltb}
use Rattle.sheet.specs.Bytes.{byte, pick}
use Rattle.sheet.specs.Plan.{transition_count, origin, label, target}
use Rattle.sheet.specs.Actions.{entry_count, entry_kind}
use Rattle.sheet.specs.Rule.{node_count, node_kind, node_x, node_y}
use Rattle.sheet.specs.Reading.{bodies_check}
use Rattle.sheet.specs.Writing.{sheet_of}
use Rattle.sheet.specs.WellFormed.{Before, WellFormedPlan, WellFormedEntry, WellFormedActions, Subtree, WellFormedRule}
use Rattle.sheet.specs.RunningCalls.{AllBytes}
use Rattle.sheet.specs.Lengths.{AcceptedOf, Lengths}
use Rattle.std.specs.Prelude.{Ok}
use Rattle.sheet.proofs.Acceptance.Sheet.{bodies_iff}
use Rattle.sheet.proofs.Nodes.Binders.{binder_kind, binders_few}
use Rattle.sheet.proofs.Roundtrip.RoundTrip.{written_accepted, written_length}
use Rattle.sheet.proofs.Limits.ByteLists.{bytes_cons, written_bytes}
use Rattle.sheet.proofs.Limits.Triples.{triples, triples_length, triple_at, bytes_triples}
use Rattle.sheet.proofs.Limits.Lengths.{accepted_lengths, smallest_accepted}

-- transition i leads from state i / 16 by action i % 16 to state 0
unfoldable pub longest_plan : List ℕ
longest_plan = 128 ∷ 16 ∷ 0 ∷ 8 ∷ triples 2048 (λ i. i / 16) (λ i. i % 16) (λ i. 0)

-- every entry is false
unfoldable pub longest_actions : List ℕ
longest_actions = 32 ∷ triples 32 (λ i. 0) (λ i. 0) (λ i. 0)

-- "some" 63 times over F: the kind and the child of node i
abbrev kind_at : ℕ → ℕ
kind_at i = pick (ltb i 63) 4 0

abbrev child_at : ℕ → ℕ
child_at i = pick (ltb i 63) (suc i) 0

unfoldable pub longest_rule : List ℕ
longest_rule = 64 ∷ triples 64 kind_at (λ i. 0) child_at

unfoldable pub longest_sheet : List ℕ
longest_sheet = sheet_of longest_plan longest_actions longest_rule

-- ---- the plan

plan_count : transition_count longest_plan ≡ 2048
unfolding longest_plan
plan_count = refl

origin_is : (i : ℕ) → i < 2048 → origin longest_plan i ≡ i / 16
unfolding longest_plan
origin_is i h =
    let q : 4 + 3 * i ≡ suc (suc (suc (suc (3 * i)))) = omega arith in
    ap (byte longest_plan) q ∙ (triple_at 2048 (λ j. j / 16) (λ j. j % 16) (λ j. 0) i h).first

label_is : (i : ℕ) → i < 2048 → label longest_plan i ≡ i % 16
unfolding longest_plan
label_is i h =
    let q : 5 + 3 * i ≡ suc (suc (suc (suc (1 + 3 * i)))) = omega arith in
    ap (byte longest_plan) q ∙ (triple_at 2048 (λ j. j / 16) (λ j. j % 16) (λ j. 0) i h).second

target_is : (i : ℕ) → i < 2048 → target longest_plan i ≡ 0
unfolding longest_plan
target_is i h =
    let q : 6 + 3 * i ≡ suc (suc (suc (suc (2 + 3 * i)))) = omega arith in
    ap (byte longest_plan) q ∙ (triple_at 2048 (λ j. j / 16) (λ j. j % 16) (λ j. 0) i h).third

rising : (i : ℕ) → suc i < 2048
    → Before (origin longest_plan i) (label longest_plan i) (target longest_plan i) (origin longest_plan (suc i)) (label longest_plan (suc i)) (target longest_plan (suc i))
rising i h =
    let o = origin_is i (omega arith) in
    let o' = origin_is (suc i) h in
    let l = label_is i (omega arith) in
    let l' = label_is (suc i) h in
    elim (dec_lt (i / 16) (suc i / 16)) [
      | yes m ↦ inl (omega arith)
      | no m ↦ inr (omega arith, inl (omega arith))
    ]

plan_kept : WellFormedPlan longest_plan
unfolding longest_plan
plan_kept =
    record {
      headed = omega arith;
      some_states = omega arith;
      few_states = omega arith;
      few_transitions = omega arith;
      exact = ap (λ (n : ℕ). suc (suc (suc (suc n)))) (triples_length 2048 (λ i. i / 16) (λ i. i % 16) (λ i. 0));
      origin_below = λ i h. omega (arith, origin_is i h);
      label_below = λ i h. omega (arith, label_is i h);
      target_below = λ i h. omega (arith, target_is i h);
      rising = rising;
    }

-- ---- the action table

actions_count : entry_count longest_actions ≡ 32
unfolding longest_actions
actions_count = refl

actions_kept : (actions : ℕ) → WellFormedActions actions longest_actions
unfolding longest_actions
actions_kept actions =
    record {
      headed = omega arith;
      few = omega arith;
      exact = ap suc (triples_length 32 (λ i. 0) (λ i. 0) (λ i. 0));
      entries_kept = λ e h.
          let k : entry_kind longest_actions e ≡ 0 =
          ap (byte longest_actions) (let q : 1 + 3 * e ≡ suc (3 * e) = omega arith in q) ∙ (triple_at 32 (λ i. 0) (λ i. 0) (λ i. 0) e h).first in
          WellFormedEntry.constant (omega arith)
          (ap (byte longest_actions) (let q : 2 + 3 * e ≡ suc (1 + 3 * e) = omega arith in q) ∙ (triple_at 32 (λ i. 0) (λ i. 0) (λ i. 0) e h).second)
          (ap (byte longest_actions) (let q : 3 + 3 * e ≡ suc (2 + 3 * e) = omega arith in q) ∙ (triple_at 32 (λ i. 0) (λ i. 0) (λ i. 0) e h).third);
    }

-- ---- the rule

rule_count : node_count longest_rule ≡ 64
unfolding longest_rule
rule_count = refl

kind_is : (n : ℕ) → n < 64 → node_kind longest_rule n ≡ kind_at n
unfolding longest_rule
kind_is n h = let q : 1 + 3 * n ≡ suc (3 * n) = omega arith in ap (byte longest_rule) q ∙ (triple_at 64 kind_at (λ i. 0) child_at n h).first

x_is : (n : ℕ) → n < 64 → node_x longest_rule n ≡ 0
unfolding longest_rule
x_is n h = let q : 2 + 3 * n ≡ suc (1 + 3 * n) = omega arith in ap (byte longest_rule) q ∙ (triple_at 64 kind_at (λ i. 0) child_at n h).second

y_is : (n : ℕ) → n < 64 → node_y longest_rule n ≡ child_at n
unfolding longest_rule
y_is n h = let q : 3 + 3 * n ≡ suc (2 + 3 * n) = omega arith in ap (byte longest_rule) q ∙ (triple_at 64 kind_at (λ i. 0) child_at n h).third

kind_small : (i : ℕ) → kind_at i ≤ 4
kind_small i = go (ltb i 63)
  where
    go : (b : Bool) → pick b 4 0 ≤ 4
    go true = omega arith
    go false = omega arith

child_small : (i : ℕ) → i < 64 → child_at i < 256
child_small i h = go (ltb i 63)
  where
    go : (b : Bool) → pick b (suc i) 0 < 256
    go true = omega arith
    go false = omega arith

-- the subtree of each node ends with the rule
subtree_from_node : (d n : ℕ) → n + d ≡ 63 → Subtree 32 longest_rule n 64
subtree_from_node zero n q =
    let k : node_kind longest_rule 63 ≡ 0 = kind_is 63 (omega arith) in
    let e : 63 ≡ n = omega arith in
    subst (λ (i : ℕ). Subtree 32 longest_rule i 64) e (Subtree.constant (omega arith) (x_is 63 (omega arith)) (y_is 63 (omega arith)))
subtree_from_node (suc d) n q =
    let l : n < 63 = omega arith in
    Subtree.modal (inl (kind_is n (omega arith) ∙ rw (lt-ltb n 63 l))) (omega (arith, x_is n (omega arith)))
    (y_is n (omega arith) ∙ rw (lt-ltb n 63 l)) (subtree_from_node d (suc n) (omega arith))

rule_kept : WellFormedRule 32 longest_rule
unfolding longest_rule
rule_kept =
    record {
      headed = omega arith;
      some_nodes = omega arith;
      few_nodes = omega arith;
      exact = ap suc (triples_length 64 kind_at (λ i. 0) child_at);
      whole = subtree_from_node 63 0 refl;
      binder_numbers = λ n h b. absurd (omega (arith, binder_kind longest_rule n b, kind_is n h, kind_small n));
      few_binders = binders_few longest_rule 64 (λ n h b. absurd (omega (arith, binder_kind longest_rule n b, kind_is n h, kind_small n)));
      bound = λ n h k. absurd (omega (arith, kind_is n h, kind_small n));
    }

-- ---- the sheet

checked : bodies_check longest_plan longest_actions longest_rule ≡ Ok tt
unfolding longest_plan longest_actions
checked = (bodies_iff longest_plan longest_actions longest_rule).1 (record { plan_kept = plan_kept; actions_kept = actions_kept 16; rule_kept = rule_kept })

longest_length : length longest_sheet ≡ 6455
unfolding longest_sheet
longest_length =
    let p = plan_kept.exact in
    let a = (actions_kept 16).exact in
    let r = rule_kept.exact in
    omega (arith, written_length longest_plan longest_actions longest_rule, plan_count, actions_count, rule_count)

longest_bytes : AllBytes longest_sheet
unfolding longest_sheet longest_plan longest_actions longest_rule
longest_bytes =
    written_bytes longest_plan longest_actions longest_rule
    (bytes_cons (omega arith) (bytes_cons (omega arith) (bytes_cons (omega arith) (bytes_cons (omega arith)
    (bytes_triples 2048 (λ i. i / 16) (λ i. i % 16) (λ i. 0) (λ i h. omega arith) (λ i h. omega arith) (λ i h. omega arith))))))
    (bytes_cons (omega arith) (bytes_triples 32 (λ i. 0) (λ i. 0) (λ i. 0) (λ i h. omega arith) (λ i h. omega arith) (λ i h. omega arith)))
    (bytes_cons (omega arith) (bytes_triples 64 kind_at (λ i. 0) child_at (λ i h. omega (arith, kind_small i)) (λ i h. omega arith) child_small))

pub longest_accepted : AcceptedOf 6455
unfolding longest_sheet
longest_accepted = record {
  sheet = longest_sheet;
  bytes = longest_bytes;
  size = longest_length;
  passed = written_accepted longest_plan longest_actions longest_rule checked;
}

pub lengths : Lengths
lengths = record {
  smallest_is = smallest_accepted;
  none_smaller = λ s e. (accepted_lengths s e).0;
  longest_is = longest_accepted;
  none_longer = λ s e. (accepted_lengths s e).1;
}
