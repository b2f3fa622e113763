-- What the tests of the reader's code say of the sizes that document 01 allows.
use Prim.Native.Nat.{ℕ, ◌+◌, ◌*◌, ◌≤◌}
use mathlib.Core.Path.{◌≡◌}
use mathlib.Core.Bool.{true}
use mathlib.Core.List.{List}
use lib.ListN.{length}
use lib.Dec.{eqb, leb}
use native.Mathlib.Omega.{arith}
use borrow.Author.Tests.{le-leb, leb-true, eqb-true}
use Rattle.sheet.specs.Plan.{state_count, transition_count, plan_sized}
use Rattle.sheet.specs.Actions.{entry_count, actions_sized}
use Rattle.sheet.specs.Rule.{node_count, rule_sized}
use Rattle.sheet.specs.Internal.Subtrees.{NodeOf}
use Rattle.sheet.proofs.Checks.Checks.{and_parts₃, and_parts₄, and_parts₅}

module _ (p : List ℕ) where
  pub plan_limits : plan_sized p ≡ true
      → (4 ≤ length p) × (1 ≤ state_count p) × (state_count p ≤ 128) × (transition_count p ≤ 2048) × (length p ≡ 4 + 3 * transition_count p)
  unfolding plan_sized
  plan_limits q =
      let b = and_parts₅ (leb 4 (length p)) (leb 1 (state_count p)) (leb (state_count p) 128) (leb (transition_count p) 2048)
      (eqb (length p) (4 + 3 * transition_count p)) q in
      omega (arith, leb-true, eqb-true)

  -- a plan of the right size has a byte for each field of each transition
  pub plan_room : plan_sized p ≡ true → 4 + 3 * transition_count p ≤ length p
  plan_room q = omega (arith, plan_limits q)

  pub plan_exact : 4 ≤ length p → 1 ≤ state_count p → state_count p ≤ 128 → transition_count p ≤ 2048 → plan_sized p ≡ eqb (length p) (4 + 3 * transition_count p)
  unfolding plan_sized
  plan_exact h k l m = simp (le-leb _ _ h, le-leb _ _ k, le-leb _ _ l, le-leb _ _ m)

module _ (a : List ℕ) where
  pub actions_limits : actions_sized a ≡ true → (1 ≤ length a) × (entry_count a ≤ 32) × (length a ≡ 1 + 3 * entry_count a)
  unfolding actions_sized
  actions_limits q =
      let b = and_parts₃ (leb 1 (length a)) (leb (entry_count a) 32) (eqb (length a) (1 + 3 * entry_count a)) q in
      omega (arith, leb-true, eqb-true)

  pub actions_exact : 1 ≤ length a → entry_count a ≤ 32 → actions_sized a ≡ eqb (length a) (1 + 3 * entry_count a)
  unfolding actions_sized
  actions_exact h k = simp (le-leb _ _ h, le-leb _ _ k)

module _ (r : List ℕ) where
  pub rule_limits : rule_sized r ≡ true → (1 ≤ length r) × (1 ≤ node_count r) × (node_count r ≤ 64) × (length r ≡ 1 + 3 * node_count r)
  unfolding rule_sized
  rule_limits q =
      let b = and_parts₄ (leb 1 (length r)) (leb 1 (node_count r)) (leb (node_count r) 64) (eqb (length r) (1 + 3 * node_count r)) q in
      omega (arith, leb-true, eqb-true)

  -- a rule of the right size has a root
  pub rule_root : rule_sized r ≡ true → NodeOf r 0
  rule_root q = let s = rule_limits q in record { small = s.2; among = s.1 }

  pub rule_exact : 1 ≤ length r → 1 ≤ node_count r → node_count r ≤ 64 → rule_sized r ≡ eqb (length r) (1 + 3 * node_count r)
  unfolding rule_sized
  rule_exact h k l = simp (le-leb _ _ h, le-leb _ _ k, le-leb _ _ l)
