-- The rules of a sheet, each stated once, with no order of checking: what document 01's "The sheet" asks, with kind 6 of document 02 (a).
-- That a sheet is accepted exactly when it keeps them is AcceptedIff of specs/Acceptance.antt.
use Rattle.std.specs.Prelude.{ℕ, suc, ◌+◌, ◌*◌, ◌<◌, ◌≤◌, ◌≡◌, true, List, ◌⊎◌, length}
use Rattle.sheet.specs.Bytes.{byte, word}
use Rattle.sheet.specs.Contents.{head_length, rule_length, actions_offset, rule_offset, plan_body, actions_body, rule_body}
use Rattle.sheet.specs.Plan.{state_count, action_count, transition_count, origin, label, target}
use Rattle.sheet.specs.Actions.{entry_count, entry_kind, entry_x, entry_y}
use Rattle.sheet.specs.Rule.{node_count, node_kind, node_x, node_y, is_binder, binders_before, binder_count}

-- ---- plan

-- the order by (from, action, to)
abbrev pub Before : ℕ → ℕ → ℕ → ℕ → ℕ → ℕ → Type 0
Before f a t f' a' t' = (f < f') ⊎ ((f ≡ f') × ((a < a') ⊎ ((a ≡ a') × (t < t'))))

-- "Kind 1, plan"
pub record WellFormedPlan (p : List ℕ) : Type 0 where
  -- "S (1 byte, 1 to 128 states), A (1 byte, 0 to 255 actions), T (16 bits, 0 to 2,048)"; A needs no rule, a byte being 0 to 255
  pub headed : 4 ≤ length p
  pub some_states : 1 ≤ state_count p
  pub few_states : state_count p ≤ 128
  pub few_transitions : transition_count p ≤ 2048
  -- "then T transitions of three bytes"
  pub exact : length p ≡ 4 + 3 * transition_count p
  -- "States are 0 to S - 1, actions 0 to A - 1."
  pub origin_below : (i : ℕ) → i < transition_count p → origin p i < state_count p
  pub label_below : (i : ℕ) → i < transition_count p → label p i < action_count p
  pub target_below : (i : ℕ) → i < transition_count p → target p i < state_count p
  -- "Transitions rise strictly by (from, action, to)."
  pub rising : (i : ℕ) → suc i < transition_count p
      → Before (origin p i) (label p i) (target p i) (origin p (suc i)) (label p (suc i)) (target p (suc i))

-- ---- action formulas

-- "Kinds: 0 false, 1 true, 2 action x (x below A), 3 x or y, 4 x and y, 5 not x. Operands of 3, 4, 5 are entry numbers below their
-- own."; "Unused fields are 0." Document 02 (a): "kind 6: every action from x to y, both ends included. It is well formed when x is at
-- most y and y is below A"
pub data WellFormedEntry (actions : ℕ) (a : List ℕ) (e : ℕ) : Type 0 where
  constant : entry_kind a e ≤ 1 → entry_x a e ≡ 0 → entry_y a e ≡ 0 → WellFormedEntry actions a e
  action : entry_kind a e ≡ 2 → entry_x a e < actions → entry_y a e ≡ 0 → WellFormedEntry actions a e
  operands : (entry_kind a e ≡ 3) ⊎ (entry_kind a e ≡ 4) → entry_x a e < e → entry_y a e < e → WellFormedEntry actions a e
  operand : entry_kind a e ≡ 5 → entry_x a e < e → entry_y a e ≡ 0 → WellFormedEntry actions a e
  range : entry_kind a e ≡ 6 → entry_x a e ≤ entry_y a e → entry_y a e < actions → WellFormedEntry actions a e

-- "Kind 2, action formulas"; actions is A
pub record WellFormedActions (actions : ℕ) (a : List ℕ) : Type 0 where
  -- "Count (1 byte, 0 to 32), then entries of kind, x, y."
  pub headed : 1 ≤ length a
  pub few : entry_count a ≤ 32
  pub exact : length a ≡ 1 + 3 * entry_count a
  pub entries_kept : (e : ℕ) → e < entry_count a → WellFormedEntry actions a e

-- ---- rule

-- The nodes from n up to e are the subtree of node n. "Nodes stand in preorder, node 0 the root: a first or only child is the next node, a
-- second child the first node after the first child's part". "Unused fields are 0." Past its end a body reads as 0, so a subtree may run
-- past N; in a well-formed rule none does, since the root's subtree ends at N and a node has one subtree.
pub data Subtree (entries : ℕ) (r : List ℕ) : ℕ → ℕ → Type 0 where
  constant : {n : ℕ} → node_kind r n ≤ 1 → node_x r n ≡ 0 → node_y r n ≡ 0 → Subtree entries r n (suc n)
  variable : {n : ℕ} → node_kind r n ≡ 6 → node_y r n ≡ 0 → Subtree entries r n (suc n)
  pair : {n m e : ℕ} → (node_kind r n ≡ 2) ⊎ (node_kind r n ≡ 3) → node_x r n ≡ suc n → Subtree entries r (suc n) m
      → node_y r n ≡ m → Subtree entries r m e → Subtree entries r n e
  modal : {n e : ℕ} → (node_kind r n ≡ 4) ⊎ (node_kind r n ≡ 5) → node_x r n < entries → node_y r n ≡ suc n → Subtree entries r (suc n) e
      → Subtree entries r n e
  binder : {n e : ℕ} → (node_kind r n ≡ 7) ⊎ (node_kind r n ≡ 8) → node_y r n ≡ suc n → Subtree entries r (suc n) e → Subtree entries r n e

-- "below": node n is in the subtree of node b, and not b itself
pub record Below (entries : ℕ) (r : List ℕ) (b n : ℕ) : Type 0 where
  pub end : ℕ
  pub whole : Subtree entries r b end
  pub after : b < n
  pub inside : n < end

-- node b binds variable k: it is a binder, and k binders stand before it
pub record Binds (r : List ℕ) (b k : ℕ) : Type 0 where
  pub among : b < node_count r
  pub is_binder_holds : is_binder r b ≡ true
  pub numbered : binders_before r b ≡ k

-- variable node n has a binder, and stands below it
pub record Bound (entries : ℕ) (r : List ℕ) (n : ℕ) : Type 0 where
  pub at : ℕ
  pub binds : Binds r at (node_x r n)
  pub below : Below entries r at n

-- "Kind 3, rule"; entries is the number of action entries
pub record WellFormedRule (entries : ℕ) (r : List ℕ) : Type 0 where
  -- "Count N (1 byte, 1 to 64), then nodes of kind, x, y."
  pub headed : 1 ≤ length r
  pub some_nodes : 1 ≤ node_count r
  pub few_nodes : node_count r ≤ 64
  pub exact : length r ≡ 1 + 3 * node_count r
  -- node 0 is the root, and "nothing follows the root's part"
  pub whole : Subtree entries r 0 (node_count r)
  -- "Binders (kinds 7, 8), in preorder, bind variables 0, 1, 2 and so on"
  pub binder_numbers : (n : ℕ) → n < node_count r → is_binder r n ≡ true → node_x r n ≡ binders_before r n
  -- "B, their number, is at most 6."
  pub few_binders : binder_count r ≤ 6
  -- "A variable node stands below its binder."
  pub bound : (n : ℕ) → n < node_count r → node_kind r n ≡ 6 → Bound entries r n

-- ---- sheet

-- three bodies that go together: A of the plan for the actions, the count of the actions for the rule
pub record WellFormedBodies (p a r : List ℕ) : Type 0 where
  pub plan_kept : WellFormedPlan p
  pub actions_kept : WellFormedActions (action_count p) a
  pub rule_kept : WellFormedRule (entry_count a) r

-- "The sheet"
pub record WellFormedSheet (s : List ℕ) : Type 0 where
  -- two bytes, "Then three entries of 5 bytes"
  pub headed : head_length ≤ length s
  -- "Byte 0 is 1 (edition), byte 1 is 3 (entries)."
  pub edition : byte s 0 ≡ 1
  pub entries : byte s 1 ≡ 3
  -- "Their kinds are 1, 2, 3 in that order."
  pub plan_kind : byte s 2 ≡ 1
  pub actions_kind : byte s 7 ≡ 2
  pub rule_kind : byte s 12 ≡ 3
  -- "The first body starts at 17, each next one where the one before ends, and the file ends with the last."
  pub plan_offset : word s 3 ≡ head_length
  pub actions_follow : word s 8 ≡ actions_offset s
  pub rule_follows : word s 13 ≡ rule_offset s
  pub ends : length s ≡ rule_offset s + rule_length s
  pub bodies_kept : WellFormedBodies (plan_body s) (actions_body s) (rule_body s)
