-- An accepted sheet taken apart: its bodies are well formed, within their limits, and their bytes are bytes of the sheet.
use Prim.Native.Nat.{ℕ, ◌+◌, ◌*◌, ◌<◌, ◌≤◌}
use mathlib.Core.Path.{◌≡◌, sym, ◌∙◌}
use mathlib.Core.List.{List}
use native.Mathlib.Omega.{arith}
use native.Mathlib.Decide.{dec_lt}
use lib.ListN.{length, take, drop, length-take, get_or-eq_default}
use lib.Seq.{get_or-take, get_or-drop}
use Rattle.sheet.specs.Bytes.{byte, slice}
use Rattle.sheet.specs.Contents.{head_length, longest, plan_length, rule_length, rule_offset, plan_body, actions_body, rule_body}
use Rattle.sheet.specs.Plan.{state_count, action_count, transition_count}
use Rattle.sheet.specs.Actions.{entry_count}
use Rattle.sheet.specs.Rule.{node_count}
use Rattle.sheet.specs.Reading.{sheet_check}
use Rattle.sheet.specs.WellFormed.{WellFormedPlan, WellFormedActions, WellFormedRule, WellFormedBodies, WellFormedSheet}
use Rattle.std.specs.Prelude.{Ok}
use Rattle.sheet.proofs.Acceptance.Sheet.{accepted_iff, plan_length_lem, actions_length_lem, rule_length_lem, kept_lengths}

slice_byte : (s : List ℕ) (offset size j : ℕ) → j < size → byte (slice s offset size) j ≡ byte s (offset + j)
slice_byte s offset size j h = get_or-take size (drop offset s) j 0 h ∙ get_or-drop offset s j 0

-- where all numbers of a list are bytes, so are those of a slice of it
pub slice_small : (s : List ℕ) → ((k : ℕ) → byte s k < 256) → (offset size k : ℕ) → byte (slice s offset size) k < 256
slice_small s small offset size k =
    elim (dec_lt k size) [
      | yes h ↦ omega (arith, slice_byte s offset size k h, small (offset + k))
      | no h ↦ omega (arith, get_or-eq_default (take size (drop offset s)) 0 {n = k} (omega (arith, length-take size (drop offset s))))
    ]

module _ (s : List ℕ) (accepted : sheet_check s ≡ Ok tt) where
  pub sheet_kept : WellFormedSheet s
  sheet_kept = (accepted_iff s).0 accepted

  pub bodies_kept : WellFormedBodies (plan_body s) (actions_body s) (rule_body s)
  bodies_kept = sheet_kept.bodies_kept

  pub plan_kept : WellFormedPlan (plan_body s)
  plan_kept = bodies_kept.plan_kept

  pub actions_kept : WellFormedActions (action_count (plan_body s)) (actions_body s)
  actions_kept = bodies_kept.actions_kept

  pub rule_kept : WellFormedRule (entry_count (actions_body s)) (rule_body s)
  rule_kept = bodies_kept.rule_kept

  pub few_states : state_count (plan_body s) ≤ 128
  few_states = plan_kept.few_states

  pub few_transitions : transition_count (plan_body s) ≤ 2048
  few_transitions = plan_kept.few_transitions

  pub few_nodes : node_count (rule_body s) ≤ 64
  few_nodes = rule_kept.few_nodes

  -- where the rule lies
  pub offset_is : head_length + length (plan_body s) + length (actions_body s) ≡ rule_offset s
  offset_is = omega (arith, plan_length_lem s sheet_kept.ends, actions_length_lem s sheet_kept.ends)

  pub offset_small : rule_offset s ≤ longest
  offset_small = omega (arith, sheet_kept.ends, (kept_lengths s sheet_kept).1)

  -- field 0 of node 0 is the count; fields 1, 2 and 3 are kind, x and y
  module _ (n field : ℕ) (among : n < node_count (rule_body s)) (small : field ≤ 3) where
    in_rule : field + 3 * n < rule_length s
    in_rule = omega (arith, rule_length_lem s sheet_kept.ends, rule_kept.exact)

    pub rule_inside : rule_offset s + (field + 3 * n) < length s
    rule_inside = omega (arith, in_rule, sheet_kept.ends)

    pub rule_byte : byte s (rule_offset s + (field + 3 * n)) ≡ byte (rule_body s) (field + 3 * n)
    rule_byte = sym (slice_byte s (rule_offset s) (rule_length s) (field + 3 * n) in_rule)

  -- fields 4, 5 and 6 are origin, action and target
  module _ (i field : ℕ) (among : i < transition_count (plan_body s)) (small : field ≤ 6) where
    in_plan : field + 3 * i < plan_length s
    in_plan = omega (arith, plan_length_lem s sheet_kept.ends, plan_kept.exact)

    pub plan_inside : head_length + (field + 3 * i) < length s
    plan_inside = omega (arith, in_plan, sheet_kept.ends)

    pub plan_byte : byte s (head_length + (field + 3 * i)) ≡ byte (plan_body s) (field + 3 * i)
    plan_byte = sym (slice_byte s head_length (plan_length s) (field + 3 * i) in_plan)
