-- What each step of preparing a query or an audit leaves in the index, but for the search (crate graph).
use Rattle.std.specs.Prelude.{◌≡◌, ℕ, ◌<◌, ◌≤◌, Bool, true, false, List, slice_index, get_or, Ok}
use Rattle.sheet.specs.Contents.{plan_body, rule_body, rule_offset}
use Rattle.sheet.specs.Plan.{state_count, action_count}
use Rattle.sheet.specs.Rule.{node_count, binder_count, binder_node, subtree_end}
use Rattle.sheet.specs.Reading.{sheet_check}
use Rattle.calculus.specs.MeetingMask.{meeting_mask}
use Rattle.graph.specs.Index.{Sized}
use Rattle.graph.specs.Explored.{StartsFrom}
use Rattle.graph.specs.LoopTest.{loop_free}
use Rattle.judge.specs.Cells.{marks}
use Rattle.judge.specs.Internal.Index.{Prepared}
use Rattle.judge.specs.declared.index.Index.{Index}

pub record BindersAsked (r : List ℕ) : Type 0 where
  pub few_nodes : node_count r ≤ 64
  pub few_binders : binder_count r ≤ 6

pub record Binders (r binders : List ℕ) : Type 0 where
  pub filled : (k : ℕ) → k < binder_count r → slice_index binders k ≡ binder_node r k

-- a rule, and the binders' nodes
pub record EndsAsked (r binders : List ℕ) : Type 0 where
  pub few_binders : binder_count r ≤ 6
  pub binders_are : Binders r binders
  pub ends_small : (k : ℕ) → k < binder_count r → subtree_end r (binder_node r k) ≤ 64

pub record Ends (r ends : List ℕ) : Type 0 where
  pub filled : (k : ℕ) → k < binder_count r → slice_index ends k ≡ subtree_end r (binder_node r k)

-- what the index says of the rule: where it lies, how many nodes and marks there are, and the binders' nodes; and that there is room for
-- what a search says of the plan
pub record Headed (s : List ℕ) (index : Index) : Type 0 where
  pub size : Sized index.plan
  pub offset_is : index.rule_at ≡ rule_offset s
  pub nodes_are : index.nodes ≡ node_count (rule_body s)
  pub marks_are : index.marks ≡ marks (rule_body s)
  pub binders_are : Binders (rule_body s) index.binders

-- a mask for each noted action
pub record Masks (p a : List ℕ) (noted : List Bool) (masks : List ℕ) : Type 0 where
  pub filled :
      (action : ℕ) → action < action_count p → get_or noted action false ≡ true
      → slice_index masks action ≡ meeting_mask (action_count p) a action

-- ---- for an audit

-- the same, and of each binder where its subtree ends
pub record RuleTold (s : List ℕ) (index : Index) : Type 0 where
  pub headed : Headed s index
  pub ends_are : Ends (rule_body s) index.ends

pub record StatesAsked (s : List ℕ) (index : Index) (starts : List ℕ) : Type 0 where
  pub accepted : sheet_check s ≡ Ok tt
  pub rule_told : RuleTold s index
  pub starts_below : (u : ℕ) → StartsFrom starts u → u < state_count (plan_body s)

-- a loop can be reached from one of the states, or the index tells what the rows at each of them are read with
pub data StatesTold (s starts : List ℕ) (index : Index) (free : Bool) : Type 0 where
  looped : free ≡ false → (u : ℕ) → StartsFrom starts u → loop_free (plan_body s) u ≡ false → StatesTold s starts index free
  told :
      free ≡ true → RuleTold s index → ((u : ℕ) → StartsFrom starts u → (loop_free (plan_body s) u ≡ true) × Prepared s index u)
      → StatesTold s starts index free
