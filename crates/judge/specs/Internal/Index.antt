-- What the index that is prepared for a query or an audit holds.
use Rattle.std.specs.Prelude.{◌≡◌, ℕ, ◌+◌, ◌<◌, ◌≤◌, true, List, slice_index, slice_index_or, Ok}
use Rattle.sheet.specs.Contents.{plan_body, actions_body, rule_body, rule_offset}
use Rattle.sheet.specs.Plan.{state_count, action_count, transition_count, label}
use Rattle.sheet.specs.Rule.{node_count, binder_count, binder_node}
use Rattle.sheet.specs.Reading.{sheet_check}
use Rattle.calculus.specs.MeetingMask.{meeting_mask}
use Rattle.graph.specs.Loops.{Reachable}
use Rattle.graph.specs.LoopTest.{loop_free}
use Rattle.graph.specs.Successors.{successors}
use Rattle.graph.specs.Explored.{first_from}
use Rattle.judge.specs.Cells.{marks}
use Rattle.judge.specs.declared.index.Index.{Index}

-- what the index says of a state: where its transitions begin and end, and which formulas each of their actions meets
pub record PreparedState (s : List ℕ) (index : Index) (u : ℕ) : Type 0 where
  pub begins : slice_index_or index.plan.firsts u 0 ≡ first_from (plan_body s) u
  pub ends : slice_index_or index.plan.firsts (u + 1) 0 ≡ first_from (plan_body s) (u + 1)
  pub masks_are :
      (i : ℕ) → first_from (plan_body s) u ≤ i → i < first_from (plan_body s) (u + 1)
      → slice_index index.masks (label (plan_body s) i) ≡ meeting_mask (action_count (plan_body s)) (actions_body s) (label (plan_body s) i)

-- Numbers worked out once for a query of a state: where the rule lies, how many nodes and marks there are, the binders' nodes, and what is
-- said above of each state that can be reached.
pub record Prepared (s : List ℕ) (index : Index) (state : ℕ) : Type 0 where
  pub offset_is : index.rule_at ≡ rule_offset s
  pub nodes_are : index.nodes ≡ node_count (rule_body s)
  pub marks_are : index.marks ≡ marks (rule_body s)
  pub binders_are : (k : ℕ) → k < binder_count (rule_body s) → slice_index index.binders k ≡ binder_node (rule_body s) k
  pub states_are : (u : ℕ) → Reachable (successors (plan_body s)) state u → PreparedState s index u

-- a state of an accepted sheet from which no loop can be reached, with what is prepared for its query
pub record QueryRequires (s : List ℕ) (index : Index) (state : ℕ) : Type 0 where
  pub accepted : sheet_check s ≡ Ok tt
  pub state_below : state < state_count (plan_body s)
  pub loop_free_holds : loop_free (plan_body s) state ≡ true
  pub prepared : Prepared s index state

-- an accepted sheet, and an index that says how many nodes and marks it has
pub record HeadRight (s : List ℕ) (index : Index) : Type 0 where
  pub accepted : sheet_check s ≡ Ok tt
  pub nodes_are : index.nodes ≡ node_count (rule_body s)
  pub marks_are : index.marks ≡ marks (rule_body s)

-- a node of an accepted sheet, and where its rule lies
pub record NodeAt (s : List ℕ) (index : Index) (n : ℕ) : Type 0 where
  pub accepted : sheet_check s ≡ Ok tt
  pub offset_is : index.rule_at ≡ rule_offset s
  pub node_below : n < node_count (rule_body s)

-- a transition of an accepted sheet
pub record TransitionAt (s : List ℕ) (i : ℕ) : Type 0 where
  pub accepted : sheet_check s ≡ Ok tt
  pub among : i < transition_count (plan_body s)
