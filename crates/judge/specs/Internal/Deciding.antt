-- What deciding a cell and following its transitions ask and promise.
use Rattle.std.specs.Prelude.{◌≡◌, ℕ, ◌<◌, ◌≤◌, true, List, length, ◌==◌, Ok}
use Rattle.sheet.specs.Bytes.{pick}
use Rattle.sheet.specs.Contents.{plan_body, actions_body, rule_body}
use Rattle.sheet.specs.Plan.{state_count, action_count}
use Rattle.sheet.specs.Rule.{node_count, node_kind, node_x, node_y}
use Rattle.sheet.specs.Reading.{sheet_check}
use Rattle.sheet.specs.TransitionSystem.{plan_of}
use Rattle.rows.specs.Rows.{Connective, disjunction, conjunction}
use Rattle.rows.specs.Tables.{Result, out}
use Rattle.rows.specs.Internal.Solver.{walk}
use Rattle.graph.specs.LoopTest.{settled}
use Rattle.graph.specs.Successors.{successors}
use Rattle.judge.specs.Cells.{Cell, MarkRight, following, cell_bytes}
use Rattle.judge.specs.Querying.{result_at}
use Rattle.judge.specs.declared.index.Index.{Index}
use Rattle.judge.specs.Internal.Index.{Prepared}
use Rattle.judge.specs.Internal.Packed.{verdict_in, visits_in, packed_bound, packed_limit}

-- a cell of an accepted sheet, at a state from which no loop can be reached, with what is prepared and a table that has all cells
pub record DecideRequires (s : List ℕ) (index : Index) (t : List ℕ) (c : Cell) : Type 0 where
  pub accepted : sheet_check s ≡ Ok tt
  pub prepared : Prepared s index c.state
  pub room : cell_bytes s ≤ length t
  pub node_below : c.node < node_count (rule_body s)
  pub state_below : c.state < state_count (plan_body s)
  pub state_settled : settled (successors (plan_body s)) (state_count (plan_body s)) c.state ≡ true
  pub mark_right : MarkRight (rule_body s) c.mark c.node

-- a "some" or "every" node at such a state
pub record FollowRequires (s : List ℕ) (index : Index) (t : List ℕ) (n state : ℕ) : Type 0 where
  pub accepted : sheet_check s ≡ Ok tt
  pub prepared : Prepared s index state
  pub room : cell_bytes s ≤ length t
  pub node_below : n < node_count (rule_body s)
  pub state_below : state < state_count (plan_body s)
  pub state_settled : settled (successors (plan_body s)) (state_count (plan_body s)) state ≡ true
  pub modal_low : 4 ≤ node_kind (rule_body s) n
  pub modal_high : node_kind (rule_body s) n < 6

-- w and the table u are what the query of cell c on the table t gives
pub record Decided (s : List ℕ) (c : Cell) (t : List ℕ) (w : ℕ) (u : List ℕ) : Type 0 where
  pub result : out (verdict_in w) (visits_in w) u ≡ result_at s c t
  pub small : w < packed_bound

-- The connective of a node and the cells that its transitions lead to; of a "some" or an "every".
abbrev pub connective_of : ℕ → Connective
connective_of k = pick (k == 4) disjunction conjunction

-- what a walk over the cells that follow from a node at a state gives, each decided with the table so far
abbrev pub walk_at : List ℕ → ℕ → ℕ → List ℕ → Result
walk_at s n state t =
    walk (λ d u. result_at s d u) (connective_of (node_kind (rule_body s) n))
    (following (action_count (plan_body s)) (actions_body s) (node_x (rule_body s) n) (node_y (rule_body s) n) state
    (plan_of (plan_body s)).transitions) t

pub record Followed (s : List ℕ) (n state : ℕ) (t : List ℕ) (w : ℕ) (u : List ℕ) : Type 0 where
  pub result : out (verdict_in w) (visits_in w) u ≡ walk_at s n state t
  pub small : w < packed_limit
