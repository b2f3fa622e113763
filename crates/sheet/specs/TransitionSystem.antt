-- Document 01, "Kind 1, plan", as what the meaning of a rule speaks of: a labelled transition system, with states, actions and transitions
-- between states, each by an action. Document 000's initial state is left out, and "States that nothing leads to are allowed".
use Rattle.std.specs.Prelude.{ℕ, zero, suc, ◌<◌, Bool}
use mathlib.Core.List.{List, [], ◌∷◌, Memᴰ}
use Rattle.sheet.specs.Plan.{state_count, action_count, transition_count, origin, label, target, before}
use Rattle.sheet.specs.WellFormed.{WellFormedPlan}

-- "from, action, to"
pub record LabelledTransition : Type 0 where
  pub origin : ℕ
  pub action : ℕ
  pub target : ℕ

-- t comes before u "by (from, action, to)"
abbrev pub precedes : LabelledTransition → LabelledTransition → Bool
precedes t u = before t.origin t.action t.target u.origin u.action u.target

-- S, A and the transitions, in plan order
pub record Plan : Type 0 where
  pub states : ℕ
  pub actions : ℕ
  pub transitions : List LabelledTransition

-- "States are 0 to S - 1, actions 0 to A - 1": each transition stays among them.
pub record TransitionsInRange (P : Plan) : Type 0 where
  pub origin_below : (t : LabelledTransition) → Memᴰ t P.transitions → t.origin < P.states
  pub action_below : (t : LabelledTransition) → Memᴰ t P.transitions → t.action < P.actions
  pub target_below : (t : LabelledTransition) → Memᴰ t P.transitions → t.target < P.states

-- ---- the plan of a body: S, A, "then T transitions of three bytes: from, action, to"

-- transition i
abbrev pub transition_of : List ℕ → ℕ → LabelledTransition
transition_of p i = record { origin = origin p i; action = label p i; target = target p i }

-- count transitions from number i on, in plan order
unfoldable pub transitions_from : List ℕ → ℕ → ℕ → List LabelledTransition
transitions_from p zero i = []
transitions_from p (suc count) i = transition_of p i ∷ transitions_from p count (suc i)

-- the plan of a plan body
abbrev pub plan_of : List ℕ → Plan
plan_of p = record { states = state_count p; actions = action_count p; transitions = transitions_from p (transition_count p) 0 }

-- The transitions of a plan body that keeps its rules are in range. Shown by plan_in_range of proofs/TransitionSystem.antt.
abbrev pub PlanInRange : Type 0
PlanInRange = (p : List ℕ) → WellFormedPlan p → TransitionsInRange (plan_of p)
