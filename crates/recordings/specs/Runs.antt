-- Document 02 (j), "The shorter of two bad runs": "two recorded runs of a machine, each a list of action bytes". A run is a finite trace:
-- the actions in the order in which the machine took them. A recording is a run as it was recorded.
use Rattle.std.specs.Prelude.{ℕ, suc, ◌<◌, ◌≤◌, ◌≡◌, length}
use mathlib.Core.List.{List, [], ◌∷◌, ◌++◌, Memᴰ}
use Rattle.sheet.specs.Contents.{plan_body, actions_body, rule_body}
use Rattle.sheet.specs.Plan.{action_count}
use Rattle.sheet.specs.TransitionSystem.{LabelledTransition, Plan}
use Rattle.calculus.specs.Decode.{formula}
use Rattle.calculus.specs.Meaning.{Holds}
use Rattle.calculus.specs.Verdict.{empty_context}

-- ---- the rule on a run

-- "one chain": each action leads from a state to the next, the first of them from state i
unfoldable pub chain_from : ℕ → List ℕ → List LabelledTransition
chain_from i [] = []
chain_from i (action ∷ run) = record { origin = i; action = action; target = suc i } ∷ chain_from (suc i) run

-- "A run is judged as a plan that is one chain" (a linear labelled transition system): one state more than the run has actions; A of the
-- sheet
abbrev pub chain : ℕ → List ℕ → Plan
chain A run = record { states = suc (length run); actions = A; transitions = chain_from 0 run }

-- "at its first state": by Table 1 the rule of the sheet s holds on the run. The sheet's own plan gives A and nothing else, so it "may loop
-- here".
unfoldable pub HoldsOn : List ℕ → List ℕ → Type 0
HoldsOn s run = Holds (chain (action_count (plan_body s)) run) (formula (actions_body s) (rule_body s) 0) empty_context 0

-- "beginning": a prefix; more actions, or none, follow it in the run. "The empty beginning counts.", and so does the whole run.
abbrev pub Beginning : List ℕ → List ℕ → Type 0
Beginning b run = (rest : List ℕ) × (run ≡ b ++ rest)

-- ---- the runs that are judged

-- the most actions of a run: "It refuses a run over 127 actions with 42"
abbrev pub most_actions : ℕ
most_actions = 127

-- "action bytes", each below A of the sheet s: none is "an action not below A"
abbrev pub ActionsBelow : List ℕ → List ℕ → Type 0
ActionsBelow s run = (action : ℕ) → Memᴰ action run → action < action_count (plan_body s)

-- a run that neither 42 nor 43 refuses
pub record WellFormedRun (s run : List ℕ) : Type 0 where
  pub short : length run ≤ most_actions
  pub below : ActionsBelow s run
