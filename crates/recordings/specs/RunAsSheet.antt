-- "A run is judged as a plan that is one chain": that plan in the bytes of a sheet, with the actions and the rule of the sheet s. It is
-- accepted, and Table 1's verdict of it at state 0 is that of the rule on the run. Shown by run_as_sheet of
-- proofs/Statements/RunAsSheet.antt.
use Rattle.std.specs.Prelude.{ℕ, suc, ◌≡◌, List, [], ◌∷◌, ◌↔◌, length, Ok}
use Rattle.sheet.specs.Contents.{plan_body, actions_body, rule_body}
use Rattle.sheet.specs.Plan.{action_count}
use Rattle.sheet.specs.Reading.{sheet_check}
use Rattle.sheet.specs.TransitionSystem.{plan_of}
use Rattle.sheet.specs.WellFormed.{WellFormedSheet}
use Rattle.sheet.specs.Writing.{two_bytes, sheet_of}
use Rattle.calculus.specs.Verdict.{Verdict}
use Rattle.graph.specs.Loops.{LoopReachable}
use Rattle.graph.specs.Successors.{successors}
use Rattle.recordings.specs.Runs.{chain, HoldsOn, WellFormedRun}

-- document 01: "transitions of three bytes: from, action, to"; the first of them from state i
unfoldable pub chain_bytes : ℕ → List ℕ → List ℕ
chain_bytes i [] = []
chain_bytes i (action ∷ run) = i ∷ action ∷ suc i ∷ chain_bytes (suc i) run

-- S, A, T and the transitions
abbrev pub chain_body : ℕ → List ℕ → List ℕ
chain_body A run = suc (length run) ∷ A ∷ two_bytes (length run) (chain_bytes 0 run)

-- the sheet with this plan in place of its own
unfoldable pub chain_sheet : List ℕ → List ℕ → List ℕ
chain_sheet s run = sheet_of (chain_body (action_count (plan_body s)) run) (actions_body s) (rule_body s)

-- the sheet of the chain: accepted, without loops, and judged as the run is
pub record JudgedAsSheet (s run : List ℕ) : Type 0 where
  pub passed : sheet_check (chain_sheet s run) ≡ Ok tt
  pub plan_is : plan_of (plan_body (chain_sheet s run)) ≡ chain (action_count (plan_body s)) run
  pub actions_body_same : actions_body (chain_sheet s run) ≡ actions_body s
  pub rule_body_same : rule_body (chain_sheet s run) ≡ rule_body s
  -- so no query of it is refused with 12
  pub no_loop : (state : ℕ) → LoopReachable (successors (plan_body (chain_sheet s run))) state → ⊥
  pub verdict : Verdict (chain_sheet s run) 0 ↔ HoldsOn s run

-- of every accepted sheet, whose own plan may loop, and every run that is not refused
abbrev pub RunAsSheet : Type 0
RunAsSheet = (s : List ℕ) → WellFormedSheet s → (run : List ℕ) → WellFormedRun s run → JudgedAsSheet s run
