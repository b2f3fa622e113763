-- The program is right about every list of bytes, by Table 1. Shown by program_correct and program_refusals of proofs/Correct.antt.
use Rattle.std.specs.Prelude.{ℕ, ◌≤◌, ◌≡◌, List, ◌⊎◌, length, None, Some, Ok, Err}
use Rattle.sheet.specs.Contents.{plan_body}
use Rattle.sheet.specs.Reading.{sheet_check}
use Rattle.sheet.specs.declared.Refusal.{Refusal}
use Rattle.sheet.specs.declared.Refusal.TheVariants.{Loop}
use Rattle.sheet.specs.declared.State.{State}
use Rattle.graph.specs.Loops.{Reachable, LoopReachable}
use Rattle.graph.specs.Successors.{successors}
use Rattle.calculus.specs.Verdict.{Verdict}
use Rattle.judge.specs.Clearing.{table_cleared}
use Rattle.judge.specs.declared.QueryError.TheVariants.{Refused}
use Rattle.closest.specs.Finding.{ClosestAnswer, reported_closest}
use Rattle.closest.specs.ClosestCorrect.{ClosestCorrect}
use Rattle.closest.specs.Steps.{Steps, Earlier}
use Rattle.closest.specs.TraceCorrect.{Leads}
use Rattle.closest.specs.Tracing.{way_to}
use Rattle.closest_state.specs.Program.{own_table, program_of}

-- an accepted sheet, and no loop can be reached from state 0
pub record Judgeable (s : List ℕ) : Type 0 where
  pub accepted : sheet_check s ≡ Ok tt
  pub no_loop : LoopReachable (successors (plan_body s)) 0 → ⊥

-- "holds everywhere", with the visits
abbrev pub holds_after : ℕ → ClosestAnswer
holds_after visits = Ok (record { first = None; visits = visits })

-- the state where the rule fails, its steps and the visits
abbrev pub fails_after : State → ℕ → ℕ → ClosestAnswer
fails_after state n visits = Ok (record { first = Some (record { state = state; steps = n }); visits = visits })

-- the right answer to a sheet: for every list of bytes one of four cases, which exclude one another
pub data RightAnswer (s : List ℕ) : ClosestAnswer → Type 0 where
  -- document 01: "clearing 1 to 10"
  unreadable : {x : Refusal} → sheet_check s ≡ Err x → RightAnswer s (Err (Refused x))
  -- "Refusals go as for a query of state 0", and document 02 (b): "12 exactly when a loop can be reached from the queried state"
  loops : sheet_check s ≡ Ok tt → LoopReachable (successors (plan_body s)) 0 → RightAnswer s (Err (Refused Loop))
  -- ""holds everywhere" comes exactly when no reachable state breaks it"; the visits are those of the search
  holds_everywhere :
      {visits : ℕ} {left : List ℕ} → Judgeable s → ((t : ℕ) → Reachable (successors (plan_body s)) 0 t → Verdict s t)
      → ClosestCorrect s (table_cleared s own_table) (reported_closest (holds_after visits)) left → RightAnswer s (holds_after visits)
  -- "the state where the rule fails with the fewest steps from state 0, the lowest number between equals, and that step count"; the way
  -- whose lines follow leads there in that many transitions, and the visits are those of the search
  fails_first :
      {state : State} {n visits : ℕ} {left : List ℕ} → Judgeable s → Steps (plan_body s) state.0 n → (Verdict s state.0 → ⊥)
      → ((t m : ℕ) → Steps (plan_body s) t m → Earlier m t n state.0 → Verdict s t)
      → Leads (plan_body s) 0 (way_to (plan_body s) n state.0) state.0
      → length (way_to (plan_body s) n state.0) ≡ n
      → ClosestCorrect s (table_cleared s own_table) (reported_closest (fails_after state n visits)) left
      → RightAnswer s (fails_after state n visits)

-- the program is right about every list of bytes
abbrev pub ProgramCorrect : Type 0
ProgramCorrect = (s : List ℕ) → RightAnswer s (program_of s)

-- it gives 0, 1 to 10 or 12: never 11, 20, 21 or 35, since every plan has a state 0 and the table is long enough and just cleared
abbrev pub ProgramRefusals : Type 0
ProgramRefusals = (s : List ℕ) → ((reported_closest (program_of s)).number ≤ 10) ⊎ ((reported_closest (program_of s)).number ≡ 12)
