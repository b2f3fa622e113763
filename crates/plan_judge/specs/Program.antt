-- The program: "reads a sheet from standard input, clears, queries state 0 and prints one line". Its answer and its line, for every list
-- of bytes, and what they are by Table 1.
use Rattle.std.specs.Prelude.{ℕ, ◌≤◌, ◌≡◌, Bool, true, List, [], ◌∷◌, ◌⊎◌, ◌↔◌, replicate, Err, Ok}
use Rattle.sheet.specs.Contents.{plan_body}
use Rattle.sheet.specs.Reading.{sheet_check}
use Rattle.sheet.specs.declared.Refusal.{Refusal}
use Rattle.sheet.specs.declared.Refusal.TheVariants.{Loop}
use Rattle.calculus.specs.KeySheet.{K}
use Rattle.calculus.specs.Verdict.{Verdict}
use Rattle.graph.specs.Loops.{LoopReachable}
use Rattle.graph.specs.Successors.{successors}
use Rattle.judge.specs.Cells.{table_bytes}
use Rattle.judge.specs.Querying.{Queried, queried_of, reported_query}
use Rattle.judge.specs.QueryCorrect.{QueryCorrect}
use Rattle.judge.specs.declared.QueryError.TheVariants.{Refused}
use Rattle.plan_judge.specs.Line.{line_of}

-- "clears": the table of a sheet, just cleared, with no byte after it
abbrev pub cleared_table : List ℕ → List ℕ
cleared_table s = replicate (table_bytes s) 0

-- "queries state 0"; what clearing refuses (1 to 10) the query refuses alike
unfoldable pub program_of : List ℕ → Queried
program_of s = queried_of s 0 (cleared_table s)

-- "prints one line"
abbrev pub program_line : List ℕ → List ℕ
program_line s = line_of (program_of s)

-- the right answer to a sheet: for every list of bytes one of three cases, which exclude one another
pub data RightAnswer (s : List ℕ) : Queried → Type 0 where
  -- "clearing 1 to 10"
  unreadable : {x : Refusal} → sheet_check s ≡ Err x → RightAnswer s (Err (Refused x))
  -- document 02 (b): "12 exactly when a loop can be reached from the queried state"
  loops : sheet_check s ≡ Ok tt → LoopReachable (successors (plan_body s)) 0 → RightAnswer s (Err (Refused Loop))
  -- "Table 1's verdict at s is true exactly when s is in the meaning of the rule"; "fills exactly the needed cells that were empty .. and
  -- reports how many it filled as its visits"
  judged :
      {v : Bool} {n : ℕ} {left : List ℕ} → sheet_check s ≡ Ok tt → (LoopReachable (successors (plan_body s)) 0 → ⊥)
      → (v ≡ true) ↔ Verdict s 0
      → QueryCorrect s 0 (cleared_table s) (record { number = 0; place = 0; verdict = v; visits = n }) left
      → RightAnswer s (Ok (record { verdict = v; visits = n }))

-- the program is right about every list of bytes
abbrev pub ProgramCorrect : Type 0
ProgramCorrect = (s : List ℕ) → RightAnswer s (program_of s)

-- it gives 0, 1 to 10 or 12: never 11, 20, 21 or 35, since every plan has a state 0 and the table is long enough and just cleared
abbrev pub ProgramRefusals : Type 0
ProgramRefusals = (s : List ℕ) → ((reported_query (program_of s)).number ≤ 10) ⊎ ((reported_query (program_of s)).number ≡ 12)

-- "P1: K, .. state 0: true, 17 visits; the program prints `true 17`", and a line feed
abbrev pub KeyLine : Type 0
KeyLine = program_line K ≡ 116 ∷ 114 ∷ 117 ∷ 101 ∷ 32 ∷ 49 ∷ 55 ∷ 10 ∷ []
