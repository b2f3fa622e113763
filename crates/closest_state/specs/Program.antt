-- The program: it reads a sheet from standard input, clears a table, looks for the closest state that breaks the rule, and prints the text
-- of the answer. Its answer and its text for every list of bytes.
use Rattle.std.specs.Prelude.{ℕ, ◌≤◌, ◌≡◌, List, length, replicate, Ok, Err}
use Rattle.text.specs.RefusalLine.{refusal_line}
use Rattle.sheet.specs.Reading.{sheet_check}
use Rattle.sheet.specs.Refusals.{number_of, place_of}
use Rattle.sheet.specs.declared.Refusal.{Refusal}
use Rattle.judge.specs.Clearing.{Cleared, cleared_of, table_cleared}
use Rattle.judge.specs.LargestTable.{largest_table}
use Rattle.judge.specs.declared.QueryError.TheVariants.{Refused}
use Rattle.closest.specs.Finding.{ClosestAnswer, closest_of}
use Rattle.closest_state.specs.Text.{text_of, text_length}

-- the program's table: room for that of every sheet
unfoldable pub own_table : List ℕ
own_table = replicate largest_table 0

-- clearing's refusal is the answer, and nothing is looked for
abbrev pub answer_after : ClosestAnswer → Cleared → ClosestAnswer
answer_after r (Ok tt) = r
answer_after r (Err x) = Err (Refused x)

-- what the program finds
unfoldable pub program_of : List ℕ → ClosestAnswer
program_of s = answer_after (closest_of s (table_cleared s own_table)) (cleared_of s own_table)

-- what it prints
unfoldable pub program_text : List ℕ → List ℕ
program_text s = text_of s (program_of s)

-- a sheet that the reader turns down has the line of that refusal (`text_refuses` of proofs/Texts.antt)
abbrev pub RefusedAlike : Type 0
RefusedAlike = (s : List ℕ) (x : Refusal) → sheet_check s ≡ Err x → program_text s ≡ refusal_line (number_of x) (place_of x)

-- no text is longer than the program's buffer (`every_text_fits` of proofs/Texts.antt)
abbrev pub EveryTextFits : Type 0
EveryTextFits = (s : List ℕ) → length (program_text s) ≤ text_length
