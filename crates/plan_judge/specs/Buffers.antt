-- The program's buffers: its table and its input, and that each is long enough for every sheet.
use Rattle.std.specs.Prelude.{ℕ, ◌+◌, ◌≤◌, ◌≡◌, Ok, Err, List, length, take}
use Rattle.sheet.specs.Contents.{longest}
use Rattle.text.specs.Placing.{Puts}
use Rattle.judge.specs.Clearing.{Cleared, cleared_of, table_cleared}
use Rattle.judge.specs.LargestTable.{largest_table}
use Rattle.judge.specs.Querying.{Queried, queried_of}
use Rattle.judge.specs.declared.QueryError.TheVariants.{Refused}
use Rattle.plan_judge.specs.Program.{program_of, program_line}

-- ---- the table

-- clearing's refusal is the answer, and no query is made
abbrev pub answer_after : Queried → Cleared → Queried
answer_after q (Ok tt) = q
answer_after q (Err r) = Err (Refused r)

-- "clears, queries state 0", with a buffer t
abbrev pub clear_then_query : List ℕ → List ℕ → Queried
clear_then_query s t = answer_after (queried_of s 0 (table_cleared s t)) (cleared_of s t)

-- on every buffer that is long enough for every sheet, whatever it holds, that is the program's answer
abbrev pub RoomForEverySheet : Type 0
RoomForEverySheet = (s t : List ℕ) → largest_table ≤ length t → clear_then_query s t ≡ program_of s

-- ---- the input

-- one byte more than "the longest sheet"
abbrev pub input_length : ℕ
input_length = longest + 1

-- a longer file that is cut there has the line of the whole file
abbrev pub CutChangesNothing : Type 0
CutChangesNothing = (file : List ℕ) → program_line (take input_length file) ≡ program_line file

-- the first n bytes of a buffer are those of a file: all of them, or as many as the buffer holds
abbrev pub HoldsStart : List ℕ → List ℕ → ℕ → Type 0
HoldsStart file buffer n = take n buffer ≡ take (length buffer) file

-- the line put is that of the file, whichever it is, whose start was read into the buffer
abbrev pub PutsLineOfFile : List ℕ → ℕ → ℕ → List ℕ → List ℕ → Type 0
PutsLineOfFile buffer n r before after = (file : List ℕ) → HoldsStart file buffer n → Puts (program_line file) r before after
