-- The program's input: it is long enough for every sheet.
use Rattle.std.specs.Prelude.{ℕ, ◌+◌, ◌≡◌, List, length, take}
use Rattle.text.specs.Placing.{Puts}
use Rattle.sheet.specs.Contents.{longest}
use Rattle.closest_state.specs.Program.{program_text}

-- one byte more than "the longest sheet"
abbrev pub input_length : ℕ
input_length = longest + 1

-- a longer file that is cut there has the text of the whole file (`cut_changes_nothing` of proofs/Cutting.antt)
abbrev pub CutChangesNothing : Type 0
CutChangesNothing = (file : List ℕ) → program_text (take input_length file) ≡ program_text file

-- the first n bytes of a buffer are those of a file: all of them, or as many as the buffer holds
abbrev pub HoldsStart : List ℕ → List ℕ → ℕ → Type 0
HoldsStart file buffer n = take n buffer ≡ take (length buffer) file

-- the text put is that of the file, whichever it is, whose start was read into the buffer
abbrev pub PutsTextOfFile : List ℕ → ℕ → ℕ → List ℕ → List ℕ → Type 0
PutsTextOfFile buffer n r before after = (file : List ℕ) → HoldsStart file buffer n → Puts (program_text file) r before after
