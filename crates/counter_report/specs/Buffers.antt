-- What is read of a file, and what is put for it.
use Rattle.std.specs.Prelude.{ℕ, ◌≤◌, ◌≡◌, List, take}
use Rattle.text.specs.Placing.{Puts}
use Rattle.counter_report.specs.Input.{bytes_needed}
use Rattle.counter_report.specs.Program.{program_text}

-- a longer file that is cut there has the text of the whole file
abbrev pub CutChangesNothing : Type 0
CutChangesNothing = (file : List ℕ) → program_text (take (bytes_needed file) file) ≡ program_text file

-- n bytes are said to have been read into a buffer: at most as many as are needed, by what was read
abbrev pub NoFurther : ℕ → List ℕ → Type 0
NoFurther n buffer = n ≤ bytes_needed (take n buffer)

-- the first n bytes of a buffer are those of a file: all of them, or as many as are needed
abbrev pub HoldsStart : List ℕ → List ℕ → ℕ → Type 0
HoldsStart file buffer n = take n buffer ≡ take (bytes_needed file) file

-- the text put is that of the file, whichever it is, whose start was read into the buffer
abbrev pub PutsTextOfFile : List ℕ → ℕ → ℕ → List ℕ → List ℕ → Type 0
PutsTextOfFile buffer n r before after = (file : List ℕ) → HoldsStart file buffer n → Puts (program_text file) r before after
