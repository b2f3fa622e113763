-- What the pass over a line finds out and makes. Contracts of private functions cite these; no promise of a public call does.
use Rattle.std.specs.Prelude.{ℕ, ◌≤◌, ◌≡◌, true, List}
use Rattle.action_line.specs.Reading.{readable_tokens}
use Rattle.action_line.specs.Parsing.{Parsed}
use Rattle.action_line.specs.Internal.Lexemes.{tokens_held}
use Rattle.action_line.specs.Entries.{word_total}
use Rattle.action_line.specs.Internal.Checking.{outline_of}
use Rattle.action_line.specs.Internal.Building.{built_in}

-- how many entries the line has
abbrev pub total_of : List ℕ → ℕ
total_of line = word_total (tokens_held line)

pub record PassedOver (A : ℕ) (line made : List ℕ) (r : Parsed) (made' : List ℕ) : Type 0 where
  pub found : r ≡ outline_of A (tokens_held line)
  -- the entries of a readable line, if they are not too many
  pub built : readable_tokens (tokens_held line) ≡ true → total_of line ≤ 32 → made' ≡ (built_in line made).bytes
