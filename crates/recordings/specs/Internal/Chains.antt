-- How the sheet of a chain is put together. Contracts of private functions cite it; no promise of a public call does.
use Rattle.std.specs.Prelude.{ℕ, suc, ◌+◌, ◌*◌, ◌≡◌, List, [], ◌∷◌, Ok}
use Rattle.sheet.specs.Contents.{head_length}
use Rattle.sheet.specs.Reading.{sheet_check}
use Rattle.sheet.specs.Writing.{two_bytes}
use Rattle.recordings.specs.Runs.{most_actions, WellFormedRun}
use Rattle.recordings.specs.RunAsSheet.{chain_bytes}

-- bytes of the transitions of the longest run, three each
abbrev pub chain_room : ℕ
chain_room = 3 * most_actions

-- bytes of the longest sheet of a chain: 17 of contents, a plan of 4 and the transitions, 97 of actions, 193 of rule
abbrev pub chain_sheet_room : ℕ
chain_sheet_room = head_length + 4 + chain_room + 97 + 193

-- the four bytes that the plan of a chain begins with: S, A and T, of n actions
abbrev pub chain_head : ℕ → ℕ → List ℕ
chain_head A n = suc n ∷ A ∷ two_bytes n []

-- an accepted sheet, and a run that is not refused, with the bytes of its transitions
pub record Judgeable (s run bytes : List ℕ) : Type 0 where
  pub passed : sheet_check s ≡ Ok tt
  pub kept : WellFormedRun s run
  pub bytes_are : bytes ≡ chain_bytes 0 run
