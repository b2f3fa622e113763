-- The largest table: a buffer that is long enough for the table of every accepted sheet.
use Rattle.std.specs.Prelude.{◌≡◌, ℕ, ◌+◌, ◌*◌, ◌≤◌, List, Ok}
use Rattle.sheet.specs.Reading.{sheet_check}
use Rattle.graph.specs.Search.{most_states}
use Rattle.judge.specs.Cells.{cell_bytes, table_bytes_for, table_bytes}

-- "Count N (1 byte, 1 to 64)"
abbrev pub most_nodes : ℕ
most_nodes = 64

-- "B, their number, is at most 6."
abbrev pub most_binders : ℕ
most_binders = 6

-- "S × N × (B + 1)" of the largest sheets
abbrev pub most_cells : ℕ
most_cells = most_states * most_nodes * (most_binders + 1)

-- these cells, and the count after them
abbrev pub largest_table : ℕ
largest_table = table_bytes_for most_cells

-- no accepted sheet has more cells, nor a longer table (`every_table_fits` of proofs/Statements/LargestTable.antt)
abbrev pub EveryTableFits : Type 0
EveryTableFits = (s : List ℕ) → sheet_check s ≡ Ok tt → (cell_bytes s ≤ most_cells) × (table_bytes s ≤ largest_table)
