-- What a query of the sheet of a chain tells. Contracts of private functions cite it; no promise of a public call does.
use Rattle.std.specs.Prelude.{ℕ, Bool, not, List, replicate, leb}
use Rattle.sheet.specs.Bytes.{pick}
use Rattle.judge.specs.LargestTable.{largest_table}
use Rattle.judge.specs.Querying.{query_report_of}

-- a query of state 0 on the table t gives the verdict false, as a refused one does too
abbrev pub false_on : List ℕ → List ℕ → Bool
false_on s t = not (query_report_of s 0 t).verdict

-- on a table of so many zeros
abbrev pub false_on_zeros : List ℕ → ℕ → Bool
false_on_zeros s size = false_on s (replicate size 0)

-- tables are made in three sizes, so that a small one is quickly made
abbrev pub small_table : ℕ
small_table = 2048

abbrev pub middle_table : ℕ
middle_table = 8192

-- the size made where so many bytes are needed
abbrev pub table_room : ℕ → ℕ
table_room size = pick (leb size small_table) small_table (pick (leb size middle_table) middle_table largest_table)
