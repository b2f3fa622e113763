-- A buffer with a part anew. Contracts of private functions cite it; no promise of a public call does.
use Rattle.std.specs.Prelude.{ℕ, ◌+◌, List, ◌++◌, take, drop}
use Rattle.sheet.specs.Bytes.{slice}
use Rattle.judge.specs.Querying.{table_queried}

-- the buffer t with these bytes in place of the size bytes from a place on
abbrev pub with_part : List ℕ → ℕ → ℕ → List ℕ → List ℕ
with_part t at size bytes = take at t ++ (bytes ++ drop (at + size) t)

-- the buffer t after a query in that part
abbrev pub queried_in : List ℕ → ℕ → List ℕ → ℕ → ℕ → List ℕ
queried_in s state t at size = with_part t at size (table_queried s state (slice t at size))
