-- What the sizes of a table stay below, and the count of a table that a query takes.
use Rattle.std.specs.Prelude.{ℕ, List, length, ◌==◌, nat_le, Result, Ok, Err}
use Rattle.sheet.specs.Bytes.{pick}
use Rattle.sheet.specs.declared.Refusal.TheVariants.{TableShort, TableByte}
use Rattle.rows.specs.Tables.{byte_at, filled, count}
use Rattle.judge.specs.Cells.{table_bytes_for}
use Rattle.judge.specs.StoredCount.{number_at}
use Rattle.judge.specs.Querying.{bytes_right}
use Rattle.judge.specs.declared.QueryError.{QueryError}
use Rattle.judge.specs.declared.QueryError.TheVariants.{WrongCount, Refused}

-- no product of three bytes is larger
abbrev pub product_bound : ℕ
product_bound = 16777216

-- the count of a table with so many bytes of cells, or why a query does not take the table: 20, 21, then 35
unfoldable pub right_count : ℕ → List ℕ → Result ℕ QueryError
right_count cells t =
    pick (nat_le (table_bytes_for cells) (length t))
    (pick (bytes_right cells t)
    (pick (number_at t cells == count cells (λ i. filled (byte_at t i))) (Ok (number_at t cells)) (Err WrongCount))
    (Err (Refused TableByte))) (Err (Refused TableShort))
