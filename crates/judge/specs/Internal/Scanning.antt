-- What a pass over cells tells.
use Rattle.std.specs.Prelude.{ℕ, List, length, Result, Ok, Err}
use Rattle.sheet.specs.Bytes.{pick}
use Rattle.sheet.specs.declared.Refusal.{Refusal}
use Rattle.sheet.specs.declared.Refusal.TheVariants.{TableByte}
use Rattle.rows.specs.Tables.{byte_at, filled, count}
use Rattle.judge.specs.Querying.{bytes_right}

-- of a list of cells: how many are filled, or that a byte is over 2
unfoldable pub scan_of : List ℕ → Result ℕ Refusal
scan_of l = pick (bytes_right (length l) l) (Ok (count (length l) (λ i. filled (byte_at l i)))) (Err TableByte)
