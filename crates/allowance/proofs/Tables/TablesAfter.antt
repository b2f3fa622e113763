-- The buffer after a call that refused no bench: each bench's table in its place, and the bytes after the tables as they were.
use Prim.Native.Nat.{ℕ, ◌+◌, ◌-◌, ◌*◌, ◌<◌, ◌≤◌}
use mathlib.Core.Path.{◌≡◌, refl, sym, ap, ◌∙◌}
use mathlib.Core.Bool.{Bool, true, false}
use mathlib.Core.List.{List}
use native.Mathlib.Omega.{arith}
use lib.ListN.{length, drop, length-drop}
use lib.Seq.{get_or-drop}
use Rattle.sheet.specs.Bytes.{byte, pick}
use Rattle.rows.specs.Tables.{byte_at}
use Rattle.judge.specs.Cells.{table_bytes}
use Rattle.judge.specs.Querying.{table_queried}
use Rattle.judge.proofs.Statements.QueryCorrect.{queries_correct}
use Rattle.allowance.specs.Granting.{bench_table, bench_queried, is_short, table_of, tables_granted}
use Rattle.allowance.specs.Internal.Benches.{ReportsZeroBelow}
use Rattle.allowance.proofs.Tables.EndToEnd.{Sized, end_length, end_drop, end_slice}
use Rattle.allowance.proofs.Tables.Outcomes.{table_length, short_table, bench_numbers}

module _ (s states t : List ℕ) (none : ReportsZeroBelow s states t (length states)) where
  table_long : (i : ℕ) → i < length states → table_bytes s ≤ length (bench_table s t i)
  table_long i h = ((bench_numbers s states t i).none.0 (none i h)).0.there.long

  table_whole : (i : ℕ) → i < length states → length (bench_table s t i) ≡ table_bytes s
  table_whole i h = omega (arith, table_length s t i, table_long i h)

  pub in_buffer : (i : ℕ) → i < length states → (i + 1) * table_bytes s ≤ length t
  in_buffer i h =
      let enough : length t < (i + 1) * table_bytes s → ⊥ = λ z. omega (arith, (short_table s t i).1 z, table_long i h) in
      omega (arith, enough)

  pub tables_fit : 0 < length states → length states * table_bytes s ≤ length t
  tables_fit h =
      let last = length states - 1 in
      let e : last + 1 ≡ length states = omega arith in
      omega (arith, ap (λ (n : ℕ). n * table_bytes s) e, in_buffer last (omega arith))

  module _ (grants : List ℕ) where
    table_kept : (i : ℕ) → i < length states → length (table_of s states t grants i) ≡ table_bytes s
    table_kept i h = go (is_short s states t grants i)
      where
        go : (short : Bool) → length (pick short (bench_table s t i) (table_queried s (byte states i) (bench_table s t i))) ≡ table_bytes s
        go true = table_whole i h
        go false =
            (queries_correct.judged s (byte states i) (bench_table s t i) (bench_queried s states t i)
            (table_queried s (byte states i) (bench_table s t i)) (refl, (refl, refl)) (none i h)).length_kept
            ∙ table_whole i h

    tables_sized : Sized (table_of s states t grants) (table_bytes s) (length states) 0
    tables_sized j l h = table_kept j (omega arith)

    abbrev buffer : List ℕ
    buffer = tables_granted s states t grants

    abbrev tables_end : ℕ
    tables_end = length states * table_bytes s

    pub table_after_lem : (i : ℕ) → i < length states → bench_table s buffer i ≡ table_of s states t grants i
    unfolding tables_granted
    table_after_lem i h =
        let e : 0 + i ≡ i = omega arith in
        end_slice (table_of s states t grants) (table_bytes s) (drop tables_end t) (length states) 0 i tables_sized h
        ∙ ap (table_of s states t grants) e

    buffer_past : drop tables_end buffer ≡ drop tables_end t
    unfolding tables_granted
    buffer_past = end_drop (table_of s states t grants) (table_bytes s) (drop tables_end t) (length states) 0 tables_sized

    pub bytes_past : (p : ℕ) → tables_end ≤ p → byte_at buffer p ≡ byte_at t p
    bytes_past p h =
        let e : tables_end + (p - tables_end) ≡ p = omega arith in
        sym (ap (byte_at buffer) e) ∙ sym (get_or-drop tables_end buffer (p - tables_end) 0)
        ∙ ap (λ (l : List ℕ). byte_at l (p - tables_end)) buffer_past ∙ get_or-drop tables_end t (p - tables_end) 0 ∙ ap (byte_at t) e

    pub buffer_length : 0 < length states → length buffer ≡ length t
    unfolding tables_granted
    buffer_length h =
        omega (
          arith,
          end_length (table_of s states t grants) (table_bytes s) (drop tables_end t) (length states) 0 tables_sized,
          length-drop tables_end t,
          tables_fit h,
        )
