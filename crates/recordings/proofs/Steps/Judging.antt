-- What the steps of a judgement show.
use Prim.Native.Nat.{ℕ, ◌*◌, ◌<◌, ◌≤◌}
use mathlib.Core.Path.{◌≡◌, refl, sym, ap, ◌∙◌}
use mathlib.Core.Bool.{Bool, not}
use mathlib.Core.List.{List}
use native.Mathlib.Omega.{arith}
use lib.ListN.{length, take}
use lib.Dec.{leb}
use lib.Seq.{length-take-le}
use borrow.Author.Tests.{le-leb, lt-leb}
use Rattle.text.specs.Placing.{Puts}
use Rattle.text.proofs.Placing.{puts_taken}
use Rattle.sheet.proofs.Acceptance.Sheet.{accepted_iff}
use Rattle.judge.specs.Cells.{table_bytes}
use Rattle.judge.specs.LargestTable.{largest_table}
use Rattle.recordings.specs.Shortest.{holds_on, fails_at}
use Rattle.recordings.specs.RunAsSheet.{chain_sheet}
use Rattle.recordings.specs.Internal.Chains.{Judgeable}
use Rattle.recordings.specs.Internal.Judging.{false_on_zeros, small_table, middle_table, table_room}
use Rattle.recordings.proofs.Plans.Chains.{chain_length}
use Rattle.recordings.proofs.Plans.Runs.{taken, beginning_kept}
use Rattle.recordings.proofs.Plans.Queries.{query_tells}
use Rattle.recordings.proofs.Steps.Chaining.{chain_taken}

-- the table is of the size made where so many bytes are needed
module _ (s : List ℕ) {size : ℕ} (is : size ≡ table_bytes s) where
  abbrev Told : Bool → Type 0
  Told r = r ≡ false_on_zeros s (table_room (table_bytes s))

  on_room : {n : ℕ} → n ≡ table_room size → {r : Bool} → r ≡ false_on_zeros s n → Told r
  on_room e f = f ∙ ap (false_on_zeros s) (e ∙ ap table_room is)

  pub on_small : size ≤ small_table → {r : Bool} → r ≡ false_on_zeros s small_table → Told r
  on_small h = on_room {n = small_table} (rw (le-leb size small_table h) refl)

  pub on_middle : small_table < size → size ≤ middle_table → {r : Bool} → r ≡ false_on_zeros s middle_table → Told r
  on_middle g h = on_room {n = middle_table} (rw (lt-leb size small_table g, le-leb size middle_table h) refl)

  pub on_largest : small_table < size → middle_table < size → {r : Bool} → r ≡ false_on_zeros s largest_table → Told r
  on_largest g h = on_room {n = largest_table} (rw (lt-leb size small_table g, lt-leb size middle_table h) refl)

-- the sheet of the chain stands in the room, and its query was asked
pub told : (s run bytes room : List ℕ) → Judgeable s run bytes → {n : ℕ} {buffer : List ℕ} → Puts (chain_sheet s run) n room buffer
    → {r : Bool} → r ≡ false_on_zeros (take n buffer) (table_room (table_bytes (take n buffer))) → r ≡ not (holds_on s run)
told s run bytes room j p e =
    e ∙ ap (λ (l : List ℕ). false_on_zeros l (table_room (table_bytes l))) (puts_taken (chain_sheet s run) room p)
    ∙ query_tells s ((accepted_iff s).0 j.passed) run j.kept

module _ (s run bytes : List ℕ) (n : ℕ) where
  -- the recording ends before
  pub no_beginning : length run < n → leb n (length run) ≡ fails_at s run n
  unfolding fails_at
  no_beginning h = rw (lt-leb n (length run) h) refl

  module _ (j : Judgeable s run bytes) (h : n ≤ length run) where
    pub front_judgeable : Judgeable s (take n run) (take (3 * n) bytes)
    front_judgeable =
        record {
          passed = j.passed;
          kept = beginning_kept s (take n run) run j.kept (taken n run);
          bytes_are = ap (take (3 * n)) j.bytes_are ∙ chain_taken run n h;
        }

    pub front_counted : 3 * n ≡ length (take (3 * n) bytes)
    front_counted =
        sym (length-take-le (3 * n) bytes (omega (arith, ap length j.bytes_are, chain_length 0 run)))

    pub of_beginning : {r : Bool} → r ≡ not (holds_on s (take n run)) → r ≡ fails_at s run n
    unfolding fails_at
    of_beginning e = e ∙ rw (le-leb n (length run) h) refl
