-- The program's table has room for every sheet.
use Prim.Native.Nat.{ℕ, ◌≤◌}
use mathlib.Core.Path.{◌≡◌, refl, sym, ap, ◌∙◌}
use mathlib.Core.List.{List}
use native.Mathlib.Omega.{arith}
use lib.ListN.{length}
use borrow.Author.Tests.{le-leb}
use Rattle.sheet.specs.Reading.{sheet_check}
use Rattle.sheet.specs.declared.Refusal.{Refusal}
use Rattle.std.specs.Prelude.{Err, Ok}
use Rattle.sheet.specs.Refusals.{Check}
use Rattle.judge.specs.Cells.{table_bytes}
use Rattle.judge.specs.Clearing.{clear_check, cleared_of, table_cleared}
use Rattle.judge.specs.LargestTable.{largest_table}
use Rattle.judge.specs.Querying.{queried_of}
use Rattle.judge.specs.Querying.{Queried}
use Rattle.judge.specs.declared.QueryError.TheVariants.{Refused}
use Rattle.judge.proofs.Lists.JustCleared.{cleared_length, cleared_below}
use Rattle.judge.proofs.Statements.LargestTable.{every_table_fits}
use Rattle.plan_judge.specs.Program.{program_of}
use Rattle.plan_judge.specs.Buffers.{answer_after, clear_then_query, RoomForEverySheet}
use Rattle.plan_judge.proofs.Answers.{answers_start, program_refuses, program_answers}

refused_alike : (s t : List ℕ) (x : Refusal) → sheet_check s ≡ Err x → clear_then_query s t ≡ Err (Refused x)
unfolding cleared_of clear_check
refused_alike s t x e = rw e

module _ (s t : List ℕ) (accepted : sheet_check s ≡ Ok tt) (fits : table_bytes s ≤ length t) where
  done : cleared_of s t ≡ Ok tt
  unfolding cleared_of clear_check
  done = rw (accepted, le-leb (table_bytes s) (length t) fits)

  queried_alike : clear_then_query s t ≡ program_of s
  queried_alike =
      ap (answer_after (queried_of s 0 (table_cleared s t))) done
      ∙ (answers_start s accepted (table_cleared s t) (omega (arith, cleared_length s t accepted fits)) (cleared_below s t accepted fits)
      ∙ sym (program_answers s accepted))

pub room_for_every_sheet : RoomForEverySheet
room_for_every_sheet s t long = go (sheet_check s) refl
  where
    go : (c : Check) → sheet_check s ≡ c → clear_then_query s t ≡ program_of s
    go (Ok tt) e = queried_alike s t e (omega (arith, every_table_fits s e))
    go (Err x) e = refused_alike s t x e ∙ sym (program_refuses s x e)

-- the same, of calls that cleared t and left u
module _ (s t : List ℕ) {u : List ℕ} (left : u ≡ table_cleared s t) (long : largest_table ≤ length t) where
  pub program_queries : {q : Queried} → cleared_of s t ≡ Ok tt → q ≡ queried_of s 0 u → q ≡ program_of s
  program_queries d e = e ∙ ap (queried_of s 0) left ∙ sym (ap (answer_after (queried_of s 0 (table_cleared s t))) d) ∙ room_for_every_sheet s t long

  pub program_stops : {x : Refusal} → cleared_of s t ≡ Err x → Err (Refused x) ≡ program_of s
  program_stops d = sym (ap (answer_after (queried_of s 0 (table_cleared s t))) d) ∙ room_for_every_sheet s t long
