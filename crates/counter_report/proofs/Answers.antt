-- What the program reports and prints, by its count of queries and by the check of its sheet.
use Prim.Native.Nat.{ℕ, ◌<◌, ◌≤◌}
use mathlib.Core.Path.{◌≡◌, refl, sym, ap, ◌∙◌}
use mathlib.Core.List.{List, []}
use native.Mathlib.Omega.{arith}
use native.Mathlib.Decide.{dec_le}
use lib.Dec.{leb}
use lib.ListN.{length, length-replicate}
use borrow.Author.Tests.{le-leb, lt-leb}
use Rattle.text.specs.RefusalLine.{refusal_line}
use Rattle.sheet.specs.Bytes.{pick}
use Rattle.sheet.specs.Refusals.{number_of, place_of}
use Rattle.sheet.specs.Reading.{sheet_check}
use Rattle.sheet.specs.declared.Refusal.{Refusal}
use Rattle.sheet.specs.declared.Refusal.TheVariants.{TooShort}
use Rattle.std.specs.Prelude.{Err, Ok}
use Rattle.judge.specs.Cells.{table_bytes}
use Rattle.judge.specs.Clearing.{clear_check}
use Rattle.judge.specs.LargestTable.{largest_table}
use Rattle.judge.proofs.Statements.LargestTable.{every_table_fits}
use Rattle.report.specs.Reporting.{Report, most_queries, least_output, report_check, report_text, report_of}
use Rattle.report.specs.declared.ReportError.TheVariants.{TooManyQueries, Refused}
use Rattle.counter_report.specs.Program.{own_table, own_output, printed, report_on, text_on}

-- the program's buffers
pub own_table_lem : largest_table ≤ length own_table
unfolding own_table
own_table_lem = omega (arith, length-replicate {A = ℕ} largest_table 0)

pub own_output_lem : least_output ≤ length own_output
unfolding own_output
own_output_lem = omega (arith, length-replicate {A = ℕ} least_output 0)

module _ (s states : List ℕ) where
  pub report_many : most_queries < length states → report_on s states ≡ Err TooManyQueries
  unfolding report_of
  report_many h = rw (lt-leb (length states) most_queries h)

  module _ (few : length states ≤ most_queries) where
    pub report_refused : {x : Refusal} → sheet_check s ≡ Err x → report_on s states ≡ Err (Refused x)
    unfolding report_of report_check clear_check
    report_refused e = rw (le-leb (length states) most_queries few, e)

    pub report_written : sheet_check s ≡ Ok tt → report_on s states ≡ Ok (length (report_text s states own_table))
    unfolding report_of report_check clear_check
    report_written e =
        rw (
          le-leb (length states) most_queries few,
          e,
          le-leb (table_bytes s) (length own_table) (omega (arith, own_table_lem, every_table_fits s e)),
          le-leb least_output (length own_output) own_output_lem,
        )

  pub text_of_lem : {r : Report} → report_on s states ≡ r → text_on s states ≡ printed (report_text s states own_table) r
  unfolding text_on
  text_of_lem e = ap (printed (report_text s states own_table)) e

  -- of a sheet that is not accepted the states count by their number alone
  pub text_refused : (x : Refusal) → sheet_check s ≡ Err x
      → text_on s states ≡ pick (leb (length states) most_queries) (refusal_line (number_of x) (place_of x)) (refusal_line 36 0)
  text_refused x e = elim (dec_le (length states) most_queries) [
    | yes h ↦ rw (le-leb (length states) most_queries h) (text_of_lem (report_refused h e))
    | no h ↦ rw (lt-leb (length states) most_queries (omega arith)) (text_of_lem (report_many (omega arith)))
  ]

pub text_alike : (s states other : List ℕ) (x : Refusal) → sheet_check s ≡ Err x → length states ≡ length other → text_on s states ≡ text_on s other
text_alike s states other x e l =
    text_refused s states x e
    ∙ ap (λ (n : ℕ). pick (leb n most_queries) (refusal_line (number_of x) (place_of x)) (refusal_line 36 0)) l
    ∙ sym (text_refused s other x e)

pub empty_sheet : sheet_check [] ≡ Err TooShort
unfolding sheet_check
empty_sheet = refl
