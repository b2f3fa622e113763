-- The text that a call of `report` leaves, or the line of its refusal.
use Prim.Native.Nat.{ℕ, ◌≤◌}
use mathlib.Core.Path.{◌≡◌, refl, sym, ap, ap₂, subst, ◌∙◌}
use mathlib.Core.Bool.{Bool, true, false}
use mathlib.Core.List.{List}
use mathlib.Core.Logic.{◌≢◌}
use native.Mathlib.Omega.{arith}
use lib.ListN.{length}
use borrow.Author.Tests.{le-leb}
use Rattle.streams.specs.Counts.{IsPrefixLen}
use Rattle.text.specs.Placing.{place_after, buffer_after, starting_with, Puts}
use Rattle.text.specs.RefusalLine.{refusal_line}
use Rattle.text.proofs.Placing.{puts_counted}
use Rattle.text.proofs.RefusalLines.{refusal_at_start}
use Rattle.sheet.specs.Refusals.{and_then}
use Rattle.std.specs.Prelude.{Err, Ok}
use Rattle.sheet.specs.Refusals.{Check}
use Rattle.judge.specs.Clearing.{clear_check}
use Rattle.report.specs.Reporting.{Report, least_output, few_queries, report_check, report_text, answer_report, report_of, leaves, output_reported, reported_text, WritesReport}
use Rattle.report.specs.declared.ReportError.TheVariants.{TooManyQueries, Refused}
use Rattle.report.proofs.Statements.ReportCorrect.{reports_correct}
use Rattle.counter_report.specs.Program.{own_table, own_output, printed, report_on, text_on}
use Rattle.counter_report.proofs.Answers.{own_output_lem}

-- the output of a report that is written, for each test and each check
written_left : (text out : List ℕ) {n : ℕ} (b : Bool) (c : Check) → answer_report (length text) b c ≡ Ok n
    → Puts text n out (leaves (starting_with text out) out (answer_report (length text) b c))
written_left text out true (Ok tt) e = (cc, refl)
written_left text out true (Err x) e = (cc, cc)
written_left text out false c e = (cc, cc)

-- the line of a refusal is printed of each answer that is one
refusal_printed : (lines : List ℕ) (r : Report) → (reported_text r).number ≢ 0 → printed lines r ≡ refusal_line (reported_text r).number (reported_text r).place
refusal_printed lines (Ok n) h = absurd (h refl)
refusal_printed lines (Err TooManyQueries) h = refl
refusal_printed lines (Err (Refused x)) h = refl

-- an output that is long enough is not refused; the program's own is long enough
room_checked : (s t out : List ℕ) → least_output ≤ length out → report_check s t out ≡ and_then (clear_check s t) (Ok tt)
unfolding report_check
room_checked s t out room = rw (le-leb least_output (length out) room)

-- a call of `report` with an output that is long enough
module _ (s states out : List ℕ) (room : least_output ≤ length out) {answer : Report} {table left : List ℕ} (k : WritesReport s states own_table out answer table left) where
  same_report : answer ≡ report_on s states
  unfolding report_of
  same_report =
      k.0 ∙ ap (answer_report (length (report_text s states own_table)) (few_queries states)) (room_checked s own_table out room ∙ sym (room_checked s own_table own_output own_output_lem))

  text_is : printed (report_text s states own_table) answer ≡ text_on s states
  unfolding text_on
  text_is = ap (printed (report_text s states own_table)) same_report

  pub written_puts : {n : ℕ} → answer ≡ Ok n → IsPrefixLen n left × Puts (text_on s states) n out left
  unfolding report_of output_reported
  written_puts {n} e =
      puts_counted out (ap (printed (report_text s states own_table)) (sym e) ∙ text_is)
      (subst (Puts (report_text s states own_table) n out) (sym k.1.1.1.0)
      (written_left (report_text s states own_table) out (few_queries states) (report_check s own_table out) (sym k.0 ∙ e)))

  -- its refusal, and the line that was put for it
  module _ (refused : (reported_text answer).number ≢ 0) {number place n : ℕ} {after : List ℕ} (num : number ≡ (reported_text answer).number) (pl : place ≡ (reported_text answer).place)
      (put : (n ≡ place_after (refusal_line number place) 0 left) × (after ≡ buffer_after (refusal_line number place) 0 left)) where
    unchanged : left ≡ out
    unchanged = ((reports_correct.numbers s states own_table out answer table left k).refused refused).1.1

    pub refusal_puts : IsPrefixLen n after × Puts (text_on s states) n out after
    refusal_puts =
        puts_counted out (ap₂ refusal_line num pl ∙ sym (refusal_printed (report_text s states own_table) answer refused) ∙ text_is)
        (subst (λ (l : List ℕ). Puts (refusal_line number place) n l after) unchanged
        (refusal_at_start number place left (omega (arith, ap length unchanged)) put))
