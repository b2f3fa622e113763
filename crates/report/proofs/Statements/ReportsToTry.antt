-- The reports to try, from the sheets to try.
use Prim.Native.Nat.{ℕ, ◌≤◌}
use mathlib.Core.Path.{◌≡◌, refl, sym, subst, ◌∙◌}
use mathlib.Core.Bool.{true, false}
use mathlib.Core.List.{List, [], ◌∷◌}
use native.Mathlib.Omega.{arith}
use lib.ListN.{length}
use Rattle.text.specs.Decimal.{digits_of}
use Rattle.text.specs.Placing.{Puts}
use Rattle.calculus.specs.KeySheet.{K}
use Rattle.judge.specs.Clearing.{cleared_of, table_cleared}
use Rattle.judge.specs.Querying.{QueryReport}
use Rattle.judge.specs.Lists.{JustCleared, reports, table_after}
use Rattle.judge.specs.SheetsToTry.{Asked, judged, refused_by, loops_elsewhere}
use Rattle.judge.proofs.Lists.Called.{calls_exactly}
use Rattle.judge.proofs.Statements.Demand3.{demand3}
use Rattle.judge.proofs.Statements.SheetsToTry.{sheets_to_try}
use Rattle.report.specs.Text.{line_with, lines_of, tally_from, total_line, text_of}
use Rattle.report.specs.Reporting.{most_queries, reported_text}
use Rattle.report.specs.ReportsToTry.{Gives, ReportsToTry}
use Rattle.report.proofs.Statements.ReportCorrect.{reports_correct}

-- a sheet that was tried, at most 64 queries of it, and the text of what they report
gives : (s : List ℕ) (size : ℕ) (states : List ℕ) (answers : List QueryReport) → Asked s size states answers → length states ≤ most_queries → Gives s size states (text_of states answers)
gives s size states answers asked few t out long room r u v k =
    let just : JustCleared s t = demand3.clears s t asked.accepted (omega (arith, asked.table_size_holds, long)) in
    let zero : (reported_text r).number ≡ 0 = (reports_correct.numbers s states t out r u v k).accepted.1 (few, (just, room)) in
    let c = reports_correct.texts s states t out r u v k zero in
    let calls = (calls_exactly s (table_cleared s t) states (reports s (table_cleared s t) states) (table_after s (table_cleared s t) states)).1 (refl, refl) in
    let said = (asked.report t long (cleared_of s t) (table_cleared s t) (reports s (table_cleared s t) states) (table_after s (table_cleared s t) states) (refl, (refl, refl)) calls).0 in
    let same = ((c.calls (cleared_of s t) (table_cleared s t) (reports s (table_cleared s t) states) (table_after s (table_cleared s t) states) (refl, (refl, refl))).0 calls).0 in
    (zero, subst (λ (l : List QueryReport). Puts (text_of states l) (reported_text r).size out v) (sym same ∙ said) c.text)

pub reports_to_try : ReportsToTry
unfolding text_of lines_of line_with tally_from total_line digits_of
reports_to_try = record {
  key = gives K 112 (0 ∷ 1 ∷ 2 ∷ []) (judged true 17 ∷ judged true 0 ∷ judged false 9 ∷ []) sheets_to_try.p3 (omega arith);
  loops = gives loops_elsewhere 14 (0 ∷ 1 ∷ 2 ∷ 3 ∷ 4 ∷ 1 ∷ 5 ∷ []) (refused_by 12 ∷ judged false 2 ∷ refused_by 12 ∷ refused_by 12 ∷ judged true 1 ∷ judged false 0 ∷ refused_by 11 ∷ []) sheets_to_try.b_loops (omega arith);
}
