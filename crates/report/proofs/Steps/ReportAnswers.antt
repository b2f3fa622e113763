-- The report's answers: each way out of the call keeps its contract.
use Prim.Native.Nat.{ℕ, ◌<◌, ◌≤◌}
use mathlib.Core.Path.{◌≡◌, refl, sym, ap, subst, subst₂, ◌∙◌}
use mathlib.Core.List.{List}
use lib.ListN.{length}
use borrow.Author.Tests.{le-leb, lt-leb}
use Rattle.text.specs.Placing.{Puts}
use Rattle.sheet.specs.RunningCalls.{AllBytes}
use Rattle.sheet.specs.declared.Refusal.{Refusal}
use Rattle.sheet.specs.declared.Refusal.TheVariants.{OutputShort}
use Rattle.std.specs.Prelude.{Err, Ok}
use Rattle.sheet.specs.Refusals.{Check}
use Rattle.judge.specs.Clearing.{clear_check, answer_cleared, cleared_of, table_cleared, reported_clear}
use Rattle.judge.specs.Counting.{answer_counted, counted_of}
use Rattle.judge.specs.StoredCount.{stored_count}
use Rattle.judge.specs.Lists.{table_after, reports}
use Rattle.judge.specs.Clearing.{Cleared}
use Rattle.judge.specs.Counting.{Counted}
use Rattle.report.specs.Text.{total_line, text_of}
use Rattle.report.specs.Reporting.{most_queries, least_output, report_check, report_of, table_reported, output_reported, reported_text, WritesReport}
use Rattle.report.specs.Internal.Lines.{FitsAt, PutsAt, LinesRequire, AddsLines}
use Rattle.report.specs.Reporting.{Report}
use Rattle.report.specs.declared.ReportError.TheVariants.{TooManyQueries, Refused}
use Rattle.report.specs.declared.Tally.{Tally}
use Rattle.report.proofs.Steps.LineSteps.{total_fits, total_added}

module _ (s t : List ℕ) where
  -- clearing answers what it checks
  by_clearing : cleared_of s t ≡ clear_check s t
  unfolding cleared_of
  by_clearing = go (clear_check s t)
    where
      go : (c : Check) → answer_cleared c ≡ c
      go (Ok tt) = refl
      go (Err x) = refl

  -- and reading the count is refused as clearing is
  counted_accepted : {n : ℕ} → counted_of s t ≡ Ok n → clear_check s t ≡ Ok tt
  unfolding counted_of
  counted_accepted {n} = go (clear_check s t)
    where
      go : (c : Check) → answer_counted (stored_count s t) c ≡ Ok n → c ≡ Ok tt
      go (Ok tt) e = refl
      go (Err x) e = cc

  counted_refused : {x : Refusal} → counted_of s t ≡ Err x → clear_check s t ≡ Err x
  unfolding counted_of
  counted_refused {x} = go (clear_check s t)
    where
      go : (c : Check) → answer_counted (stored_count s t) c ≡ Err x → c ≡ Err x
      go (Ok tt) e = cc
      go (Err y) e = cc

module _ (s states t out : List ℕ) (bytes : AllBytes states) where
  pub too_many : most_queries < length states → WritesReport s states t out (Err TooManyQueries) t out
  unfolding report_of table_reported output_reported
  too_many h = rw (lt-leb (length states) most_queries h) (refl, (refl, (refl, (refl, bytes))))

  module _ (few : length states ≤ most_queries) where
    -- a report that is refused by its check, and one that is accepted
    refused : {x : Refusal} → report_check s t out ≡ Err x → WritesReport s states t out (Err (Refused x)) t out
    unfolding report_of table_reported output_reported
    refused e = rw (le-leb (length states) most_queries few, e) (refl, (refl, (refl, (refl, bytes))))

    accepted : report_check s t out ≡ Ok tt → {n : ℕ} {u v : List ℕ} → u ≡ table_after s (table_cleared s t) states
        → Puts (text_of states (reports s (table_cleared s t) states)) n out v → WritesReport s states t out (Ok n) u v
    unfolding report_of table_reported output_reported
    accepted e is p = rw (le-leb (length states) most_queries few, e) (ap (λ (k : ℕ). Ok k) p.0, (ap (λ (n : ℕ). reported_text (Ok n)) p.0, (is, (p.1, bytes))))

    -- the output is too short, and reading the count answered a
    module _ {a : Counted} (answered : a ≡ counted_of s t) where
      pub too_short : {n : ℕ} → a ≡ Ok n → length out < least_output → WritesReport s states t out (Err (Refused OutputShort)) t out
      unfolding report_check
      too_short e h = refused (rw (counted_accepted s t (sym answered ∙ e), lt-leb least_output (length out) h) refl)

      pub counting_refuses : {x : Refusal} → a ≡ Err x → {r : Report} → r ≡ Err (Refused x) → WritesReport s states t out r t out
      unfolding report_check
      counting_refuses {x} e q =
          subst (λ (z : Report). WritesReport s states t out z t out) (sym q) (refused {x = x} (rw (counted_refused s t (sym answered ∙ e)) refl))

    -- clearing answered r, and left c
    module _ {r : Cleared} (answered : r ≡ cleared_of s t) {c : List ℕ} (is : c ≡ table_cleared s t) where
      checked : {d : Check} → r ≡ d → clear_check s t ≡ d
      checked e = sym (by_clearing s t) ∙ sym answered ∙ e

      pub clearing_refuses : {x : Refusal} → r ≡ Err x → {a : Report} → a ≡ Err (Refused x) → WritesReport s states t out a c out
      unfolding report_check table_cleared
      clearing_refuses {x} e q =
          let k : clear_check s t ≡ Err x = checked e in
          subst₂ (λ (z : Report) (w : List ℕ). WritesReport s states t out z w out) (sym q) (sym (is ∙ rw k refl)) (refused {x = x} (rw k refl))

      -- clearing is done
      module _ (long : least_output ≤ length out) (done : r ≡ Ok tt) where
        pub lines_require : LinesRequire s states c out
        lines_require = record { few = few; bytes = bytes; lent = t; just = ap (λ (x : Cleared). (reported_clear x).number) (sym answered ∙ done); cleared = is; long = long }

        -- then the lines are put, and the total
        module _ {tally : Tally} {u v : List ℕ} (d : AddsLines s states c out tally u v) where
          pub total_requires : FitsAt (total_line tally.visits) tally.length v
          total_requires = total_fits s states c out lines_require d

          pub writes : {n : ℕ} {w : List ℕ} → PutsAt (total_line tally.visits) tally.length v n w → WritesReport s states t out (Ok n) u w
          unfolding report_check
          writes {n} {w} p =
              accepted (rw (checked done, le-leb least_output (length out) long) refl) (d.table_is ∙ ap (λ (x : List ℕ). table_after s x states) is)
              (subst (λ (x : List ℕ). Puts (text_of states (reports s x states)) n out w) is (total_added s states c out lines_require d p))
