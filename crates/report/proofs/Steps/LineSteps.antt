-- The loop over the queries: after i of them the lines, the tally and the table are those of the first i.
use Prim.Native.Nat.{ℕ, ◌+◌, ◌*◌, ◌<◌, ◌≤◌}
use mathlib.Core.Path.{◌≡◌, refl, sym, ap, ap₂, subst, ◌∙◌}
use mathlib.Core.List.{List, [], ◌∷◌, ◌++◌}
use native.Mathlib.Omega.{arith}
use native.Mathlib.Nat.{le_trans}
use native.Mathlib.Numerals.{add-one}
use native.Mathlib.Decide.{dec_lt}
use lib.ListN.{length, take, get_or, length-append, length-take, get_or-eq_default}
use lib.Seq.{take-suc, take_all, take-length, get_or-take, length-take-le}
use Rattle.text.specs.Placing.{buffer_after, starting_with, Puts}
use Rattle.text.proofs.Placing.{starting_length, starting_append}
use Rattle.sheet.specs.RunningCalls.{AllBytes}
use Rattle.sheet.specs.Reading.{sheet_check}
use Rattle.std.specs.Prelude.{Ok}
use Rattle.sheet.proofs.Acceptance.Sheet.{accepted_iff}
use Rattle.judge.specs.LargestTable.{most_cells}
use Rattle.judge.specs.Clearing.{cleared_of, table_cleared}
use Rattle.judge.specs.Querying.{query_report_of, table_queried}
use Rattle.judge.specs.Lists.{reports, table_after, visits_of}
use Rattle.judge.specs.Demand3.{ListCorrect}
use Rattle.judge.proofs.Statements.CallNumbers.{call_numbers}
use Rattle.judge.proofs.Statements.LargestTable.{every_table_fits}
use Rattle.judge.proofs.Statements.Demand3.{demand3}
use Rattle.report.specs.Text.{lines_of, tally_from, tally_of, total_line, text_of}
use Rattle.report.specs.Reporting.{least_output}
use Rattle.report.specs.Internal.Lines.{FitsAt, PutsAt, line_queried, LineRequires, tally_queried, AddsLine, lines_after, LinesRequire, AddsLines}
use Rattle.report.specs.declared.Tally.{Tally}
use Rattle.report.proofs.Lists.OneMore.{reports_more, table_more, as_many, lines_more, tally_more, tally_sum}
use Rattle.report.proofs.Texts.Lengths.{lines_length, total_length}

-- the first numbers of a list of bytes are bytes
first_bytes : (k : ℕ) (l : List ℕ) → AllBytes l → AllBytes (take k l)
first_bytes k l bytes = record {
  at = λ j. elim (dec_lt j k) [
    | yes h ↦ rw (get_or-take k l j 0 h) (bytes.at j)
    | no h ↦ rw (get_or-eq_default (take k l) 0 {n = j} (omega (arith, length-take k l))) (omega arith)
  ];
}

module _ (s states t out : List ℕ) (r : LinesRequire s states t out) where
  -- the first k queries are a list of demand 3
  first_correct : (k : ℕ) → ListCorrect s r.lent (take k states) (reports s t (take k states)) (table_after s t (take k states))
  first_correct k =
      subst (λ (u : List ℕ). ListCorrect s r.lent (take k states) (reports s u (take k states)) (table_after s u (take k states))) (sym r.cleared)
      (demand3.lists s r.lent (take k states) r.just)

  accepted : sheet_check s ≡ Ok tt
  accepted = (accepted_iff s).1 ((call_numbers.clears s r.lent (cleared_of s r.lent) (table_cleared s r.lent) (refl, (refl, refl))).done.0 r.just).0

  first_visits : (k : ℕ) → visits_of (reports s t (take k states)) ≤ most_cells
  first_visits k = le_trans (first_correct k).at_most_holds (every_table_fits s accepted).0

  first_tally : (k : ℕ) → tally_of (reports s t (take k states)) ≤ most_cells
  first_tally k = omega (arith, tally_sum (reports s t (take k states)), first_visits k)

  first_length_lem : (k : ℕ) → k ≤ length states → length (lines_after s (take k states) t) ≤ k * 16
  first_length_lem k h =
      omega (arith, length-take-le k states h, lines_length (take k states) (reports s t (take k states)) (first_bytes k states r.bytes) (omega (arith, first_visits k)) (first_correct k).refused)

  -- no line is written past the end of the output
  first_fits : (k : ℕ) → k ≤ length states → length (lines_after s (take k states) t) ≤ length out
  first_fits k h = omega (arith, first_length_lem k h, r.few, r.long)

  module _ (i : ℕ) (within : i ≤ length states) {tally : Tally} {u v : List ℕ} (d : AddsLines s (take i states) t out tally u v) where
    pub output_length : length v ≡ length out
    output_length = ap length d.output_is ∙ starting_length (lines_after s (take i states) t) out (first_fits i within)

  module _ (i : ℕ) (within : i < length states) where
    abbrev state : ℕ
    state = get_or states i 0

    abbrev before : List ℕ
    before = take i states

    next_states : take (i + 1) states ≡ before ++ (state ∷ [])
    next_states = ap (λ (k : ℕ). take k states) (add-one i) ∙ take-suc states i 0 within

    next_reports : reports s t (take (i + 1) states) ≡ reports s t before ++ (query_report_of s state (table_after s t before) ∷ [])
    next_reports = ap (reports s t) next_states ∙ reports_more s t before state

    next_lines : lines_after s (take (i + 1) states) t ≡ lines_after s before t ++ line_queried s state (table_after s t before)
    next_lines = ap₂ lines_of next_states next_reports ∙ lines_more before (reports s t before) state _ (as_many s t before)

    next_tally : tally_of (reports s t (take (i + 1) states)) ≡ tally_of (reports s t before) + (query_report_of s state (table_after s t before)).visits
    next_tally = ap tally_of next_reports ∙ tally_more (reports s t before) _

    next_length : length (lines_after s (take (i + 1) states) t) ≡ length (lines_after s before t) + length (line_queried s state (table_after s t before))
    next_length = ap length next_lines ∙ length-append (lines_after s before t) (line_queried s state (table_after s t before))

    module _ {tally : Tally} {u v : List ℕ} (d : AddsLines s before t out tally u v) where
      lines_fit : length (lines_after s before t ++ line_queried s state (table_after s t before)) ≤ length out
      lines_fit = omega (arith, ap length next_lines, first_fits (i + 1) (omega arith))

      pub line_requires : LineRequires s state u v tally
      line_requires =
          subst (λ (w : List ℕ). LineRequires s state w v tally) (sym d.table_is) (
            omega (arith, ap (λ (z : Tally). z.length) d.tally_is, next_length, first_fits (i + 1) (omega arith), output_length i (omega arith) d),
            omega (arith, ap (λ (z : Tally). z.visits) d.tally_is, next_tally, first_tally (i + 1)),
          )

      pub next_line : {tally' : Tally} {u' v' : List ℕ} → AddsLine s state u v tally tally' u' v' → AddsLines s (take (i + 1) states) t out tally' u' v'
      next_line e = record {
        tally_is = e.0 ∙ ((λ j. tally_queried s state (d.table_is j) (d.tally_is j)) ∙ sym (λ j. record { visits = next_tally j; length = next_length j }));
        table_is = e.1.0 ∙ (ap (table_queried s state) d.table_is ∙ sym (ap (table_after s t) next_states ∙ table_more s t before state));
        output_is =
            e.1.1 ∙ ((λ j. buffer_after (line_queried s state (d.table_is j)) (d.tally_is j).length (d.output_is j))
            ∙ (starting_append (lines_after s before t) (line_queried s state (table_after s t before)) out lines_fit ∙ ap (λ (l : List ℕ). starting_with l out) (sym next_lines)));
      }

  -- all queries: the last line fits behind their lines
  all_length : length (lines_after s states t) ≤ length states * 16
  all_length = subst (λ (l : List ℕ). length (lines_after s l t) ≤ length states * 16) (take-length states) (first_length_lem (length states) (omega arith))

  all_tally : tally_of (reports s t states) ≤ most_cells
  all_tally = subst (λ (l : List ℕ). tally_of (reports s t l) ≤ most_cells) (take-length states) (first_tally (length states))

  whole_length : length (text_of states (reports s t states)) ≡ length (lines_after s states t) + length (total_line (tally_of (reports s t states)))
  unfolding text_of
  whole_length = length-append (lines_after s states t) (total_line (tally_of (reports s t states)))

  pub text_length_lem : length (text_of states (reports s t states)) ≤ least_output
  text_length_lem = omega (arith, whole_length, all_length, r.few, total_length (tally_of (reports s t states)) (omega (arith, all_tally)))

  module _ {tally : Tally} {u v : List ℕ} (d : AddsLines s states t out tally u v) where
    pub total_fits : FitsAt (total_line tally.visits) tally.length v
    total_fits =
        subst (λ (z : Tally). FitsAt (total_line z.visits) z.length v) (sym d.tally_is)
        (omega (arith, whole_length, text_length_lem, r.long, ap length d.output_is, starting_length (lines_after s states t) out (omega (arith, all_length, r.few, r.long))))

    pub total_added : {end : ℕ} {v' : List ℕ} → PutsAt (total_line tally.visits) tally.length v end v' → Puts (text_of states (reports s t states)) end out v'
    unfolding text_of
    total_added p = (
      p.0 ∙ (ap (λ (z : Tally). z.length + length (total_line z.visits)) d.tally_is ∙ sym whole_length),
      p.1 ∙ ((λ j. buffer_after (total_line (d.tally_is j).visits) (d.tally_is j).length (d.output_is j))
          ∙ starting_append (lines_after s states t) (total_line (tally_of (reports s t states))) out (omega (arith, text_length_lem, r.long))),
    )

-- before the first query, and after the last
pub no_lines : (s states t out : List ℕ) → AddsLines s (take 0 states) t out (record { visits = 0; length = 0 }) t out
unfolding reports table_after lines_of tally_from
no_lines s states t out = record { tally_is = refl; table_is = refl; output_is = refl }

pub all_lines : (s states t out : List ℕ) (i : ℕ) {tally : Tally} {u v : List ℕ} → length states ≤ i → AddsLines s (take i states) t out tally u v → AddsLines s states t out tally u v
all_lines s states t out i {tally} {u} {v} h d = subst (λ (l : List ℕ). AddsLines s l t out tally u v) (take_all i states h) d
