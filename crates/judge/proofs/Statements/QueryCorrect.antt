-- A call of `query` that is not refused: the solution, the cells filled and the visits are those of the rows as the table changes them.
use Rattle.std.proofs.Common.{◌≡◌, ℕ, ◌+◌, Bool, true, false, ◌&&◌, ltb, leb, ◌≢◌, ◌⊎◌, List, length, sym, refl, ap, ◌∙◌, subst, ap₂, arith, eqb-true, leb-true}
use Rattle.sheet.specs.Contents.{plan_body, rule_body}
use Rattle.sheet.specs.Plan.{state_count}
use Rattle.sheet.specs.Refusals.{require, and_then}
use Rattle.sheet.specs.Reading.{sheet_check}
use Rattle.sheet.specs.declared.Refusal.TheVariants.{NoSuchState, Loop, TableShort, TableByte}
use Rattle.std.specs.Prelude.{Err, Ok}
use Rattle.sheet.specs.Refusals.{Check}
use Rattle.sheet.proofs.Acceptance.Numbers.{refused_number}
use Rattle.sheet.proofs.Checks.Checks.{passed_then, passed_require}
use Rattle.graph.specs.LoopTest.{loop_free}
use Rattle.rows.specs.Rows.{Needed, value, need}
use Rattle.rows.specs.Tables.{byte_of, among, query, verdict, visits, table}
use Rattle.rows.proofs.Tables.Filling.{fill}
use Rattle.judge.specs.Cells.{Cell, cell, enough, position_of, cell_bytes, table_bytes, cells_in, InTable}
use Rattle.judge.specs.StoredCount.{stored_count, filled_cells, HoldsCount}
use Rattle.judge.specs.OneSolution.{changed_rows}
use Rattle.judge.specs.Querying.{bytes_right, query_check, count_right, result_of, answer_queried, queried_of, left_by, table_queried, reported_query, QueryReport, Queries}
use Rattle.judge.specs.QueryCorrect.{cell_byte, QueryCorrect, QueriesCorrect}
use Rattle.judge.specs.Querying.{Queried}
use Rattle.judge.proofs.Lists.SheetLists.{takes, takes_valid, Fine, holds, fine_after}
use Rattle.judge.proofs.Lists.FilledTables.{solved, newly_filled, needed_filled, filled_or_same, others_same}
use Rattle.judge.proofs.Steps.ScanSteps.{bytes_small}
use Rattle.judge.proofs.Statements.NeededCells.{needed_at, at_needed}
use Rattle.judge.proofs.Statements.OneSolution.{Settled, changed_falls, solves_from}

module _ (s : List ℕ) (state : ℕ) (t : List ℕ) (passed : query_check s state t ≡ Ok tt) (right : count_right s t ≡ true) where
  abbrev of_table : Check
  of_table = and_then (require (leb (table_bytes s) (length t)) TableShort) (require (bytes_right (cell_bytes s) t) TableByte)

  abbrev of_loop : Check
  of_loop = and_then (require (loop_free (plan_body s) state) Loop) of_table

  abbrev of_state : Check
  of_state = and_then (require (ltb state (state_count (plan_body s))) NoSuchState) of_loop

  sheet_passed : (sheet_check s ≡ Ok tt) × (of_state ≡ Ok tt)
  unfolding query_check
  sheet_passed = passed_then (sheet_check s) of_state passed

  accepted : sheet_check s ≡ Ok tt
  accepted = sheet_passed.0

  state_passed : (require (ltb state (state_count (plan_body s))) NoSuchState ≡ Ok tt) × (of_loop ≡ Ok tt)
  state_passed = passed_then _ of_loop sheet_passed.1

  loop_passed : (require (loop_free (plan_body s) state) Loop ≡ Ok tt) × (of_table ≡ Ok tt)
  loop_passed = passed_then _ of_table state_passed.1

  table_passed : (require (leb (table_bytes s) (length t)) TableShort ≡ Ok tt) × (require (bytes_right (cell_bytes s) t) TableByte ≡ Ok tt)
  table_passed = passed_then (require (leb (table_bytes s) (length t)) TableShort) _ loop_passed.1

  -- a state and a table that are taken
  taken : takes (plan_body s) state ≡ true
  taken =
      ap₂ (λ (a b : Bool). a && b) (passed_require (ltb state (state_count (plan_body s))) NoSuchState state_passed.0)
      (passed_require (loop_free (plan_body s) state) Loop loop_passed.0)

  fine : Fine s accepted t
  unfolding count_right
  fine = record {
    long = leb-true (table_bytes s) (length t) (passed_require _ TableShort table_passed.0);
    small = bytes_small (cell_bytes s) t (passed_require _ TableByte table_passed.1);
    counted = eqb-true (stored_count s t) (filled_cells s t) right;
  }

  abbrev c : Cell
  c = cell 0 0 state

  settled : Settled s accepted c
  settled = takes_valid s accepted state taken

  abbrev held : List ℕ
  held = cells_in s t

  abbrev v : Cell → Bool
  v = value (changed_rows s t) enough

  abbrev l : List Cell
  l = need (changed_rows s t) enough c

  abbrev u : List ℕ
  u = table_queried s state t

  left : HoldsCount s (table (result_of s state t)) (stored_count s t + visits (result_of s state t)) t u
  left = holds s accepted (solved s accepted) (takes_valid s accepted) t fine state taken

  fine_left : Fine s accepted u
  fine_left = fine_after s accepted (solved s accepted) (takes_valid s accepted) t fine state taken

  as_filled : HoldsCount s (fill (solved s accepted) held l) (stored_count s t + visits (result_of s state t)) t u
  unfolding query
  as_filled = left

  abbrev Needs : Cell → Type 0
  Needs d = Needed (changed_rows s t) v c d

  found : (d : Cell) → InTable s d → among (position_of (rule_body s)) l (position_of (rule_body s) d) ≡ true → Needs d
  found d h q = needed_at s accepted (changed_rows s t) (changed_falls s accepted t) c settled d h q

  there : (d : Cell) → Needs d → among (position_of (rule_body s)) l (position_of (rule_body s) d) ≡ true
  there d n = at_needed s accepted (changed_rows s t) (changed_falls s accepted t) c settled d n

  pub filled_here : (d : Cell) → InTable s d → cell_byte s t d ≡ 0 → Needs d → cell_byte s u d ≡ byte_of (v d)
  filled_here = needed_filled s accepted t fine.long l as_filled Needs found there

  -- a cell was empty and is needed, or its byte is as it was
  pub cell_cases : (d : Cell) → InTable s d → ((cell_byte s t d ≡ 0) × Needs d) ⊎ (cell_byte s u d ≡ cell_byte s t d)
  cell_cases = filled_or_same s accepted t fine.long l as_filled Needs found there

  pub same_here : (d : Cell) → InTable s d → (cell_byte s t d ≡ 0 → Needs d → ⊥) → cell_byte s u d ≡ cell_byte s t d
  same_here = others_same s accepted t fine.long l as_filled Needs found there

  abbrev reported : QueryReport
  reported = record { number = 0; place = 0; verdict = verdict (result_of s state t); visits = visits (result_of s state t) }

  correct : QueryCorrect s state t reported u
  unfolding query
  correct = record {
    solution = v;
    one_solution = solves_from s accepted (changed_rows s t) (changed_falls s accepted t) c settled;
    gives = refl;
    fills = filled_here;
    others = same_here;
    past = left.past;
    length_kept = left.length_kept;
    visits_are = newly_filled s accepted t fine.long l as_filled;
    count_grows = left.count_is;
    count_right_holds = fine_left.counted;
  }

-- what a call answered and left, by its check
reported_by : (s : List ℕ) (state : ℕ) (t : List ℕ) (c : Check) (b : Bool) → query_check s state t ≡ c → count_right s t ≡ b
    → reported_query (queried_of s state t) ≡ reported_query (answer_queried (result_of s state t) c b)
unfolding queried_of
reported_by s state t c b e f = ap₂ (λ (x : Check) (y : Bool). reported_query (answer_queried (result_of s state t) x y)) e f

left_by_lem : (s : List ℕ) (state : ℕ) (t : List ℕ) (c : Check) (b : Bool) → query_check s state t ≡ c → count_right s t ≡ b
    → table_queried s state t ≡ left_by s (result_of s state t) t c b
unfolding table_queried
left_by_lem s state t c b e f = ap₂ (left_by s (result_of s state t) t) e f

pub queries_correct : QueriesCorrect
queries_correct = record {
  judged = λ s state t r u q n. judged s state t r u q n (query_check s state t) (count_right s t) refl refl;
  refused = λ s state t r u q n. refused s state t r u q n (query_check s state t) (count_right s t) refl refl;
}
  where
    numbered : {q x : QueryReport} → q ≡ x → q.number ≡ x.number
    numbered e = ap (λ (y : QueryReport). y.number) e

    judged : (s : List ℕ) (state : ℕ) (t : List ℕ) (r : Queried) (u : List ℕ) → Queries s state t r u → (reported_query r).number ≡ 0
        → (c : Check) (b : Bool) → query_check s state t ≡ c → count_right s t ≡ b → QueryCorrect s state t (reported_query r) u
    judged s state t r u q n (Ok tt) true e f =
        subst (λ (x : QueryReport). QueryCorrect s state t x u) (sym (q.1.0 ∙ reported_by s state t (Ok tt) true e f))
        (subst (QueryCorrect s state t (reported s state t e f)) (sym q.1.1) (correct s state t e f))
    judged s state t r u q n (Ok tt) false e f = absurd (omega (arith, numbered (q.1.0 ∙ reported_by s state t (Ok tt) false e f)))
    judged s state t r u q n (Err x) b e f = absurd (omega (arith, refused_number x, numbered (q.1.0 ∙ reported_by s state t (Err x) b e f)))

    refused : (s : List ℕ) (state : ℕ) (t : List ℕ) (r : Queried) (u : List ℕ) → Queries s state t r u → (reported_query r).number ≢ 0
        → (c : Check) (b : Bool) → query_check s state t ≡ c → count_right s t ≡ b → ((reported_query r).verdict ≡ false) × ((reported_query r).visits ≡ 0) × (u ≡ t)
    refused s state t r u q n (Ok tt) true e f = absurd (n (numbered (q.1.0 ∙ reported_by s state t (Ok tt) true e f)))
    refused s state t r u q n (Ok tt) false e f =
        let same = q.1.0 ∙ reported_by s state t (Ok tt) false e f in
        (ap (λ (y : QueryReport). y.verdict) same, ap (λ (y : QueryReport). y.visits) same, q.1.1 ∙ left_by_lem s state t (Ok tt) false e f)
    refused s state t r u q n (Err x) b e f =
        let same = q.1.0 ∙ reported_by s state t (Err x) b e f in
        (ap (λ (y : QueryReport). y.verdict) same, ap (λ (y : QueryReport). y.visits) same, q.1.1 ∙ left_by_lem s state t (Err x) b e f)
