-- Demand 3, for every accepted sheet, loops included, every table just cleared for it and every list of states.
use Rattle.std.proofs.Common.{◌≡◌, ℕ, ◌<◌, ◌≤◌, Bool, true, false, ◌&&◌, ltb, ◌≢◌, ◌↔◌, List, [], ◌∷◌, length, sym, refl, ap, ◌∙◌, subst, inl, inr, arith, ltb-false, ltb-true}
use mathlib.Core.Path.{subst₃}
use mathlib.Core.Logic.Iff
use Rattle.sheet.specs.Bytes.{pick}
use Rattle.sheet.specs.Contents.{plan_body, actions_body, rule_body}
use Rattle.sheet.specs.Plan.{state_count}
use Rattle.sheet.specs.WellFormed.{WellFormedBodies, WellFormedSheet}
use Rattle.sheet.specs.Reading.{sheet_check}
use Rattle.std.specs.Prelude.{Ok}
use Rattle.sheet.proofs.Acceptance.Sheet.{accepted_iff}
use Rattle.sheet.specs.TransitionSystem.{plan_of}
use Rattle.calculus.specs.Decode.{formula}
use Rattle.calculus.specs.Meaning.{Holds}
use Rattle.calculus.specs.Verdict.{empty_context, Verdict}
use Rattle.calculus.specs.GuardCheck.{guarded_rule}
use Rattle.calculus.specs.Exchange.{exchanged, exchanged_rule}
use Rattle.calculus.proofs.Table1.Verdicts.{verdict_holds}
use Rattle.calculus.proofs.Exchange.Exchange.{exchanged_plan, exchanged_actions, exchanged_rule_lem, exchanged_kept}
use Rattle.rows.specs.Rows.{value}
use Rattle.rows.specs.Tables.{byte_at, filled, byte_of}
use Rattle.graph.specs.LoopTest.{settled, loop_free}
use Rattle.graph.specs.Successors.{successors}
use Rattle.judge.specs.Cells.{Cell, cell, rows, written_rows, enough, position_of, cell_at, cell_bytes, table_bytes, cells_in, InTable}
use Rattle.judge.specs.StoredCount.{filled_cells}
use Rattle.judge.specs.Clearing.{table_cleared}
use Rattle.judge.specs.Querying.{QueryReport, queried_of, table_queried, reported_query}
use Rattle.std.specs.Prelude.{Ok, Err}
use Rattle.judge.specs.Querying.{Queried}
use Rattle.judge.specs.declared.QueryError.TheVariants.{WrongCount, Refused}
use Rattle.judge.specs.OneSolution.{OneSolution}
use Rattle.judge.specs.Lists.{reports, table_after, Reported, SameAnswers, visits_of, judged_states}
use Rattle.judge.specs.Demand3.{RefusedState, ComesFrom, NeededFor, SameUnderExchange, ListCorrect, Demand3}
use Rattle.judge.specs.QueryCorrect.{cell_byte}
use Rattle.rows.proofs.Systems.Systems.{Each, needed_for, Solvable}
use Rattle.rows.proofs.Systems.Fuel.{each_map}
use Rattle.rows.proofs.Systems.Members.{each_at}
use Rattle.rows.proofs.Tables.Counting.{count_le}
use Rattle.rows.proofs.Lists.FromCleared.{Cleared, cleared}
use Rattle.judge.proofs.Cells.ValidCells.{Valid}
use Rattle.judge.proofs.Cells.Ranks.{rank}
use Rattle.judge.proofs.Cells.CountLayout.{cells_byte, cells_length, filled_cells_lem}
use Rattle.judge.proofs.Cells.CellLayout.{table_layout, solvable, position_inside, position_back}
use Rattle.judge.proofs.Truth.Truth.{verdict_truth}
use Rattle.graph.proofs.Looptest.LoopFree.{free_exactly_at, loop_reachable}
use Rattle.judge.proofs.Lists.JustCleared.{clears_long, cleared_only, cleared_length, cleared_below, cleared_count, cleared_above}
use Rattle.judge.proofs.Lists.Called.{gave_none, cleared_report}
use Rattle.judge.proofs.Lists.SheetLists.{takes, takes_valid, Answer, reported_map, same_answers, Takes, Fine, zero_fine, Run, run, starts, taken_states, taken_each}
use Rattle.judge.proofs.Statements.NeededCells.{needed_for_lem}
use Rattle.judge.proofs.Statements.OneSolution.{Settled, written_falls, comes_settled, comes_on, solves}
use Rattle.judge.proofs.Exchange.ExchangedRows.{exchange_value, exchange_holds}

-- the solution of a sheet's rows
abbrev solution_of : List ℕ → Cell → Bool
solution_of s = value (rows (plan_body s) (actions_body s) (rule_body s)) enough

-- what a refused query reports
refused_report_lem : (q : Queried) → (reported_query q).number ≢ 0 → ((reported_query q).verdict ≡ false) × ((reported_query q).visits ≡ 0)
refused_report_lem (Ok j) h = absurd (h refl)
refused_report_lem (Err WrongCount) h = (refl, refl)
refused_report_lem (Err (Refused x)) h = (refl, refl)

refused_reports : (s states u : List ℕ) → Reported (λ state q. q.number ≢ 0 → (q.verdict ≡ false) × (q.visits ≡ 0)) states (reports s u states)
unfolding reports
refused_reports s [] u = tt
refused_reports s (state ∷ states) u = (refused_report_lem (queried_of s state u), refused_reports s states (table_queried s state u))

module _ (s : List ℕ) (accepted : sheet_check s ≡ Ok tt) where
  kept : WellFormedSheet s
  kept = (accepted_iff s).0 accepted

  bodies : WellFormedBodies (plan_body s) (actions_body s) (rule_body s)
  bodies = kept.bodies_kept

  -- the states whose queries are not refused
  below : (state : ℕ) → Takes s accepted state → state < state_count (plan_body s)
  below state h = (takes_valid s accepted state h).state_below

  settles : (state : ℕ) → Takes s accepted state → settled (successors (plan_body s)) (state_count (plan_body s)) state ≡ true
  settles state h = (takes_valid s accepted state h).state_settled

  takes_none_refused : (state : ℕ) → Takes s accepted state → RefusedState s state → ⊥
  takes_none_refused state h (inl e) = omega (arith, below state h)
  takes_none_refused state h (inr w) = (free_exactly_at (plan_body s) bodies.plan_kept state (below state h)).0 (settles state h) w

  refuses_others : (state : ℕ) → takes (plan_body s) state ≡ false → RefusedState s state
  refuses_others state e = go (ltb state (state_count (plan_body s))) refl e
    where
      go : (b : Bool) → ltb state (state_count (plan_body s)) ≡ b → (b && loop_free (plan_body s) state) ≡ false → RefusedState s state
      go true l e = inr (loop_reachable (plan_body s) bodies.plan_kept state (ltb-true state (state_count (plan_body s)) l) e)
      go false l e = inl (ltb-false state (state_count (plan_body s)) l)

  takes_others : (state : ℕ) → (RefusedState s state → ⊥) → Takes s accepted state
  takes_others state h = go (takes (plan_body s) state) refl
    where
      go : (b : Bool) → takes (plan_body s) state ≡ b → takes (plan_body s) state ≡ true
      go true e = e
      go false e = absurd (h (refuses_others state e))

  abbrev Cells : Cell → Type 0
  Cells = Valid (plan_body s) (actions_body s) (rule_body s)

  solved : Solvable (position_of (rule_body s)) (rows (plan_body s) (actions_body s) (rule_body s)) (cell_bytes s) (cell_at (rule_body s)) Cells (rank (plan_body s) (rule_body s)) enough
  solved = solvable bodies

  starts_each : (l : List ℕ) → Each (λ state. Cells (cell 0 0 state)) l → Each Cells (starts s accepted l)
  starts_each [] e = tt
  starts_each (state ∷ l) e = (e.0, starts_each l e.1)

  start : (state : ℕ) → Takes s accepted state → Cells (cell 0 0 state)
  start = takes_valid s accepted

  pub table1 : (state : ℕ) → Cells (cell 0 0 state) → (solution_of s (cell 0 0 state) ≡ true) ↔ Verdict s state
  table1 state v =
      Iff.trans (verdict_truth (plan_body s) (actions_body s) (rule_body s) bodies state v.state_below v.state_settled) (verdict_holds s state v.state_below)

  -- from a table just cleared
  module _ (t : List ℕ) (fits : table_bytes s ≤ length t) (states : List ℕ) where
    abbrev u : List ℕ
    u = table_cleared s t

    abbrev taken : List ℕ
    taken = taken_states s accepted states

    abbrev cells : List Cell
    cells = starts s accepted taken

    table_long : table_bytes s ≤ length u
    table_long = rw (cleared_length s t accepted fits) fits

    long : cell_bytes s ≤ length (cells_in s u)
    long = omega (arith, cells_length s u table_long)

    clear : (i : ℕ) → i < cell_bytes s → byte_at (cells_in s u) i ≡ 0
    clear i h = cells_byte s u i h ∙ cleared_below s t accepted fits i (omega arith)

    fine : Fine s accepted u
    fine = zero_fine s accepted u table_long (cleared_below s t accepted fits)

    ran : Run s accepted states u taken
    ran = run s accepted solved start states u fine

    -- the cells of the states that are taken
    taken_settled : Each (λ state. Settled s accepted (cell 0 0 state)) taken
    taken_settled = each_map (λ state h. start state h) taken (taken_each s accepted states)

    left : Cleared solved (cells_in s u) long clear cells (cells_in s (table_after s u states))
    left = subst (Cleared solved (cells_in s u) long clear cells) (sym ran.ends) (cleared solved (cells_in s u) long clear cells (starts_each taken taken_settled))

    answers : Reported (Answer (plan_body s) (solution_of s)) states (reports s u states)
    answers = ran.answers _ left.verdicts

    total_is : visits_of (reports s u states) ≡ filled_cells s (table_after s u states)
    total_is = ran.sum ∙ left.sum ∙ sym (filled_cells_lem s (table_after s u states))

  -- the exchanged sheet of a guarded rule
  module _ (whole : guarded_rule s ≡ true) (choice : ℕ → Bool) where
    abbrev other : List ℕ
    other = exchanged choice s

    other_accepted : sheet_check other ≡ Ok tt
    other_accepted = (accepted_iff other).1 (exchanged_kept choice kept)

    other_plan : plan_body other ≡ plan_body s
    other_plan = exchanged_plan choice s kept.ends

    other_actions : actions_body other ≡ actions_body s
    other_actions = exchanged_actions choice s kept.ends

    other_rule : rule_body other ≡ exchanged_rule choice (rule_body s)
    other_rule = exchanged_rule_lem choice s kept.ends

    same_solution : (state : ℕ) → Takes s accepted state → solution_of s (cell 0 0 state) ≡ solution_of other (cell 0 0 state)
    same_solution state h =
        subst₃ (λ (p a r : List ℕ). solution_of s (cell 0 0 state) ≡ value (rows p a r) enough (cell 0 0 state)) (sym other_plan) (sym other_actions) (sym other_rule)
        (sym (exchange_value bodies whole choice state (below state h) (settles state h)))

    same_holds : (state : ℕ) → Takes s accepted state
        → Holds (plan_of (plan_body s)) (formula (actions_body s) (rule_body s) 0) empty_context state ↔ Holds (plan_of (plan_body other)) (formula (actions_body other) (rule_body other) 0) empty_context state
    same_holds state h =
        subst₃ (λ (p a r : List ℕ). Holds (plan_of (plan_body s)) (formula (actions_body s) (rule_body s) 0) empty_context state ↔ Holds (plan_of p) (formula a r 0) empty_context state)
        (sym other_plan) (sym other_actions) (sym other_rule)
        (exchange_holds bodies whole choice state (below state h) (settles state h))

    same_verdict : (state : ℕ) → (RefusedState s state → ⊥) → Verdict s state ↔ Verdict other state
    same_verdict state q =
        let h = takes_others state q in
        Iff.trans (Iff.symm (verdict_holds s state (below state h)))
        (Iff.trans (same_holds state h) (verdict_holds other state (rw other_plan (below state h))))

module _ (s : List ℕ) (accepted : sheet_check s ≡ Ok tt) (t : List ℕ) (fits : table_bytes s ≤ length t) (states : List ℕ) where
  exchanges : guarded_rule s ≡ true → (choice : ℕ → Bool) → SameUnderExchange s states (reports s (table_cleared s t) states) choice
  exchanges whole choice = record {
    accepted = other_accepted s accepted whole choice;
    same_verdicts = same_verdict s accepted whole choice;
    same_answers = λ t' u r answers' left' c just q.
        let gave = cleared_only (exchanged choice s) t' (gave_none (exchanged choice s) t' r u c just) in
        subst (SameAnswers (reports s (table_cleared s t) states)) (sym (cleared_report (exchanged choice s) t' states r u answers' left' c q))
        (same_answers (plan_body s) (solution_of s) (solution_of (exchanged choice s)) (same_solution s accepted whole choice)
        states (reports s (table_cleared s t) states) (answered t') (answers s accepted t fits states)
        (subst (λ (p : List ℕ). Reported (Answer p (solution_of (exchanged choice s))) states (answered t')) (other_plan s accepted whole choice)
        (answers (exchanged choice s) gave.0 t' gave.1 states)));
  }
    where
      answered : List ℕ → List QueryReport
      answered t' = reports (exchanged choice s) (table_cleared (exchanged choice s) t') states

  -- the queries not refused are those of the states that are taken
  judged : judged_states states (reports s (table_cleared s t) states) ≡ taken_states s accepted states
  judged = (ran s accepted t fits states).judged

  abbrev after : List ℕ
  after = table_after s (table_cleared s t) states

  -- a byte of a cell
  at_cell : (i : ℕ) → i < cell_bytes s → byte_at after i ≡ byte_at (cells_in s after) i
  at_cell i h = sym (cells_byte s after i h)

  exactly : (i : ℕ) → i < cell_bytes s
      → filled (byte_at after i) ≡ needed_for (position_of (rule_body s)) (rows (plan_body s) (actions_body s) (rule_body s)) enough (starts s accepted (taken_states s accepted states)) i
  exactly i h = ap filled (at_cell i h) ∙ (left s accepted t fits states).exactly i h

  -- the cells that the queries of some states can come to
  come_settled : (l : List ℕ) → Each (λ state. Settled s accepted (cell 0 0 state)) l → (c : Cell) → ComesFrom s l c → Settled s accepted c
  come_settled l e c g = comes_settled s accepted (written_rows s) (written_falls s accepted) (cell 0 0 g.0) c (each_at _ l e g.0 g.1) g.2

  one : (l : List ℕ) → Each (λ state. Settled s accepted (cell 0 0 state)) l → OneSolution s (written_rows s) (ComesFrom s l) (solution_of s)
  one l e = solves s accepted (written_rows s) (written_falls s accepted) (ComesFrom s l) (come_settled l e)
      (λ c d g m. (g.0, g.1, comes_on (written_rows s) (cell 0 0 g.0) c d g.2 m))

  needed : (c : Cell) → InTable s c → (filled (cell_byte s after c) ≡ true) ↔ NeededFor s (solution_of s) (taken_states s accepted states) c
  needed c h =
      let same = exactly (position_of (rule_body s) c) (position_inside s c h) in
      Iff.trans (λ e. sym same ∙ e, λ e. same ∙ e) (needed_for_lem s accepted (taken_states s accepted states) (taken_settled s accepted t fits states) c h)

  demands : ListCorrect s t states (reports s (table_cleared s t) states) after
  demands = record {
    refusals = reported_map (λ state q a. number_of_lem state q a) states (reports s (table_cleared s t) states) (answers s accepted t fits states);
    refused = refused_reports s states (table_cleared s t);
    verdicts = reported_map (λ state q a. verdict_of state q a) states (reports s (table_cleared s t) states) (answers s accepted t fits states);
    exchange = exchanges;
    solution = solution_of s;
    one_solution = subst (λ (l : List ℕ). OneSolution s (written_rows s) (ComesFrom s l) (solution_of s)) (sym judged) (one (taken_states s accepted states) (taken_settled s accepted t fits states));
    cells = λ c h. subst (λ (l : List ℕ). (filled (cell_byte s after c) ≡ true) ↔ NeededFor s (solution_of s) l c) (sym judged) (needed c h);
    solved = λ c h f.
        let i = position_of (rule_body s) c in
        at_cell i (position_inside s c h) ∙ (left s accepted t fits states).solved i (position_inside s c h) (sym (exactly i (position_inside s c h)) ∙ f) ∙ ap (λ (d : Cell). byte_of (solution_of s d)) (position_back s c h);
    empties = λ c h f. let i = position_of (rule_body s) c in at_cell i (position_inside s c h) ∙ (left s accepted t fits states).unsolved i (position_inside s c h) (sym (exactly i (position_inside s c h)) ∙ f);
    past = λ i h. (ran s accepted t fits states).past i h ∙ cleared_above s t accepted fits i h;
    length_kept = (ran s accepted t fits states).kept ∙ cleared_length s t accepted fits;
    sum = total_is s accepted t fits states;
    stored = (ran s accepted t fits states).counted ∙ omega (arith, cleared_count s t accepted fits, (ran s accepted t fits states).sum);
    at_most_holds = rw (total_is s accepted t fits states) (count_le (cell_bytes s) _);
  }
    where
      refuses : (b : Bool) → ◌≡◌ {A = ℕ} (pick b 12 11) 0 → ⊥
      refuses true e = omega arith
      refuses false e = omega arith

      number_of_lem : (state : ℕ) (q : QueryReport) → Answer (plan_body s) (solution_of s) state q → (q.number ≢ 0) ↔ RefusedState s state
      number_of_lem state q (inl a) = (λ n. absurd (n a.1), λ r. absurd (takes_none_refused s accepted state a.0 r))
      number_of_lem state q (inr a) = (λ n. refuses_others s accepted state a.0, λ r e. refuses (ltb state (state_count (plan_body s))) (sym a.1 ∙ e))

      verdict_of : (state : ℕ) (q : QueryReport) → Answer (plan_body s) (solution_of s) state q → q.number ≡ 0 → (q.verdict ≡ true) ↔ Verdict s state
      verdict_of state q (inl a) n = Iff.trans (λ e. sym a.2 ∙ e, λ e. a.2 ∙ e) (table1 s accepted state (start s accepted state a.0))
      verdict_of state q (inr a) n = absurd (refuses (ltb state (state_count (plan_body s))) (sym a.1 ∙ n))

pub demand3 : Demand3
demand3 = record {
  layout = table_layout;
  clears = clears_long;
  lists = λ s t states just. let q = cleared_only s t just in demands s q.0 t q.1 states;
}
