-- What a yes means: every filled cell has the solution of the rows as written, so a query on the table gives Table 1's verdict.
use Rattle.std.proofs.Common.{◌≡◌, ℕ, ◌<◌, Bool, true, false, ◌≢◌, ◌↔◌, List, sym, refl, ap, ◌∙◌, inl, inr, arith}
use mathlib.Core.Logic.Iff
use native.Mathlib.Decide.{dec_lt}
use Rattle.sheet.specs.Contents.{plan_body, rule_body}
use Rattle.sheet.specs.Plan.{state_count}
use Rattle.sheet.specs.Reading.{sheet_check}
use Rattle.sheet.specs.WellFormed.{WellFormedPlan}
use Rattle.std.specs.Prelude.{Ok}
use Rattle.sheet.proofs.Acceptance.Sheet.{accepted_iff}
use Rattle.calculus.specs.Verdict.{Verdict}
use Rattle.rows.specs.Rows.{Solution, value}
use Rattle.rows.specs.Tables.{byte_at, empty, known, byte_of}
use Rattle.rows.proofs.Systems.Changed.{known_byte}
use Rattle.rows.proofs.Follows.Sound.{follows_sound}
use Rattle.rows.proofs.Follows.SolvedTables.{small_filled, changed_solves}
use Rattle.graph.specs.LoopTest.{loop_free}
use Rattle.graph.proofs.Looptest.LoopFree.{free_exactly_at, loop_reachable}
use Rattle.judge.specs.Cells.{Cell, cell, written_rows, enough, position_of, cells_in}
use Rattle.judge.specs.Querying.{reported_query, Queries}
use Rattle.judge.specs.OneSolution.{changed_rows, LoopFreeCell, ComesTo, OneSolution}
use Rattle.judge.specs.QueryCorrect.{cell_byte, QueryCorrect}
use Rattle.judge.specs.CallNumbers.{NoLoopAhead, QueryNumbers}
use Rattle.judge.specs.Demand3.{RefusedState}
use Rattle.judge.specs.AuditCorrect.{FilledCell, AuditNotRefused, AuditRight, TableSolved}
use Rattle.judge.specs.Querying.{Queried}
use Rattle.judge.proofs.Cells.CellLayout.{table_layout, position_inside, valid_in}
use Rattle.judge.proofs.Cells.CountLayout.{cells_byte}
use Rattle.judge.proofs.Statements.OneSolution.{Settled, free_settled, settled_free, written_falls, solves_all}
use Rattle.judge.proofs.Statements.QueryCorrect.{queries_correct}
use Rattle.judge.proofs.Statements.CallNumbers.{call_numbers}
use Rattle.judge.proofs.Statements.Demand3.{table1}

-- the byte of a value is 2 where it is true
two_true : (b : Bool) → (byte_of b ≡ 2) ↔ (b ≡ true)
two_true b = (λ e. sym (known_byte b) ∙ ap known e, λ e. ap byte_of e)

module _ (s t : List ℕ) (q : AuditNotRefused s t) (f : AuditRight s t) where
  sheet_passes : sheet_check s ≡ Ok tt
  sheet_passes = (accepted_iff s).1 q.bytes.there.accepted

  plan_kept : WellFormedPlan (plan_body s)
  plan_kept = q.bytes.there.accepted.bodies_kept.plan_kept

  abbrev solution_at : Cell → Bool
  solution_at = value (written_rows s) enough

  pub all_solved : OneSolution s (written_rows s) (LoopFreeCell s) solution_at
  all_solved = solves_all s sheet_passes (written_rows s) (written_falls s sheet_passes)

  pub filled_free : (c : Cell) → FilledCell s t c → LoopFreeCell s c
  filled_free c g = record {
    of_sheet = record { node_below = g.in_table.node_below; state_below = g.in_table.state_below; mark_right = f.mark_right c g };
    no_loop = q.none c g;
  }

  settled_solves : Solution (written_rows s) (Settled s sheet_passes) solution_at
  settled_solves = record { row = λ c g. all_solved.solves.row c (settled_free s sheet_passes c g) }

  filled_solved : (c : Cell) → FilledCell s t c → cell_byte s t c ≡ byte_of (solution_at c)
  filled_solved c g =
      follows_sound (written_falls s sheet_passes) solution_at settled_solves t
      (λ d h e. f.follows_from_holds d (record { in_table = valid_in s d h; is_filled = e })) c (free_settled s sheet_passes c (filled_free c g)) g.is_filled

  solution_verdict : (state : ℕ) → LoopFreeCell s (cell 0 0 state) → (solution_at (cell 0 0 state) ≡ true) ↔ Verdict s state
  solution_verdict state g = table1 s sheet_passes state (free_settled s sheet_passes (cell 0 0 state) g)

  -- 20, 21 and 35 do not come, since the table is long, its bytes are small and its count is right
  query_refusals : (state : ℕ) (r : Queried) (u : List ℕ) → Queries s state t r u → ((reported_query r).number ≢ 0) ↔ RefusedState s state
  query_refusals state r u k = (refused_state, λ h n. taken_state h (given.none.0 n).0.there.free)
    where
      given : QueryNumbers s state t r
      given = call_numbers.queries s state t r u k

      loop_or_none : (reported_query r).number ≢ 0 → (h : state < state_count (plan_body s)) (b : Bool) → loop_free (plan_body s) state ≡ b → RefusedState s state
      loop_or_none n h true e = absurd (n (given.none.1 (
        record {
          there = record {
            free = record { there = record { accepted = q.bytes.there.accepted; below = h }; none = (free_exactly_at (plan_body s) plan_kept state h).0 e };
            long = q.bytes.there.long;
          };
          small = q.bytes.small;
        },
        f.count_right_holds,
      )))
      loop_or_none n h false e = inr (loop_reachable (plan_body s) plan_kept state h e)

      refused_state : (reported_query r).number ≢ 0 → RefusedState s state
      refused_state n = elim (dec_lt state (state_count (plan_body s))) [ yes h ↦ loop_or_none n h (loop_free (plan_body s) state) refl | no h ↦ inl (omega arith) ]

      taken_state : RefusedState s state → NoLoopAhead s state → ⊥
      taken_state (inl h) free = omega (arith, free.there.below)
      taken_state (inr w) free = free.none w

  module _ (state : ℕ) (r : Queried) (u : List ℕ) (k : Queries s state t r u) (n : (reported_query r).number ≡ 0) where
    query_judged : QueryCorrect s state t (reported_query r) u
    query_judged = queries_correct.judged s state t r u k n

    abbrev Comes : Cell → Type 0
    Comes = ComesTo (changed_rows s t) (cell 0 0 state)

    comes_free : (c : Cell) → Comes c → LoopFreeCell s c
    comes_free = query_judged.one_solution.of_sheet

    -- a cell that is not empty is filled, and has its solution
    kept_solved : (c : Cell) → Comes c → empty (byte_at (cells_in s t) (position_of (rule_body s) c)) ≡ false
        → byte_at (cells_in s t) (position_of (rule_body s) c) ≡ byte_of (solution_at c)
    kept_solved c g e =
        let inside = table_layout.cells s c (comes_free c g).of_sheet in
        let l = position_inside s c inside in
        let same = cells_byte s t (position_of (rule_body s) c) l in
        same ∙ filled_solved c (record { in_table = inside; is_filled = small_filled (cell_byte s t c) (q.bytes.small _ l) (sym (ap empty same) ∙ e) })

    verdict_is : (reported_query r).verdict ≡ solution_at (cell 0 0 state)
    verdict_is =
        query_judged.gives
        ∙ sym (query_judged.one_solution.unique solution_at
        (changed_solves (position_of (rule_body s)) (written_rows s) (cells_in s t) solution_at
        (record { row = λ c g. all_solved.solves.row c (comes_free c g) }) kept_solved)
        (cell 0 0 state) (inl refl))

    query_verdict : ((reported_query r).verdict ≡ true) ↔ Verdict s state
    query_verdict = Iff.trans (λ e. sym verdict_is ∙ e, λ e. verdict_is ∙ e) (solution_verdict state (comes_free (cell 0 0 state) (inl refl)))

  pub table_solved : TableSolved s t
  table_solved = record {
    solution = solution_at;
    one_solution = all_solved;
    loop_free_holds = filled_free;
    solved = filled_solved;
    table1 = λ state g.
        let c = cell 0 0 state in
        let is = filled_solved c g in
        Iff.trans (λ e. sym is ∙ e, λ e. is ∙ e) (Iff.trans (two_true (solution_at c)) (solution_verdict state (filled_free c g)));
    refusals = query_refusals;
    verdicts = query_verdict;
  }
