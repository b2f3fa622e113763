-- The query of state 0 on a table whose cells are empty: what it answers is free of the table, and right by Table 1.
use Prim.Native.Nat.{ℕ, ◌<◌, ◌≤◌}
use mathlib.Core.Path.{◌≡◌, refl, sym, ap, ap₂, subst, ◌∙◌}
use mathlib.Core.Bool.{Bool, true, false}
use mathlib.Core.List.{List, [], ◌∷◌}
use mathlib.Core.Logic.{◌⊎◌, ◌↔◌, inl, inr}
use native.Mathlib.Omega.{arith}
use lib.ListN.{length, length-replicate, get_or-replicate}
use borrow.Author.Tests.{lt-ltb, eq-eqb}
use Rattle.sheet.specs.Bytes.{pick}
use Rattle.sheet.specs.Contents.{plan_body, actions_body, rule_body}
use Rattle.sheet.specs.Plan.{state_count}
use Rattle.sheet.specs.Reading.{sheet_check}
use Rattle.sheet.specs.WellFormed.{WellFormedBodies}
use Rattle.sheet.specs.declared.Refusal.{Refusal}
use Rattle.sheet.specs.declared.Refusal.TheVariants.{Loop}
use Rattle.std.specs.Prelude.{Err, Ok}
use Rattle.sheet.specs.Refusals.{Check}
use Rattle.sheet.proofs.Acceptance.Numbers.{low_refusal}
use Rattle.sheet.proofs.Acceptance.Parts.{bodies_kept}
use Rattle.calculus.specs.Verdict.{Verdict}
use Rattle.rows.specs.Rows.{value, need}
use Rattle.rows.specs.Tables.{byte_at, count, among, query, visits}
use Rattle.rows.proofs.Systems.Needs.{needed}
use Rattle.rows.proofs.Tables.Counting.{count_cong}
use Rattle.rows.proofs.Tables.Filling.{fills_empty}
use Rattle.rows.proofs.Lists.FromCleared.{cleared_value, cleared_need}
use Rattle.graph.specs.LoopTest.{loop_free}
use Rattle.graph.proofs.Looptest.LoopFree.{free_exactly_at, loop_reachable}
use Rattle.judge.specs.Cells.{Cell, cell, written_rows, enough, position_of, cell_bytes, table_bytes, cells_in}
use Rattle.judge.specs.Querying.{query_check, count_right, result_of, answer_queried, queried_of, table_queried, reported_query}
use Rattle.judge.specs.QueryCorrect.{QueryCorrect}
use Rattle.judge.specs.Lists.{reports}
use Rattle.judge.specs.Querying.{Queried}
use Rattle.judge.specs.declared.QueryError.TheVariants.{Refused}
use Rattle.judge.proofs.Cells.ValidCells.{Valid, root_valid}
use Rattle.judge.proofs.Cells.CellLayout.{solvable}
use Rattle.judge.proofs.Cells.CountLayout.{cells_byte, cells_length}
use Rattle.judge.proofs.Lists.JustCleared.{cleared_exact}
use Rattle.judge.proofs.Lists.SheetLists.{Fine, zero_fine, query_passes, count_passes, query_fails}
use Rattle.judge.proofs.Statements.Demand3.{demand3}
use Rattle.judge.proofs.Statements.QueryCorrect.{queries_correct}
use Rattle.plan_judge.specs.Program.{cleared_table, program_of, RightAnswer, ProgramCorrect, ProgramRefusals}

-- a sheet that is not accepted, with any table
refuses : (s u : List ℕ) (x : Refusal) → sheet_check s ≡ Err x → queried_of s 0 u ≡ Err (Refused x)
unfolding queried_of query_check
refuses s u x e = rw e

module _ (s : List ℕ) (accepted : sheet_check s ≡ Ok tt) where
  bodies : WellFormedBodies (plan_body s) (actions_body s) (rule_body s)
  bodies = bodies_kept s accepted

  starts : 0 < state_count (plan_body s)
  starts = bodies.plan_kept.some_states

  -- how many cells are needed for (0, 0, 0), by the rows as written
  abbrev needed_cells : ℕ
  needed_cells = count (cell_bytes s) (among (position_of (rule_body s)) (need (written_rows s) enough (cell 0 0 0)))

  -- the answer, by whether no loop can be reached
  abbrev answer_if : Bool → Queried
  answer_if free = pick free (Ok (record { verdict = value (written_rows s) enough (cell 0 0 0); visits = needed_cells })) (Err (Refused Loop))

  -- a table of zeros
  module _ (u : List ℕ) (long : table_bytes s ≤ length u) (zeros : (i : ℕ) → i < table_bytes s → byte_at u i ≡ 0) where
    fine : Fine s accepted u
    fine = zero_fine s accepted u long zeros

    abbrev held : List ℕ
    held = cells_in s u

    fits : cell_bytes s ≤ length held
    fits = omega (arith, cells_length s u long)

    clear : (i : ℕ) → i < cell_bytes s → byte_at held i ≡ 0
    clear i h = cells_byte s u i h ∙ zeros i (omega arith)

    judges : loop_free (plan_body s) 0 ≡ true → queried_of s 0 u ≡ answer_if true
    unfolding queried_of query
    judges e =
        ap₂ (answer_queried (result_of s 0 u)) (query_passes s accepted u fine 0 (rw (lt-ltb 0 (state_count (plan_body s)) starts, e))) (count_passes s accepted u fine)
        ∙ (λ i. Ok (record { verdict = cleared_value (solvable bodies) held fits clear (cell 0 0 0) root i; visits = visited i }))
      where
        root : Valid (plan_body s) (actions_body s) (rule_body s) (cell 0 0 0)
        root = root_valid bodies.rule_kept 0 starts e

        visited : visits (result_of s 0 u) ≡ needed_cells
        visited = count_cong (cell_bytes s) _ _ (λ i h.
            fills_empty (position_of (rule_body s)) held (needed (solvable bodies) held (cell 0 0 0)) i (eq-eqb (byte_at held i) 0 (clear i h))
            ∙ ap (λ (l : List Cell). among (position_of (rule_body s)) l i) (cleared_need (solvable bodies) held fits clear (cell 0 0 0) root))

    finds_loop : loop_free (plan_body s) 0 ≡ false → queried_of s 0 u ≡ answer_if false
    unfolding queried_of
    finds_loop e =
        ap (λ (c : Check). answer_queried (result_of s 0 u) c (count_right s u)) (query_fails s accepted u 0 (rw (lt-ltb 0 (state_count (plan_body s)) starts, e)))
        ∙ rw (lt-ltb 0 (state_count (plan_body s)) starts)

    pub answers_start : queried_of s 0 u ≡ answer_if (loop_free (plan_body s) 0)
    answers_start = go (loop_free (plan_body s) 0) refl
      where
        go : (b : Bool) → loop_free (plan_body s) 0 ≡ b → queried_of s 0 u ≡ answer_if b
        go true e = judges e
        go false e = finds_loop e

-- ---- on the table that the program's definition names

pub program_refuses : (s : List ℕ) (x : Refusal) → sheet_check s ≡ Err x → program_of s ≡ Err (Refused x)
unfolding program_of
program_refuses s x e = refuses s (cleared_table s) x e

module _ (s : List ℕ) (accepted : sheet_check s ≡ Ok tt) where
  length_is : length (cleared_table s) ≡ table_bytes s
  length_is = length-replicate {A = ℕ} (table_bytes s) 0

  pub program_answers : program_of s ≡ answer_if s accepted (loop_free (plan_body s) 0)
  unfolding program_of
  program_answers = answers_start s accepted (cleared_table s) (omega (arith, length_is)) (λ i h. get_or-replicate (table_bytes s) i 0 0 h)

  -- by demand 3, of the list of this one query
  program_verdict : loop_free (plan_body s) 0 ≡ true → (value (written_rows s) enough (cell 0 0 0) ≡ true) ↔ Verdict s 0
  unfolding program_of reports
  program_verdict e =
      subst Right (ap (queried_of s 0) (cleared_exact s (cleared_table s) accepted length_is) ∙ program_answers ∙ ap (answer_if s accepted) e)
      (demand3.lists s (cleared_table s) (0 ∷ []) (demand3.clears s (cleared_table s) accepted (omega (arith, length_is)))).verdicts.0 refl
    where
      Right : Queried → Type 0
      Right q = (reported_query q).number ≡ 0 → ((reported_query q).verdict ≡ true) ↔ Verdict s 0

  -- what the query of the cleared table is, cell by cell
  program_query : loop_free (plan_body s) 0 ≡ true
      → QueryCorrect s 0 (cleared_table s) (record { number = 0; place = 0; verdict = value (written_rows s) enough (cell 0 0 0); visits = needed_cells s accepted }) (table_queried s 0 (cleared_table s))
  unfolding program_of
  program_query e =
      subst Correct (program_answers ∙ ap (answer_if s accepted) e)
      (queries_correct.judged s 0 (cleared_table s) (queried_of s 0 (cleared_table s)) (table_queried s 0 (cleared_table s)) (refl, (refl, refl))) refl
    where
      Correct : Queried → Type 0
      Correct q = (reported_query q).number ≡ 0 → QueryCorrect s 0 (cleared_table s) (reported_query q) (table_queried s 0 (cleared_table s))

  program_right : (b : Bool) → loop_free (plan_body s) 0 ≡ b → RightAnswer s (answer_if s accepted b)
  program_right true e = RightAnswer.judged accepted ((free_exactly_at (plan_body s) (bodies s accepted).plan_kept 0 (starts s accepted)).0 e) (program_verdict e) (program_query e)
  program_right false e = RightAnswer.loops accepted (loop_reachable (plan_body s) (bodies s accepted).plan_kept 0 (starts s accepted) e)

pub program_correct : ProgramCorrect
program_correct s = go (sheet_check s) refl
  where
    go : (c : Check) → sheet_check s ≡ c → RightAnswer s (program_of s)
    go (Ok tt) e = subst (RightAnswer s) (sym (program_answers s e)) (program_right s e (loop_free (plan_body s) 0) refl)
    go (Err x) e = subst (RightAnswer s) (sym (program_refuses s x e)) (RightAnswer.unreadable e)

pub program_refusals : ProgramRefusals
program_refusals s = go (program_correct s)
  where
    go : {q : Queried} → RightAnswer s q → ((reported_query q).number ≤ 10) ⊎ ((reported_query q).number ≡ 12)
    go (RightAnswer.unreadable e) = inl (low_refusal s e)
    go (RightAnswer.loops a l) = inr refl
    go (RightAnswer.judged a f w m) = inl (omega arith)
