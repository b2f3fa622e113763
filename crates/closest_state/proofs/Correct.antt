-- What the program finds is right by Table 1: on a cleared table the rows are those that are written.
use Prim.Native.Nat.{ℕ, ◌<◌, ◌≤◌}
use mathlib.Core.Path.{◌≡◌, refl, sym, ap, subst, ◌∙◌}
use mathlib.Core.Bool.{Bool, true, false, true≢false}
use mathlib.Core.List.{List}
use mathlib.Core.Logic.{◌⊎◌, inl, inr, ◌↔◌}
use native.Mathlib.Omega.{arith}
use lib.ListN.{length, length-replicate}
use borrow.Author.Tests.{lt-ltb, le-leb}
use Rattle.sheet.specs.Contents.{plan_body, actions_body, rule_body}
use Rattle.sheet.specs.Plan.{state_count}
use Rattle.sheet.specs.Reading.{sheet_check}
use Rattle.sheet.specs.WellFormed.{WellFormedBodies}
use Rattle.std.specs.Prelude.{Err, Ok}
use Rattle.sheet.specs.Refusals.{Check}
use Rattle.sheet.specs.declared.Refusal.TheVariants.{Loop}
use Rattle.sheet.proofs.Acceptance.Numbers.{low_refusal}
use Rattle.sheet.proofs.Acceptance.Parts.{bodies_kept}
use Rattle.rows.specs.Tables.{byte_at, visits as visits_of}
use Rattle.rows.proofs.Lists.FromCleared.{cleared_value}
use Rattle.graph.specs.LoopTest.{loop_free}
use Rattle.graph.proofs.Looptest.LoopFree.{free_exactly_at, loop_reachable}
use Rattle.calculus.specs.Verdict.{Verdict}
use Rattle.judge.specs.Cells.{cell, cell_bytes, table_bytes, cells_in}
use Rattle.judge.specs.Clearing.{clear_check, cleared_of, table_cleared}
use Rattle.judge.specs.LargestTable.{largest_table}
use Rattle.judge.specs.Querying.{count_right}
use Rattle.judge.proofs.Cells.CellLayout.{solvable}
use Rattle.judge.proofs.Cells.CountLayout.{cells_byte, cells_length}
use Rattle.judge.proofs.Lists.JustCleared.{cleared_length, cleared_below}
use Rattle.judge.proofs.Lists.SheetLists.{Takes, takes_valid, Fine, zero_fine, query_fails}
use Rattle.judge.proofs.Statements.Demand3.{table1}
use Rattle.judge.proofs.Statements.LargestTable.{every_table_fits}
use Rattle.judge.specs.InTurn.{holds_by}
use Rattle.closest.specs.Finding.{ClosestAnswer, Found, everywhere, fails_at, answer_found, answer_closest, closest_of, searched, closest_found, reported_closest, table_searched}
use Rattle.closest.specs.ClosestCorrect.{ClosestCorrect}
use Rattle.closest.specs.Steps.{WayOf}
use Rattle.judge.specs.declared.QueryError.TheVariants.{Refused}
use Rattle.closest.proofs.Queries.Answers.{way_taken, closest-is}
use Rattle.closest.proofs.Statements.ClosestCorrect.{closest_correct}
use Rattle.closest.proofs.Traces.Ways.{way_leads, way_length}
use Rattle.closest.proofs.Ways.Later.{reachable_exactly}
use Rattle.closest.proofs.Ways.Order.{Says, says}
use Rattle.closest_state.specs.Program.{own_table, answer_after, program_of}
use Rattle.closest_state.specs.ProgramCorrect.{Judgeable, RightAnswer, ProgramCorrect, ProgramRefusals}
use Rattle.closest_state.proofs.Answers.{program_refuses}

own_table_lem : length own_table ≡ largest_table
unfolding own_table
own_table_lem = length-replicate {A = ℕ} largest_table 0

module _ (s : List ℕ) (accepted : sheet_check s ≡ Ok tt) where
  abbrev plan : List ℕ
  plan = plan_body s

  bodies : WellFormedBodies plan (actions_body s) (rule_body s)
  bodies = bodies_kept s accepted

  starts : 0 < state_count plan
  starts = bodies.plan_kept.some_states

  fits : table_bytes s ≤ length own_table
  fits = omega (arith, own_table_lem, (every_table_fits s accepted).1)

  -- the cleared table
  abbrev table : List ℕ
  table = table_cleared s own_table

  done : cleared_of s own_table ≡ Ok tt
  unfolding cleared_of clear_check
  done = rw (accepted, le-leb (table_bytes s) (length own_table) fits) refl

  program_finds : program_of s ≡ closest_of s table
  unfolding program_of
  program_finds = ap (answer_after (closest_of s table)) done

  long : table_bytes s ≤ length table
  long = omega (arith, cleared_length s own_table accepted fits, fits)

  zeros : (i : ℕ) → i < table_bytes s → byte_at table i ≡ 0
  zeros = cleared_below s own_table accepted fits

  fine : Fine s accepted table
  fine = zero_fine s accepted table long zeros

  -- a loop can be reached from state 0
  module _ (e : loop_free plan 0 ≡ false) where
    finds_loop : closest_of s table ≡ Err (Refused Loop)
    unfolding closest_of
    finds_loop =
        ap (λ (c : Check). answer_closest (closest_found s table) (visits_of (searched s table)) c (count_right s table))
        (query_fails s accepted table 0 (rw (lt-ltb 0 (state_count plan) starts, e) refl)) ∙ rw (lt-ltb 0 (state_count plan) starts) refl

    right_loop : RightAnswer s (closest_of s table)
    right_loop = subst (RightAnswer s) (sym finds_loop) (RightAnswer.loops accepted (loop_reachable plan bodies.plan_kept 0 starts e))

  -- none can
  module _ (e : loop_free plan 0 ≡ true) where
    first : Takes s accepted 0
    first = rw (lt-ltb 0 (state_count plan) starts, e) refl

    judgeable : Judgeable s
    judgeable = record { accepted = accepted; no_loop = (free_exactly_at plan bodies.plan_kept 0 starts).0 e }

    verdict : {n t : ℕ} → WayOf plan n t → (holds_by s table t ≡ true) ↔ Verdict s t
    verdict {t = t} w =
        let valid = takes_valid s accepted t (way_taken s accepted e w) in
        let clear : (i : ℕ) → i < cell_bytes s → byte_at (cells_in s table) i ≡ 0 = λ i h. cells_byte s table i h ∙ zeros i (omega arith) in
        let same = cleared_value (solvable bodies) (cells_in s table) (omega (arith, cells_length s table long)) clear (cell 0 0 t) valid in
        subst (λ (b : Bool). (b ≡ true) ↔ Verdict s t) (sym same) (table1 s accepted t valid)

    by_found : (n : ℕ) (f : Found) → Says plan (holds_by s table) f → ClosestCorrect s table (reported_closest (answer_found f n)) (table_searched s table)
        → RightAnswer s (answer_found f n)
    by_found n everywhere g correct =
        RightAnswer.holds_everywhere judgeable (λ t r. let w = (reachable_exactly plan t).1 r in (verdict w.1).0 (g t w)) correct
    by_found n (fails_at x) g correct =
        RightAnswer.fails_first judgeable g.0 (λ v. true≢false (sym ((verdict g.0.way).1 v) ∙ g.1)) (λ t m c b. (verdict c.way).0 (g.2 t m c b))
        (way_leads plan x.steps x.state g.0) (way_length plan x.steps x.state) correct

    right_found : RightAnswer s (closest_of s table)
    right_found =
        let is = closest-is s accepted first table fine in
        let n = visits_of (searched s table) in
        subst (RightAnswer s) (sym is)
        (by_found n (closest_found s table) (says plan bodies.plan_kept (holds_by s table))
        (subst (λ (r : ClosestAnswer). ClosestCorrect s table (reported_closest r) (table_searched s table)) is
        (closest_correct.accepted s table (closest_of s table) (table_searched s table) (refl, (refl, refl))
        (ap (λ (r : ClosestAnswer). (reported_closest r).number) is ∙ numbered (closest_found s table) n))))
      where
        numbered : (f : Found) (n : ℕ) → (reported_closest (answer_found f n)).number ≡ 0
        numbered everywhere n = refl
        numbered (fails_at x) n = refl

  right_accepted : (b : Bool) → loop_free plan 0 ≡ b → RightAnswer s (program_of s)
  right_accepted true e = subst (RightAnswer s) (sym program_finds) (right_found e)
  right_accepted false e = subst (RightAnswer s) (sym program_finds) (right_loop e)

pub program_correct : ProgramCorrect
program_correct s = go (sheet_check s) refl
  where
    go : (c : Check) → sheet_check s ≡ c → RightAnswer s (program_of s)
    go (Ok tt) e = right_accepted s e (loop_free (plan_body s) 0) refl
    go (Err x) e = subst (RightAnswer s) (sym (program_refuses s x e)) (RightAnswer.unreadable e)

pub program_refusals : ProgramRefusals
program_refusals s = go (program_correct s)
  where
    go : {r : ClosestAnswer} → RightAnswer s r → ((reported_closest r).number ≤ 10) ⊎ ((reported_closest r).number ≡ 12)
    go (RightAnswer.unreadable e) = inl (low_refusal s e)
    go (RightAnswer.loops a l) = inr refl
    go (RightAnswer.holds_everywhere j h c) = inl (omega arith)
    go (RightAnswer.fails_first j c f b l e q) = inl (omega arith)
