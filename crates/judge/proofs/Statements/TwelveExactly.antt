-- A query gives 12 exactly for an accepted sheet, at a state that it has, from which a loop can be reached.
use Rattle.std.proofs.Common.{◌≡◌, ℕ, ◌<◌, ◌≤◌, Bool, true, false, leb, List, length, sym, refl, ◌∙◌, arith, le-ltb, lt-ltb}
use native.Mathlib.Decide.{dec_lt}
use Rattle.sheet.specs.Contents.{plan_body}
use Rattle.sheet.specs.Plan.{state_count}
use Rattle.sheet.proofs.Acceptance.Numbers.{low_refusal}
use Rattle.sheet.specs.Refusals.{number_of, require, and_then}
use Rattle.sheet.specs.Reading.{sheet_check}
use Rattle.sheet.specs.declared.Refusal.{Refusal}
use Rattle.sheet.specs.declared.Refusal.TheVariants.{TableShort, TableByte}
use Rattle.std.specs.Prelude.{Err, Ok}
use Rattle.sheet.specs.Refusals.{Check}
use Rattle.sheet.specs.WellFormed.{WellFormedPlan}
use Rattle.graph.specs.Loops.{LoopReachable}
use Rattle.graph.specs.Successors.{successors}
use Rattle.judge.specs.Cells.{cell_bytes, table_bytes}
use Rattle.graph.specs.LoopTest.{loop_free}
use Rattle.judge.specs.Querying.{bytes_right, query_check, count_right, result_of, answer_queried, queried_of, reported_query, query_report_of, TwelveExactly}
use Rattle.graph.proofs.Looptest.LoopFree.{free_exactly_at, loop_reachable}
use Rattle.sheet.proofs.Acceptance.Parts.{bodies_kept}

-- what a query reports where the sheet is accepted and has the state
module _ (s : List ℕ) (state : ℕ) (t : List ℕ) (accepted : sheet_check s ≡ Ok tt) (h : state < state_count (plan_body s)) where
  abbrev last_checks : Check
  last_checks = and_then (require (leb (table_bytes s) (length t)) TableShort) (require (bytes_right (cell_bytes s) t) TableByte)

  looping : loop_free (plan_body s) state ≡ false → (query_report_of s state t).number ≡ 12
  unfolding queried_of query_check
  looping e = rw (accepted, lt-ltb state (state_count (plan_body s)) h, e)

  not_looping : loop_free (plan_body s) state ≡ true → (query_report_of s state t).number ≡ 12 → ⊥
  unfolding queried_of query_check
  not_looping e n = later (leb (table_bytes s) (length t)) (bytes_right (cell_bytes s) t) (count_right s t) (sym other ∙ n)
    where
      other : (reported_query (answer_queried (result_of s state t) (query_check s state t) (count_right s t))).number ≡ (reported_query (answer_queried (result_of s state t) last_checks (count_right s t))).number
      other = rw (accepted, lt-ltb state (state_count (plan_body s)) h, e)

      later : (long right counted : Bool) → (reported_query (answer_queried (result_of s state t) (and_then (require long TableShort) (require right TableByte)) counted)).number ≡ 12 → ⊥
      later true true true n = omega arith
      later true true false n = omega arith
      later true false counted n = omega arith
      later false right counted n = omega arith

-- so a sheet that is not accepted, or has no such state, gives another number
not_accepted : (s : List ℕ) (state : ℕ) (t : List ℕ) (x : Refusal) → sheet_check s ≡ Err x → (query_report_of s state t).number ≡ number_of x
unfolding queried_of query_check
not_accepted s state t x e = rw e

refused_other : (s : List ℕ) (state : ℕ) (t : List ℕ) (x : Refusal) → sheet_check s ≡ Err x → (query_report_of s state t).number ≡ 12 → ⊥
refused_other s state t x e n =
    let low : number_of x ≤ 10 = low_refusal s e in
    omega (arith, not_accepted s state t x e, n)

no_state_holds : (s : List ℕ) (state : ℕ) (t : List ℕ) → sheet_check s ≡ Ok tt → state_count (plan_body s) ≤ state → (query_report_of s state t).number ≡ 11
unfolding queried_of query_check
no_state_holds s state t e h = rw (e, le-ltb state (state_count (plan_body s)) h)

pub twelve_exactly : TwelveExactly
twelve_exactly s state t = (λ n. forth (sheet_check s) refl n, λ l. back l.0 l.1 (loop_free (plan_body s) state) refl l.2)
  where
    kept : sheet_check s ≡ Ok tt → WellFormedPlan (plan_body s)
    kept accepted = (bodies_kept s accepted).plan_kept

    looped : (accepted : sheet_check s ≡ Ok tt) → state < state_count (plan_body s) → (b : Bool) → loop_free (plan_body s) state ≡ b → (query_report_of s state t).number ≡ 12 → LoopReachable (successors (plan_body s)) state
    looped accepted h true e n = absurd (not_looping s state t accepted h e n)
    looped accepted h false e n = loop_reachable (plan_body s) (kept accepted) state h e

    forth : (c : Check) → sheet_check s ≡ c → (query_report_of s state t).number ≡ 12 → (sheet_check s ≡ Ok tt) × (state < state_count (plan_body s)) × LoopReachable (successors (plan_body s)) state
    forth (Ok tt) e n = elim (dec_lt state (state_count (plan_body s))) [
      | yes h ↦ (e, h, looped e h (loop_free (plan_body s) state) refl n)
      | no h ↦ absurd (omega (arith, no_state_holds s state t e (omega arith), n))
    ]
    forth (Err x) e n = absurd (refused_other s state t x e n)

    back : sheet_check s ≡ Ok tt → state < state_count (plan_body s) → (b : Bool) → loop_free (plan_body s) state ≡ b → LoopReachable (successors (plan_body s)) state → (query_report_of s state t).number ≡ 12
    back accepted h true e l = absurd ((free_exactly_at (plan_body s) (kept accepted) state h).0 e l)
    back accepted h false e l = looping s state t accepted h e
