-- A loop is answered exactly for a state of a well-formed plan from which one can be reached.
use Prim.Native.Nat.{ℕ, ◌<◌}
use mathlib.Core.Bool.{Bool, true, false, not}
use mathlib.Core.List.{List}
use mathlib.Core.Path.{◌≡◌, refl}
use lib.Dec.{ltb}
use borrow.Author.Tests.{ltb-true, lt-ltb}
use Rattle.sheet.specs.Plan.{state_count}
use Rattle.sheet.specs.Reading.{plan_check}
use Rattle.sheet.specs.Refusals.{require, and_then}
use Rattle.sheet.specs.WellFormed.{WellFormedPlan}
use Rattle.sheet.specs.declared.Refusal.{Refusal}
use Rattle.sheet.specs.declared.Refusal.TheVariants.{NoSuchState}
use Rattle.std.specs.Prelude.{Err, Ok}
use Rattle.sheet.specs.Refusals.{Check}
use Rattle.sheet.proofs.Acceptance.Plan.{plan_iff}
use Rattle.rows.proofs.Tables.Among.{false_if}
use Rattle.graph.specs.LoopSearch.{LoopSearch, loop_search_check, answer_loop_search, loop_search_of, LoopFoundExactly}
use Rattle.graph.specs.Loops.{LoopReachable}
use Rattle.graph.specs.LoopTest.{loop_free}
use Rattle.graph.specs.Successors.{successors}
use Rattle.graph.proofs.Looptest.LoopFree.{free_exactly_at, loop_reachable}

module _ (p : List ℕ) (state : ℕ) where
  -- what an answer of the test says of a state
  abbrev Ahead : Bool → Type 0
  Ahead true = LoopReachable (successors p) state → ⊥
  Ahead false = LoopReachable (successors p) state

  abbrev Reached : Bool → Type 0
  Reached free = WellFormedPlan p × (state < state_count p) × Ahead free

  ahead : WellFormedPlan p → state < state_count p → (free : Bool) → loop_free p state ≡ free → Ahead free
  ahead kept h true e = (free_exactly_at p kept state h).0 e
  ahead kept h false e = loop_reachable p kept state h e

  tested : (free : Bool) → Reached free → loop_free p state ≡ free
  tested true r = (free_exactly_at p r.0 state r.1).1 r.2
  tested false r = false_if (loop_free p state) (λ e. (free_exactly_at p r.0 state r.1).0 e r.2)

  -- the answer without a refusal
  abbrev answer_of : Bool → LoopSearch
  answer_of free = Ok (not free)

  same_answer : (a b : Bool) → answer_of a ≡ answer_of b → a ≡ b
  same_answer true true e = refl
  same_answer true false e = cc
  same_answer false true e = cc
  same_answer false false e = refl

  not_refused : (x : Refusal) (b : Bool) → Err x ≡ answer_of b → ⊥
  not_refused x b e = cc

  reached : (free : Bool) → loop_search_of p state ≡ answer_of free → Reached free
  unfolding loop_search_of loop_search_check
  reached free e = by_plan (plan_check p) refl e
    where
      by_state : plan_check p ≡ Ok tt → (b : Bool) → ltb state (state_count p) ≡ b
          → answer_loop_search (loop_free p state) (require b NoSuchState) ≡ answer_of free → Reached free
      by_state q true h e =
          let kept = (plan_iff p).0 q in
          let below = ltb-true state (state_count p) h in
          (kept, below, ahead kept below free (same_answer (loop_free p state) free e))
      by_state q false h e = absurd (not_refused NoSuchState free e)

      by_plan : (c : Check) → plan_check p ≡ c
          → answer_loop_search (loop_free p state) (and_then c (require (ltb state (state_count p)) NoSuchState)) ≡ answer_of free → Reached free
      by_plan (Ok tt) q e = by_state q (ltb state (state_count p)) refl e
      by_plan (Err x) q e = absurd (not_refused x free e)

  answered : (free : Bool) → Reached free → loop_search_of p state ≡ answer_of free
  unfolding loop_search_of loop_search_check
  answered free r = rw ((plan_iff p).1 r.0, lt-ltb state (state_count p) r.1, tested free r)

pub loop_found_exactly : LoopFoundExactly
loop_found_exactly = record {
  found = λ p state. (reached p state false, answered p state false);
  free = λ p state. (reached p state true, answered p state true);
}
