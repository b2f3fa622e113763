-- Whether a loop can be reached from a state of a plan: the answer and what it reports, for every list of bytes and every state.
use Rattle.std.specs.Prelude.{ℕ, ◌<◌, ◌≡◌, ◌↔◌, Bool, true, false, not, List, ltb, Result, Ok, Err}
use Rattle.sheet.specs.Plan.{state_count}
use Rattle.sheet.specs.Reading.{plan_check}
use Rattle.sheet.specs.WellFormed.{WellFormedPlan}
use Rattle.sheet.specs.Refusals.{number_of, place_of, require, and_then}
use Rattle.sheet.specs.declared.Refusal.{Refusal}
use Rattle.sheet.specs.declared.Refusal.TheVariants.{NoSuchState}
use Rattle.sheet.specs.Refusals.{Check}
use Rattle.graph.specs.LoopTest.{loop_free}
use Rattle.graph.specs.Loops.{LoopReachable}
use Rattle.graph.specs.Successors.{successors}

-- whether a loop can be reached, or the refusal
abbrev pub LoopSearch : Type 0
LoopSearch = Result Bool Refusal

-- refusals 4 and 5 of the plan, then 11: "queried state not below S"
unfoldable pub loop_search_check : List ℕ → ℕ → Check
loop_search_check p state = and_then (plan_check p) (require (ltb state (state_count p)) NoSuchState)

-- the answer by the test for loops, or the refusal
abbrev pub answer_loop_search : Bool → Check → LoopSearch
answer_loop_search free (Ok tt) = Ok (not free)
answer_loop_search free (Err r) = Err r

-- the answer for every plan and state
unfoldable pub loop_search_of : List ℕ → ℕ → LoopSearch
loop_search_of p state = answer_loop_search (loop_free p state) (loop_search_check p state)

-- What each answer reports: number, place, and whether a loop can be reached; on a refusal that is false, else number and place are 0.
pub record LoopSearchReport : Type 0 where
  pub number : ℕ
  pub place : ℕ
  pub loop : Bool

-- what each answer reports
abbrev pub reported_loop_search : LoopSearch → LoopSearchReport
reported_loop_search (Ok loop) = record { number = 0; place = 0; loop = loop }
reported_loop_search (Err r) = record { number = number_of r; place = place_of r; loop = false }

-- what is reported for every plan and state
abbrev pub loop_search_report_of : List ℕ → ℕ → LoopSearchReport
loop_search_report_of p state = reported_loop_search (loop_search_of p state)

-- A loop is answered exactly for a state of a well-formed plan from which one can be reached, and none exactly for one from which none
-- can (`loop_found_exactly` of proofs/Answers/LoopFoundExactly.antt).
pub record LoopFoundExactly : Type 0 where
  pub found :
      (p : List ℕ) (state : ℕ)
      → (loop_search_of p state ≡ Ok true) ↔ (WellFormedPlan p × (state < state_count p) × LoopReachable (successors p) state)
  pub free :
      (p : List ℕ) (state : ℕ)
      → (loop_search_of p state ≡ Ok false) ↔ (WellFormedPlan p × (state < state_count p) × (LoopReachable (successors p) state → ⊥))
