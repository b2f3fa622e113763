-- Document 02 (m): the closest state that breaks the rule. What the call answers and what it leaves in the table's buffer, for every list
-- of bytes as sheet and as buffer.
use Rattle.std.specs.Prelude.{ℕ, ◌≡◌, Bool, true, false, List, [], ◌∷◌, map, Option, None, Some, Result, Ok, Err}
use Rattle.sheet.specs.Bytes.{pick}
use Rattle.sheet.specs.Contents.{plan_body}
use Rattle.sheet.specs.Refusals.{Check, number_of, place_of}
use Rattle.rows.specs.Tables.{Result as CellResult, visits}
use Rattle.judge.specs.Querying.{error_number, error_place, query_check, count_right, left_by}
use Rattle.judge.specs.InTurn.{holds_by, result_in_turn}
use Rattle.closest.specs.Steps.{Reached, reachable_states}
use Rattle.judge.specs.declared.QueryError.{QueryError}
use Rattle.judge.specs.declared.QueryError.TheVariants.{WrongCount, Refused}
use Rattle.closest.specs.declared.Closest.{Closest}
use Rattle.closest.specs.declared.Failing.{Failing}

-- "holds everywhere", or "the state where the rule fails .. and that step count"
pub data Found : Type 0 where
  everywhere : Found
  fails_at : Reached → Found

-- the states of a list
abbrev pub states_of : List Reached → List ℕ
states_of l = map (λ x. x.state) l

-- the first of a list at which a value is false
unfoldable pub first_failing : (ℕ → Bool) → List Reached → Found
first_failing v [] = everywhere
first_failing v (x ∷ l) = pick (v x.state) (first_failing v l) (fails_at x)

-- "the reachable states taken by step count, then number"
abbrev pub states_in_order : List ℕ → List ℕ
states_in_order s = states_of (reachable_states (plan_body s))

-- "Give the state where the rule fails with the fewest steps from state 0, the lowest number between equals, and that step count."; "On a
-- table from elsewhere the changed rows say where the rule fails": by the rows as the table t changes them
abbrev pub closest_found : List ℕ → List ℕ → Found
closest_found s t = first_failing (holds_by s t) (reachable_states (plan_body s))

-- "The cells filled, each with its own solution, are exactly the empty ones needed for the reachable states taken by step count, then
-- number, up to the answer, or for all of them where none fails": as queries of these states in turn, up to the first whose verdict is
-- false
abbrev pub searched : List ℕ → List ℕ → CellResult
searched s t = result_in_turn s (states_in_order s) t

-- what the call answers
abbrev pub ClosestAnswer : Type 0
ClosestAnswer = Result Closest QueryError

-- the state and its steps, None where the rule holds everywhere
abbrev pub first_of : Found → Option Failing
first_of everywhere = None
first_of (fails_at x) = Some (record { state = record { 0 = x.state }; steps = x.steps })

-- an answer, with the number of cells filled
abbrev pub answer_found : Found → ℕ → ClosestAnswer
answer_found f n = Ok (record { first = first_of f; visits = n })

-- "Refusals go as for a query of state 0": 1 to 12, 20 and 21, then 35
abbrev pub answer_closest : Found → ℕ → Check → Bool → ClosestAnswer
answer_closest f n (Ok tt) true = answer_found f n
answer_closest f n (Ok tt) false = Err WrongCount
answer_closest f n (Err x) right = Err (Refused x)

-- the answer for every sheet and table
unfoldable pub closest_of : List ℕ → List ℕ → ClosestAnswer
closest_of s t = answer_closest (closest_found s t) (visits (searched s t)) (query_check s 0 t) (count_right s t)

-- the table that the call leaves: "and the count grows by those cells"; a refused call changes nothing
unfoldable pub table_searched : List ℕ → List ℕ → List ℕ
table_searched s t = left_by s (searched s t) t (query_check s 0 t) (count_right s t)

-- What each answer reports: number and place; whether a reachable state breaks the rule, its number and its steps, 0 where none does; and
-- how many cells were filled, the visits. "A refused call gives .. any further result number 0".
pub record ClosestReport : Type 0 where
  pub number : ℕ
  pub place : ℕ
  pub found : Bool
  pub state : ℕ
  pub steps : ℕ
  pub visits : ℕ

-- what a refused call reports
abbrev pub refused_report : ℕ → ℕ → ClosestReport
refused_report number place = record { number = number; place = place; found = false; state = 0; steps = 0; visits = 0 }

-- what an accepted call reports
abbrev pub reported_first : Option Failing → ℕ → ClosestReport
reported_first None n = record { number = 0; place = 0; found = false; state = 0; steps = 0; visits = n }
reported_first (Some f) n = record { number = 0; place = 0; found = true; state = f.state.0; steps = f.steps; visits = n }

-- the parts of each answer
abbrev pub reported_closest : ClosestAnswer → ClosestReport
reported_closest (Ok c) = reported_first c.first c.visits
reported_closest (Err e) = refused_report (error_number e) (error_place e)

-- what is reported for every sheet and table
abbrev pub closest_report_of : List ℕ → List ℕ → ClosestReport
closest_report_of s t = reported_closest (closest_of s t)

-- The contract of `find_closest`: a call on the sheet s and the table t answered r and left u. ClosestCorrect speaks of it.
abbrev pub Finds : List ℕ → List ℕ → ClosestAnswer → List ℕ → Type 0
Finds s t r u = (r ≡ closest_of s t) × ((reported_closest r ≡ closest_report_of s t) × (u ≡ table_searched s t))
