-- Document 02 (m): one shortest way from state 0 to a state, such as the "closest state that breaks the rule". What the call answers and
-- what it leaves in the output buffer, for every list of bytes as sheet and as buffer and for every state.
use Rattle.std.specs.Prelude.{ℕ, zero, suc, ◌*◌, ◌≡◌, Bool, true, false, ◌&&◌, List, [], ◌∷◌, ◌++◌, length, drop, eqb, ltb, leb, Option, None, Some, Result, Ok, Err}
use Rattle.sheet.specs.Bytes.{pick, lowest}
use Rattle.sheet.specs.Contents.{plan_body}
use Rattle.sheet.specs.Plan.{state_count, transition_count, origin, target}
use Rattle.sheet.specs.Reading.{sheet_check}
use Rattle.sheet.specs.Refusals.{Check, number_of, place_of, require, and_then}
use Rattle.sheet.specs.TransitionSystem.{LabelledTransition, transition_of}
use Rattle.sheet.specs.declared.Refusal.{Refusal}
use Rattle.sheet.specs.declared.Refusal.TheVariants.{NoSuchState, OutputShort}
use Rattle.closest.specs.Steps.{at_steps}

-- ---- the way; p is the body of a plan

-- the step count of a state; none has more than S steps, and S + 1 says that no way leads there
unfoldable pub step_count : List ℕ → ℕ → ℕ
step_count p t = lowest (λ n. at_steps p n t) (suc (state_count p))

-- a way leads there
abbrev pub is_reached : List ℕ → ℕ → Bool
is_reached p t = leb (step_count p t) (state_count p)

-- transition i leads to t from a state of n steps
abbrev pub arrives : List ℕ → ℕ → ℕ → ℕ → Bool
arrives p n t i = at_steps p n (origin p i) && eqb (target p i) t

-- the last transition of the way to a state of n + 1 steps: of those that lead to it from a state of n steps the lowest-numbered
unfoldable pub last_transition : List ℕ → ℕ → ℕ → ℕ
last_transition p n t = lowest (arrives p n t) (transition_count p)

-- the way to a state of n steps: the way to the state that the last transition leaves, and then that transition
unfoldable pub way_to : List ℕ → ℕ → ℕ → List LabelledTransition
way_to p zero t = []
way_to p (suc n) t = way_to p n (origin p (last_transition p n t)) ++ (transition_of p (last_transition p n t) ∷ [])

-- document 01: "transitions of three bytes: from, action, to"
unfoldable pub way_bytes : List LabelledTransition → List ℕ
way_bytes [] = []
way_bytes (x ∷ l) = x.origin ∷ x.action ∷ x.target ∷ way_bytes l

-- ---- the call

-- "1 to 10", then "11: queried state not below S."
unfoldable pub trace_check : List ℕ → ℕ → Check
trace_check s state = and_then (sheet_check s) (require (ltb state (state_count (plan_body s))) NoSuchState)

-- what the call answers: the steps of the way, None where none leads there
abbrev pub Traced : Type 0
Traced = Result (Option ℕ) Refusal

-- of a state of n steps: "22: output buffer too short", for three bytes a step, else the way
abbrev pub answer_steps : ℕ → ℕ → Traced
answer_steps n room = pick (leb (3 * n) room) (Ok (Some n)) (Err OutputShort)

-- "They apply in rising order"; of a state that can't be reached there is nothing to write
abbrev pub answer_traced : Bool → ℕ → ℕ → Check → Traced
answer_traced reached n room (Ok tt) = pick reached (answer_steps n room) (Ok None)
answer_traced reached n room (Err x) = Err x

-- the answer for every sheet and state and an output of so many bytes
unfoldable pub traced_of : List ℕ → ℕ → ℕ → Traced
traced_of s state room = answer_traced (is_reached (plan_body s) state) (step_count (plan_body s) state) room (trace_check s state)

-- the way at the start of the output; document 02 (c), "Here and in later requests": "output bytes past what is written stay unchanged";
-- document 01: a refused call "changes no buffer"
abbrev pub leaves : List ℕ → List ℕ → Traced → List ℕ
leaves way out (Ok (Some n)) = way ++ drop (3 * n) out
leaves way out (Ok None) = out
leaves way out (Err x) = out

-- the output that the call leaves, for every sheet, state and output
unfoldable pub output_traced : List ℕ → ℕ → List ℕ → List ℕ
output_traced s state out =
    leaves (way_bytes (way_to (plan_body s) (step_count (plan_body s) state) state)) out (traced_of s state (length out))

-- What each answer reports: number and place; whether a way leads to the state, and its steps, 0 where none does. "A refused call gives ..
-- any further result number 0".
pub record TraceReport : Type 0 where
  pub number : ℕ
  pub place : ℕ
  pub reached : Bool
  pub steps : ℕ

-- the parts of each answer
abbrev pub reported_trace : Traced → TraceReport
reported_trace (Ok (Some n)) = record { number = 0; place = 0; reached = true; steps = n }
reported_trace (Ok None) = record { number = 0; place = 0; reached = false; steps = 0 }
reported_trace (Err r) = record { number = number_of r; place = place_of r; reached = false; steps = 0 }

-- what is reported for every sheet and state and an output of so many bytes
abbrev pub trace_report_of : List ℕ → ℕ → ℕ → TraceReport
trace_report_of s state room = reported_trace (traced_of s state room)

-- The contract of `shortest_way`: a call on the sheet s, the state and the output out answered r and left after. TraceCorrect speaks of it.
abbrev pub Traces : List ℕ → ℕ → List ℕ → Traced → List ℕ → Type 0
Traces s state out r after =
    (r ≡ traced_of s state (length out)) × ((reported_trace r ≡ trace_report_of s state (length out)) × (after ≡ output_traced s state out))
