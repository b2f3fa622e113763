-- Document 02 (j): "Hand back the shortest beginning, taken from either recording, on which the rule fails". What the call answers and
-- hands back, for every sheet and every two recordings.
use Rattle.std.specs.Prelude.{ℕ, suc, ◌≡◌, Bool, not, ◌&&◌, ◌||◌, List, length, take, eqb, leb, Err, Ok, Some, None, Option, Result}
use Rattle.sheet.specs.Bytes.{byte, pick, lowest}
use Rattle.sheet.specs.Contents.{plan_body, actions_body, rule_body}
use Rattle.sheet.specs.Plan.{action_count}
use Rattle.sheet.specs.Reading.{sheet_check}
use Rattle.sheet.specs.Refusals.{number_of, place_of}
use Rattle.sheet.specs.Refusals.{Check}
use Rattle.calculus.specs.Decode.{formula}
use Rattle.calculus.specs.Eval.{eval}
use Rattle.calculus.specs.Verdict.{empty_context}
use Rattle.recordings.specs.Runs.{chain, most_actions}
use Rattle.recordings.specs.declared.Failing.{Failing}
use Rattle.recordings.specs.declared.RecordingError.{RecordingError}
use Rattle.recordings.specs.declared.Failing.TheVariants.{First, Second}
use Rattle.recordings.specs.declared.RecordingError.TheVariants.{RunTooLong, NoSuchAction, Refused}

-- ---- the rule on a run

-- HoldsOn of specs/Runs.antt computed, as specs/Eval.antt of the crate calculus computes Table 1 (HoldsExactly of
-- specs/RecordingsCorrect.antt)
unfoldable pub holds_on : List ℕ → List ℕ → Bool
holds_on s run = eval (chain (action_count (plan_body s)) run) (formula (actions_body s) (rule_body s) 0) empty_context 0

-- the recording has a beginning of n actions, and the rule fails on it
unfoldable pub fails_at : List ℕ → List ℕ → ℕ → Bool
fails_at s recording n = leb n (length recording) && not (holds_on s (take n recording))

-- ---- the refusals

-- neither is "a run over 127 actions"
abbrev pub runs_short : List ℕ → List ℕ → Bool
runs_short first second = leb (length first) most_actions && leb (length second) most_actions

-- action i of the run is "an action not below A"
abbrev pub over_at : ℕ → List ℕ → ℕ → Bool
over_at A run i = leb A (byte run i)

-- no action of the run is
unfoldable pub actions_below : ℕ → List ℕ → Bool
actions_below A run = eqb (lowest (over_at A run) (length run)) (length run)

-- no action of either run is
abbrev pub actions_in_range : List ℕ → List ℕ → List ℕ → Bool
actions_in_range s first second = actions_below (action_count (plan_body s)) first && actions_below (action_count (plan_body s)) second

-- ---- the answer

-- which recording the beginning handed back is of, and how many actions it has; that the rule fails on none; or why the call was turned down
abbrev pub Answer : Type 0
Answer = Result (Option Failing) RecordingError

-- "from either recording": one of the two has a beginning of n actions on which the rule fails
abbrev pub either_fails : List ℕ → List ℕ → List ℕ → ℕ → Bool
either_fails s first second n = fails_at s first n || fails_at s second n

-- "the shortest beginning, taken from either recording, on which the rule fails": how many actions it has; 128 where there is none
unfoldable pub fewest : List ℕ → List ℕ → List ℕ → ℕ
fewest s first second = lowest (either_fails s first second) (suc most_actions)

-- "between equal lengths, the first recording's"; 'The answer "none fails"'
abbrev pub answer_fewest : ℕ → Bool → Answer
answer_fewest n of-first = pick (leb n most_actions) (pick of-first (Ok (Some (First n))) (Ok (Some (Second n)))) (Ok None)

-- the answer where nothing is refused
abbrev pub answer_found : List ℕ → List ℕ → List ℕ → Answer
answer_found s first second = answer_fewest (fewest s first second) (fails_at s first (fewest s first second))

-- "a run over 127 actions with 42 and an action not below A with 43"
abbrev pub answer_runs : Bool → Bool → Answer → Answer
answer_runs short in_range_lem next = pick short (pick in_range_lem next (Err NoSuchAction)) (Err RunTooLong)

-- the answer for an accepted sheet
abbrev pub answer_accepted : List ℕ → List ℕ → List ℕ → Answer
answer_accepted s first second = answer_runs (runs_short first second) (actions_in_range s first second) (answer_found s first second)

-- "after 1 to 10"
abbrev pub answer_sheet : Check → Answer → Answer
answer_sheet (Ok tt) next = next
answer_sheet (Err x) next = Err (Refused x)

-- the answer for every sheet and every two recordings
unfoldable pub shortest_of : List ℕ → List ℕ → List ℕ → Answer
shortest_of s first second = answer_sheet (sheet_check s) (answer_accepted s first second)

-- what an answer reports: number, place, and how many actions the part has; which recording it names is the answer's own case
pub record ShortestReport : Type 0 where
  pub number : ℕ
  pub place : ℕ
  pub size : ℕ

-- document 01: "An accepted call gives number 0 and place 0."; on a refusal its number and place, "lengths and any further result number 0"
abbrev pub reported_shortest : Answer → ShortestReport
reported_shortest (Ok (Some (First n))) = record { number = 0; place = 0; size = n }
reported_shortest (Ok (Some (Second n))) = record { number = 0; place = 0; size = n }
reported_shortest (Ok None) = record { number = 0; place = 0; size = 0 }
-- "a run over 127 actions with 42"; document 01: "Other places are 0."
reported_shortest (Err RunTooLong) = record { number = 42; place = 0; size = 0 }
-- "an action not below A with 43"
reported_shortest (Err NoSuchAction) = record { number = 43; place = 0; size = 0 }
reported_shortest (Err (Refused x)) = record { number = number_of x; place = place_of x; size = 0 }

-- "taken from either recording": the one that the part is of, an empty part too. '"none fails" comes with an empty part of the first
-- recording', and so does a refusal. The contract says so of the places in memory where the recordings and the part begin.
abbrev pub taken_from : {Place : Type 0} → Place → Place → Answer → Place
taken_from first second (Ok (Some (First n))) = first
taken_from first second (Ok (Some (Second n))) = second
taken_from first second (Ok None) = first
taken_from first second (Err RunTooLong) = first
taken_from first second (Err NoSuchAction) = first
taken_from first second (Err (Refused x)) = first

-- the part that goes with an answer: so many actions of that recording; document 01: a refused call gives "any part handed back empty"
abbrev pub part_for : List ℕ → List ℕ → Answer → List ℕ
part_for first second answer = take (reported_shortest answer).size (taken_from first second answer)

-- what is reported for every sheet and every two recordings
abbrev pub shortest_report_of : List ℕ → List ℕ → List ℕ → ShortestReport
shortest_report_of s first second = reported_shortest (shortest_of s first second)

-- Of the contract of `shortest_failing` all but the place where the part begins (taken_from): a call on the sheet s and the two recordings
-- answered so, and handed back the part. The theorems of specs/RecordingsCorrect.antt speak of it.
abbrev pub HandsBack : List ℕ → List ℕ → List ℕ → Answer → List ℕ → Type 0
HandsBack s first second answer part =
    (answer ≡ shortest_of s first second)
    × ((reported_shortest answer ≡ shortest_report_of s first second) × (part ≡ part_for first second (shortest_of s first second)))
