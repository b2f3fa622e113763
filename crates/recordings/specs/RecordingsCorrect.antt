-- Document 02 (j), of every call of `shortest_failing`: which number it gives, exactly, which recording it names and what it hands back.
-- Shown by recordings_correct of proofs/Statements/RecordingsCorrect.antt.
use Rattle.std.specs.Prelude.{ℕ, ◌<◌, ◌≤◌, ◌≡◌, true, ◌↔◌, ◌≢◌, ◌⊎◌, length}
use mathlib.Core.List.{List, [], Memᴰ}
use Rattle.sheet.specs.Contents.{plan_body, actions_body, rule_body}
use Rattle.sheet.specs.Plan.{action_count}
use Rattle.sheet.specs.RefusalOrder.{GivenInOrder}
use Rattle.sheet.specs.WellFormed.{WellFormedSheet}
use Rattle.recordings.specs.Runs.{HoldsOn, Beginning, most_actions, ActionsBelow, WellFormedRun}
use Rattle.recordings.specs.Shortest.{holds_on, reported_shortest, HandsBack}
use Rattle.recordings.specs.RunAsSheet.{RunAsSheet}
use Rattle.recordings.specs.Shortest.{Answer}
use Rattle.recordings.specs.declared.Failing.TheVariants.{First, Second}
use Rattle.std.specs.Prelude.{Some, None, Ok}

-- what the contract computes is Table 1's meaning on the chain, of every run whose actions are below A, whatever its length
abbrev pub HoldsExactly : Type 0
HoldsExactly = (s run : List ℕ) → ActionsBelow s run → (holds_on s run ≡ true) ↔ HoldsOn s run

-- ---- what the numbers ask

-- 42: "a run over 127 actions", either
abbrev pub LongRun : List ℕ → List ℕ → Type 0
LongRun first second = (most_actions < length first) ⊎ (most_actions < length second)

-- 43: "an action not below A", in either
pub record ActionOver (s first second : List ℕ) : Type 0 where
  pub action : ℕ
  pub among : Memᴰ action first ⊎ Memᴰ action second
  pub over : action_count (plan_body s) ≤ action

-- neither 1 to 10, nor 42, nor 43
pub record NotRefused (s first second : List ℕ) : Type 0 where
  pub accepted : WellFormedSheet s
  pub first_kept : WellFormedRun s first
  pub second_kept : WellFormedRun s second

-- ---- the part

-- "from either recording": b is a beginning of one of the two
abbrev pub BeginningOfEither : List ℕ → List ℕ → List ℕ → Type 0
BeginningOfEither first second b = Beginning b first ⊎ Beginning b second

-- "the shortest beginning, taken from either recording, on which the rule fails": b is a beginning of the recording named, the rule fails
-- on it, and holds on every shorter beginning of both. It is a counterexample of least length, and not always a bad prefix in the sense
-- of safety properties: on a longer beginning the rule may hold again.
pub record ShortestFailing (s named other b : List ℕ) : Type 0 where
  pub beginning : Beginning b named
  pub fails : HoldsOn s b → ⊥
  pub shorter : (c : List ℕ) → BeginningOfEither named other c → length c < length b → HoldsOn s c

-- "between equal lengths, the first recording's": where the second's is handed back, the rule holds on the first's of equal length
abbrev pub FirstHolds : List ℕ → List ℕ → List ℕ → Type 0
FirstHolds s first b = (c : List ℕ) → Beginning c first → length c ≡ length b → HoldsOn s c

-- "the rule holds on every beginning of both"
abbrev pub AllHold : List ℕ → List ℕ → List ℕ → Type 0
AllHold s first second = (c : List ℕ) → BeginningOfEither first second c → HoldsOn s c

-- ---- the call

-- `shortest_failing` on the sheet s and the two recordings answered so, and handed back the part
pub record ShortestAnswered (s first second : List ℕ) (answer : Answer) (part : List ℕ) : Type 0 where
  -- document 01: "They apply in rising order.": 1 to 10, each with its place
  pub in_order : GivenInOrder s (reported_shortest answer).number (reported_shortest answer).place
  -- "It refuses a run over 127 actions with 42 .., after 1 to 10"
  pub forty_two : ((reported_shortest answer).number ≡ 42) ↔ (WellFormedSheet s × LongRun first second)
  -- "and an action not below A with 43"
  pub forty_three :
      ((reported_shortest answer).number ≡ 43) ↔ (WellFormedSheet s × ((LongRun first second → ⊥) × ActionOver s first second))
  -- not refused; "the sheet's own plan may loop here": no loop is asked about
  pub judged : ((reported_shortest answer).number ≡ 0) ↔ NotRefused s first second
  -- document 01: "Other places are 0."; "An accepted call gives number 0 and place 0."
  pub place_none : WellFormedSheet s → (reported_shortest answer).place ≡ 0
  -- the length that is answered is that of the part
  pub size_is : (reported_shortest answer).size ≡ length part
  -- exactly where b is the shortest beginning on which the rule fails, and the first's, the first is named, with b's length, and b handed
  -- back
  pub first_named :
      (n : ℕ) (b : List ℕ)
      → ((answer ≡ Ok (Some (First n))) × (part ≡ b)) ↔ (NotRefused s first second × ((n ≡ length b) × ShortestFailing s first second b))
  -- exactly where it is the second's, and the first has none of equal length on which the rule fails, the second is named
  pub second_named :
      (n : ℕ) (b : List ℕ)
      → ((answer ≡ Ok (Some (Second n))) × (part ≡ b))
      ↔ (NotRefused s first second × ((n ≡ length b) × (ShortestFailing s second first b × FirstHolds s first b)))
  -- 'The answer "none fails" comes .. exactly when the rule holds on every beginning of both.'
  pub none_fails : (answer ≡ Ok None) ↔ (NotRefused s first second × AllHold s first second)
  -- "with an empty part"; that it is "of the first recording" the contract says, by taken_from of specs/Shortest.antt
  pub none_part : answer ≡ Ok None → part ≡ []
  -- document 01: "A refused call gives .. lengths and any further result number 0, any part handed back empty"
  pub refused : (reported_shortest answer).number ≢ 0 → ((reported_shortest answer).size ≡ 0) × (part ≡ [])

-- "the sheet's own plan may loop here": two accepted sheets that differ in their plans, but not in A, get the same answer and part
abbrev pub OwnPlanUnused : Type 0
OwnPlanUnused =
    (s t : List ℕ) → WellFormedSheet s → WellFormedSheet t → action_count (plan_body s) ≡ action_count (plan_body t)
    → actions_body s ≡ actions_body t → rule_body s ≡ rule_body t
    → (first second : List ℕ) (answer : Answer) (part : List ℕ) → HandsBack s first second answer part
    → HandsBack t first second answer part

-- of every call, with what the contract computes and what the chain's sheet is
pub record RecordingsCorrect : Type 0 where
  pub computed : HoldsExactly
  pub as_sheet : RunAsSheet
  pub hands_back :
      (s first second : List ℕ) (answer : Answer) (part : List ℕ) → HandsBack s first second answer part
      → ShortestAnswered s first second answer part
  pub own_plan : OwnPlanUnused
