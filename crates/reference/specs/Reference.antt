-- Document 01, "Reference judge": "It takes a sheet and gives a 64-bit word: bit s is set exactly when state s is in the meaning of the
-- rule by Table 1 .. Bits from S up are 0. Loops are allowed. It may be slow; it ends."
use Rattle.std.specs.Prelude.{ℕ, zero, suc, ◌+◌, ◌^◌, ◌<◌, ◌≤◌, ◌≡◌, Bool, true, List, ◌↔◌, ltb, Result, Err, Ok}
use Rattle.sheet.specs.Bytes.{pick}
use Rattle.sheet.specs.Refusals.{number_of, place_of}
use Rattle.sheet.specs.Contents.{plan_body, actions_body, rule_body}
use Rattle.sheet.specs.Plan.{state_count}
use Rattle.sheet.specs.Reading.{sheet_check}
use Rattle.sheet.specs.Refusals.{Check}
use Rattle.sheet.specs.declared.Refusal.{Refusal}
use Rattle.sheet.specs.declared.Refusal.TheVariants.{TooManyStates}
use Rattle.sheet.specs.TransitionSystem.{plan_of}
use Rattle.calculus.specs.Decode.{formula}
use Rattle.calculus.specs.Verdict.{empty_context, Verdict}
use Rattle.calculus.specs.MeetingMask.{bit}
use Rattle.calculus.specs.Eval.{eval}

-- The states in the meaning of the rule, as a set, read below S. `eval` goes by the lines of Table 1, a least fixed point by S rounds from
-- the empty set and a greatest by S rounds from the full set; that this is Table 1's meaning is EvalMeaning of the crate calculus.
unfoldable pub in_meaning : List ℕ → ℕ → Bool
in_meaning s = eval (plan_of (plan_body s)) (formula (actions_body s) (rule_body s) 0) empty_context

-- "bit s is set exactly when state s is in": the sum of 2 ^ t over the members t of a set below S
unfoldable pub word_up_to : ℕ → (ℕ → Bool) → ℕ
word_up_to zero U = 0
word_up_to (suc t) U = word_up_to t U + pick (U t) (2 ^ t) 0

-- "gives a 64-bit word": bit t for state t
unfoldable pub meaning_word : List ℕ → ℕ
meaning_word s = word_up_to (state_count (plan_body s)) (in_meaning s)

-- "the reference 1 to 10, then 13"; "13: S over 64 (reference only)"
abbrev pub answer_reference : List ℕ → Check → Result ℕ Refusal
answer_reference s (Ok tt) = pick (ltb 64 (state_count (plan_body s))) (Err TooManyStates) (Ok (meaning_word s))
answer_reference s (Err r) = Err r

-- the answer for every list of bytes
unfoldable pub reference_of : List ℕ → Result ℕ Refusal
reference_of s = answer_reference s (sheet_check s)

-- What each answer reports: number, place and the word. "A refused call gives .. word .. 0"; "An accepted call gives number 0 and place 0."
pub record ReferenceReport : Type 0 where
  pub number : ℕ
  pub place : ℕ
  pub word : ℕ

-- number, place and word of each answer
abbrev pub reported_reference : Result ℕ Refusal → ReferenceReport
reported_reference (Ok w) = record { number = 0; place = 0; word = w }
reported_reference (Err r) = record { number = number_of r; place = place_of r; word = 0 }

-- what the reference judge reports for every list of bytes
abbrev pub reference_report_of : List ℕ → ReferenceReport
reference_report_of s = reported_reference (reference_of s)

-- The same against Table 1 itself: the answer is a word, and "bit s is set exactly when state s is in the meaning of the rule by Table 1
-- (least: the intersection of all sets that their own image lies inside; greatest: the union of all sets that lie inside their own
-- image). Bits from S up are 0." Verdict holds of no number from S up.
pub record MeaningWord (s : List ℕ) (r : Result ℕ Refusal) : Type 0 where
  pub word : ℕ
  pub is : r ≡ Ok word
  pub bits : (t : ℕ) → (bit word t ≡ true) ↔ Verdict s t

-- for every list of bytes: an accepted sheet of at most 64 states has such an answer, any other its refusal
pub record ByTable1 (s : List ℕ) (r : Result ℕ Refusal) : Type 0 where
  pub accepted : sheet_check s ≡ Ok tt → state_count (plan_body s) ≤ 64 → MeaningWord s r
  pub large : sheet_check s ≡ Ok tt → 64 < state_count (plan_body s) → r ≡ Err TooManyStates
  pub refused : (x : Refusal) → sheet_check s ≡ Err x → r ≡ Err x

-- `reference` on the sheet s answered r: the clauses of its contract. That such an answer is right by Table 1 is demand 2.
abbrev pub References : List ℕ → Result ℕ Refusal → Type 0
References s r = (r ≡ reference_of s) × (reported_reference r ≡ reference_report_of s)
