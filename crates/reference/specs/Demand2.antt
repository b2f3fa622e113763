-- Demand 2: document 01's "Reference judge", of every call of `reference`, and that sheet and bodies turn into each other without change.
-- It is shown by demand2 of proofs/Answers/Demand2.antt.
use Rattle.std.specs.Prelude.{ℕ, ◌<◌, ◌≤◌, ◌≡◌, List, ◌↔◌, ◌≢◌, Result, Err, Ok}
use Rattle.sheet.specs.Contents.{plan_body}
use Rattle.sheet.specs.Plan.{state_count}
use Rattle.sheet.specs.Reading.{sheet_check}
use Rattle.sheet.specs.Refusals.{number_of, place_of}
use Rattle.sheet.specs.RefusalOrder.{GivenInOrder}
use Rattle.sheet.specs.WellFormed.{WellFormedSheet}
use Rattle.sheet.specs.RoundTrip.{RoundTrip}
use Rattle.sheet.specs.declared.Refusal.{Refusal}
use Rattle.reference.specs.Reference.{meaning_word, ReferenceReport, reported_reference, ByTable1, References}

-- What the call reports, by what the sheet is: "An accepted call gives number 0 and place 0", with the word; "13: S over 64 (reference
-- only)"; else the reader's number and place. "Other places are 0. A refused call gives .. word .. 0".
pub record ReportedBySheet (s : List ℕ) (a : ReferenceReport) : Type 0 where
  pub accepted : sheet_check s ≡ Ok tt → state_count (plan_body s) ≤ 64 → a ≡ record { number = 0; place = 0; word = meaning_word s }
  pub large : sheet_check s ≡ Ok tt → 64 < state_count (plan_body s) → a ≡ record { number = 13; place = 0; word = 0 }
  pub refused : (x : Refusal) → sheet_check s ≡ Err x → a ≡ record { number = number_of x; place = place_of x; word = 0 }
  -- 0 and 13, exactly
  pub zero : (a.number ≡ 0) ↔ (WellFormedSheet s × (state_count (plan_body s) ≤ 64))
  pub thirteen : (a.number ≡ 13) ↔ (WellFormedSheet s × (64 < state_count (plan_body s)))
  -- "They apply in rising order": 1 to 10
  pub in_order : GivenInOrder s a.number a.place

-- what `reference` on a list of bytes answered and reported
pub record ReferenceCorrect (s : List ℕ) (r : Result ℕ Refusal) : Type 0 where
  -- the answer against Table 1: for an accepted sheet of at most 64 states a word, and "bit s is set exactly when state s is in the meaning
  -- of the rule by Table 1"; for any other list of bytes the refusal
  pub answer : ByTable1 s r
  -- what the call reports of that answer
  pub report : ReportedBySheet s (reported_reference r)
  -- "A refused call gives .. word .. 0"
  pub zero : (reported_reference r).number ≢ 0 → (reported_reference r).word ≡ 0

-- Demand 2, whole
pub record Demand2 : Type 0 where
  -- every call of `reference`
  pub calls : (s : List ℕ) (r : Result ℕ Refusal) → References s r → ReferenceCorrect s r
  -- the demand's second sentence, "sheet and bodies turn into each other without change": every call of `read` and `write`
  pub round_trip : RoundTrip
