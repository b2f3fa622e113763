-- Document 01: "The guard check answers yes exactly when the rule is guarded by Definition 2."
use Rattle.std.specs.Prelude.{ℕ, ◌≡◌, Bool, true, false, List, ◌↔◌, Result, Err, Ok}
use Rattle.sheet.specs.Refusals.{number_of, place_of}
use Rattle.sheet.specs.Contents.{actions_body, rule_body}
use Rattle.sheet.specs.Reading.{sheet_check}
use Rattle.sheet.specs.RefusalOrder.{GivenInOrder}
use Rattle.sheet.specs.WellFormed.{WellFormedSheet}
use Rattle.sheet.specs.Refusals.{Check}
use Rattle.sheet.specs.declared.Refusal.{Refusal}
use Rattle.calculus.specs.Definition2.{guarded}
use Rattle.calculus.specs.Decode.{formula}

-- "the rule is guarded by Definition 2"
abbrev pub guarded_rule : List ℕ → Bool
guarded_rule s = guarded (formula (actions_body s) (rule_body s) 0)

-- yes or no for an accepted sheet, else its refusal
abbrev pub answer_guard : List ℕ → Check → Result Bool Refusal
answer_guard s (Ok tt) = Ok (guarded_rule s)
answer_guard s (Err r) = Err r

-- "Reader and guard check give 1 to 10": the answer for every list of bytes
unfoldable pub guard_of : List ℕ → Result Bool Refusal
guard_of s = answer_guard s (sheet_check s)

-- What each answer reports: number, place and the guard answer. "A refused call gives verdict and guard answer false"; "An accepted call
-- gives number 0 and place 0."
pub record GuardReport : Type 0 where
  pub number : ℕ
  pub place : ℕ
  pub answer : Bool

-- number, place and guard answer of each answer
abbrev pub reported_guard : Result Bool Refusal → GuardReport
reported_guard (Ok b) = record { number = 0; place = 0; answer = b }
reported_guard (Err r) = record { number = number_of r; place = place_of r; answer = false }

-- what a call of the guard check reports for every list of bytes
abbrev pub guard_report_of : List ℕ → GuardReport
guard_report_of s = reported_guard (guard_of s)

-- ---- the running calls

-- `guard` on the sheet s answered r: the clauses of its contract
abbrev pub Guards : List ℕ → Result Bool Refusal → Type 0
Guards s r = (r ≡ guard_of s) × (reported_guard r ≡ guard_report_of s)

-- what `guard` answered and reported, by what the sheet is
pub record GuardCorrect (s : List ℕ) (r : Result Bool Refusal) : Type 0 where
  -- "answers yes exactly when the rule is guarded by Definition 2"
  pub exactly : sheet_check s ≡ Ok tt → (r ≡ Ok true) ↔ (guarded_rule s ≡ true)
  -- "An accepted call gives number 0 and place 0."
  pub answered : sheet_check s ≡ Ok tt → reported_guard r ≡ record { number = 0; place = 0; answer = guarded_rule s }
  -- "Reader and guard check give 1 to 10"; "A refused call gives verdict and guard answer false"
  pub refused :
      (x : Refusal) → sheet_check s ≡ Err x
      → reported_guard r ≡ record { number = number_of x; place = place_of x; answer = false }
  -- "An accepted call gives number 0", and no other
  pub accepted : ((reported_guard r).number ≡ 0) ↔ WellFormedSheet s
  -- "They apply in rising order"
  pub in_order : GivenInOrder s (reported_guard r).number (reported_guard r).place

-- every call of `guard`; shown by guard_exactly of proofs/Definition2/GuardCalls.antt
abbrev pub GuardExactly : Type 0
GuardExactly = (s : List ℕ) (r : Result Bool Refusal) → Guards s r → GuardCorrect s r
