-- What every call of `read` and of `write` reports and leaves, accepted or refused; the numbers and places of refusals are in
-- specs/RefusalOrder.antt. Shown by answered_calls of proofs/Acceptance/Answers.antt.
use Rattle.std.specs.Prelude.{ℕ, ◌<◌, ◌≤◌, ◌≡◌, List, ◌++◌, ◌↔◌, ◌≢◌, length, drop, Result}
use Rattle.sheet.specs.WellFormed.{WellFormedBodies, WellFormedSheet}
use Rattle.sheet.specs.Reading.{bodies_of, no_bodies, reported_read}
use Rattle.sheet.specs.Writing.{sheet_of, sheet_length, reported_write}
use Rattle.sheet.specs.RunningCalls.{Reads, Writes}
use Rattle.sheet.specs.declared.Bodies.{Bodies}
use Rattle.sheet.specs.declared.Refusal.{Refusal}

-- `read` on the sheet s answered so
pub record ReadAnswered (s : List ℕ) (answer : Result Bodies Refusal) : Type 0 where
  -- number 0 exactly when the sheet keeps every rule
  pub exactly : ((reported_read answer).number ≡ 0) ↔ WellFormedSheet s
  -- "An accepted call gives number 0 and place 0."; "The reader gives each body's offset and length."
  pub accepted : (reported_read answer).number ≡ 0 → ((reported_read answer).place ≡ 0) × ((reported_read answer).bodies ≡ bodies_of s)
  -- "A refused call gives .. offsets, lengths and any further result number 0"
  pub refused : (reported_read answer).number ≢ 0 → (reported_read answer).bodies ≡ no_bodies

-- `write` of the bodies p, a, r answered so, and left out' where out had been
pub record WriteAnswered (p a r out : List ℕ) (answer : Result ℕ Refusal) (out' : List ℕ) : Type 0 where
  -- number 0 exactly when the bodies keep every rule and the output has room for the sheet
  pub exactly : ((reported_write answer).number ≡ 0) ↔ (WellFormedBodies p a r × (sheet_length p a r ≤ length out))
  -- "22: output buffer too short", after 4 to 10
  pub short : ((reported_write answer).number ≡ 22) ↔ (WellFormedBodies p a r × (length out < sheet_length p a r))
  -- "An accepted call gives number 0 and place 0."; the writer "gives the length"
  pub accepted : (reported_write answer).number ≡ 0 → ((reported_write answer).place ≡ 0) × ((reported_write answer).size ≡ sheet_length p a r)
  -- the sheet that the bodies make; "bytes past it are unchanged"
  pub written : (reported_write answer).number ≡ 0 → out' ≡ sheet_of p a r ++ drop (sheet_length p a r) out
  -- "A refused call gives .. any further result number 0 .. and changes no buffer."
  pub refused : (reported_write answer).number ≢ 0 → ((reported_write answer).size ≡ 0) × (out' ≡ out)

-- every call
pub record AnsweredCalls : Type 0 where
  pub reads : (s : List ℕ) (answer : Result Bodies Refusal) → Reads s answer → ReadAnswered s answer
  pub writes :
      (p a r out : List ℕ) (answer : Result ℕ Refusal) (out' : List ℕ) → Writes p a r out answer out' → WriteAnswered p a r out answer out'
