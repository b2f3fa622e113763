-- Accepted is exactly what keeps the rules of document 01's "The sheet" (specs/WellFormed.antt): the refusals 1 to 10 leave no sheet that
-- breaks one, and turn down none that keeps all. Shown by accepted_exactly of proofs/Acceptance/Calls.antt.
use Rattle.std.specs.Prelude.{ℕ, ◌≤◌, ◌≡◌, List, ◌↔◌, length, Result, Ok}
use Rattle.sheet.specs.WellFormed.{WellFormedBodies, WellFormedSheet}
use Rattle.sheet.specs.Reading.{bodies_check, sheet_check, bodies_of}
use Rattle.sheet.specs.Writing.{sheet_length}
use Rattle.sheet.specs.RunningCalls.{Reads, Writes}
use Rattle.sheet.specs.declared.Bodies.{Bodies}
use Rattle.sheet.specs.declared.Refusal.{Refusal}

-- "Reader and guard check give 1 to 10": of a sheet
abbrev pub AcceptedIff : Type 0
AcceptedIff = (s : List ℕ) → (sheet_check s ≡ Ok tt) ↔ WellFormedSheet s

-- "the writer 4 to 10": of three bodies
abbrev pub BodiesAcceptedIff : Type 0
BodiesAcceptedIff = (p a r : List ℕ) → (bodies_check p a r ≡ Ok tt) ↔ WellFormedBodies p a r

-- both, and the same of the calls
pub record AcceptedExactly : Type 0 where
  pub sheets : AcceptedIff
  pub bodies : BodiesAcceptedIff
  -- every call of `read`: it accepts, with "each body's offset and length", exactly the sheets that keep the rules
  pub reads : (s : List ℕ) (answer : Result Bodies Refusal) → Reads s answer → (answer ≡ Ok (bodies_of s)) ↔ WellFormedSheet s
  -- every call of `write` with room for the sheet: it writes, "and gives the length", exactly the bodies that keep the rules
  pub writes :
      (p a r out : List ℕ) (answer : Result ℕ Refusal) (out' : List ℕ) → Writes p a r out answer out' → sheet_length p a r ≤ length out
      → (answer ≡ Ok (sheet_length p a r)) ↔ WellFormedBodies p a r
