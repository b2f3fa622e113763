-- `Numbered` of a `Result`, against what an answer reports: where the error has the number that is reported of it, the answer has the number
-- that is reported, 0 of an accepted call. Of places likewise. Shown by answer_numbers of proofs/Checks/AnswerNumbers.antt.
use Rattle.std.specs.Prelude.{ℕ, ◌≡◌, Result, Ok, Err}
use Rattle.sheet.specs.Refusals.{answer_number}

-- "An accepted call gives number 0 and place 0."
pub record AnswerNumbers : Type 1 where
  pub exactly :
      {T E : Type 0} (reported : Result T E → ℕ) → ((x : T) → reported (Ok x) ≡ 0) → (answer : Result T E)
      → answer_number (λ e. reported (Err e)) answer ≡ reported answer
