-- Document 01, "Sheets to try": what every call of `reference` reports on the sheets of P5 and P11. Shown by sheets_reported of
-- proofs/Answers/Examples.antt.
use Rattle.std.specs.Prelude.{ℕ, ◌≡◌, List, Result}
use Rattle.calculus.specs.KeySheet.{K, looped}
use Rattle.reference.specs.Reference.{reported_reference, References}
use Rattle.sheet.specs.declared.Refusal.{Refusal}

-- every call of `reference` on the sheet accepts it and gives the word
abbrev pub Gives : List ℕ → ℕ → Type 0
Gives s word = (r : Result ℕ Refusal) → References s r → reported_reference r ≡ record { number = 0; place = 0; word = word }

-- P5 and P11
pub record ReferenceOfSheets : Type 0 where
  -- "P5: K, reference: 3."
  pub p5 : Gives K 3
  -- "P11: .. least X of "every" true X: reference 0; greatest: 1."
  pub p11_least : Gives (looped 7) 0
  pub p11_greatest : Gives (looped 8) 1
