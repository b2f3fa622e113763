-- The line of the key sheet, from its query (P1).
use Prim.Native.Nat.{ℕ}
use mathlib.Core.Path.{◌≡◌, refl, sym, ap, ◌∙◌}
use mathlib.Core.Bool.{Bool, true}
use mathlib.Core.List.{List, [], ◌∷◌}
use native.Mathlib.Omega.{arith}
use lib.ListN.{length, length-replicate}
use Rattle.sheet.specs.Reading.{sheet_check}
use Rattle.std.specs.Prelude.{Ok, Err}
use Rattle.sheet.proofs.Acceptance.Numbers.{refused_number}
use Rattle.calculus.specs.KeySheet.{K}
use Rattle.text.specs.Decimal.{digits_of}
use Rattle.judge.specs.Cells.{table_bytes}
use Rattle.judge.specs.Querying.{QueryReport, queried_of, reported_query}
use Rattle.judge.specs.Clearing.{table_cleared}
use Rattle.judge.specs.Lists.{none, call}
use Rattle.judge.specs.SheetsToTry.{judged}
use Rattle.judge.specs.Querying.{Queried}
use Rattle.judge.specs.declared.QueryError.TheVariants.{WrongCount, Refused}
use Rattle.judge.proofs.Lists.JustCleared.{cleared_exact}
use Rattle.judge.proofs.Statements.SheetsToTry.{sheets_to_try}
use Rattle.plan_judge.specs.Line.{line_of}
use Rattle.plan_judge.specs.Program.{cleared_table, program_of, KeyLine}

-- an answer by what it reports
judged_answer : (q : Queried) (v : Bool) (n : ℕ) → reported_query q ≡ judged v n → q ≡ Ok (record { verdict = v; visits = n })
judged_answer (Ok j) v n e = λ i. Ok (record { verdict = (e i).verdict; visits = (e i).visits })
judged_answer (Err WrongCount) v n e = absurd (omega (arith, ap (λ (r : QueryReport). r.number) e))
judged_answer (Err (Refused x)) v n e = absurd (omega (arith, refused_number x, ap (λ (r : QueryReport). r.number) e))

first : QueryReport → List QueryReport → QueryReport
first q [] = q
first q (x ∷ l) = x

accepted : sheet_check K ≡ Ok tt
accepted = sheets_to_try.p1.accepted

table_length : length (cleared_table K) ≡ table_bytes K
table_length = length-replicate {A = ℕ} (table_bytes K) 0

key_answer : program_of K ≡ Ok (record { verdict = true; visits = 17 })
unfolding program_of first
key_answer =
    judged_answer (queried_of K 0 (cleared_table K)) true 17
    (ap (λ (t : List ℕ). reported_query (queried_of K 0 t)) (sym (cleared_exact K (cleared_table K) accepted table_length))
    ∙ ap (first (judged true 17))
    (sheets_to_try.p1.report (cleared_table K) (omega (arith, table_length, sheets_to_try.p1.table_size_holds)) _ _ _ _ (refl, (refl, refl)) (call (queried_of K 0 (table_cleared K (cleared_table K))) (refl, (refl, refl)) none)).0)

pub key_line : KeyLine
unfolding line_of digits_of
key_line = ap line_of key_answer
