-- Allowances to try, of the key sheet: by document 01, P1, a query of state 0 on a cleared table gives true and 17 visits. Two benches of
-- state 0, each with a table just cleared, of 112 bytes. Shown by grants_to_try of proofs/Statements/GrantsToTry.antt.
use Rattle.std.specs.Prelude.{ℕ, ◌≡◌, Bool, true, false, List, [], ◌∷◌, replicate}
use Rattle.calculus.specs.KeySheet.{K}
use Rattle.allowance.specs.Granting.{bench_table, reported_answer, Grants}
use Rattle.allowance.specs.GrantsCorrect.{bench_at}
use Rattle.allowance.specs.declared.Bench.{Bench}
use Rattle.allowance.specs.Granting.{Granted, answer_in, benches_in}

-- need, grant, short, verdict, visits
abbrev pub bench : ℕ → ℕ → Bool → Bool → ℕ → Bench
bench need grant short verdict visits = record { need = need; grant = grant; short = short; verdict = verdict; visits = visits }

-- every call with this allowance is accepted and gives these results of the two benches
abbrev pub Gives : ℕ → Bench → Bench → Type 0
Gives allowance first second =
    (r : Granted) (u : List ℕ) → Grants K (0 ∷ 0 ∷ []) allowance (replicate 224 0) r u
    → ((reported_answer (answer_in r)).number ≡ 0) × ((bench_at (benches_in r) 0 ≡ first) × (bench_at (benches_in r) 1 ≡ second))

pub record GrantsToTry : Type 0 where
  -- both get what they need
  pub enough : Gives 34 (bench 17 17 false true 17) (bench 17 17 false true 17)
  -- the last visit goes to the first: the second is short
  pub one_too_few : Gives 33 (bench 17 17 false true 17) (bench 17 16 true false 0)
  -- and its table is as before
  pub as_before :
      (r : Granted) (u : List ℕ) → Grants K (0 ∷ 0 ∷ []) 33 (replicate 224 0) r u → bench_table K u 1 ≡ replicate 112 0
  -- both are short
  pub two_too_few : Gives 32 (bench 17 16 true false 0) (bench 17 16 true false 0)
