-- Searches to try, each on a table just cleared, worked out by hand. Shown by closest_to_try of proofs/Statements/ClosestToTry.antt.
use Rattle.std.specs.Prelude.{ℕ, ◌≡◌, true, false, List, [], ◌∷◌, replicate}
use Rattle.calculus.specs.KeySheet.{K}
use Rattle.judge.specs.Cells.{table_bytes}
use Rattle.judge.specs.SheetsToTry.{with_true, every_false, some_true, greatest_self, least_loop}
use Rattle.closest.specs.Finding.{ClosestAnswer, ClosestReport, reported_closest, refused_report, Finds}

-- "some" with true over T, which fails at the end states, on a plan of 4 states: 0 leads to 2 and 3, and 2 to 1
abbrev pub nearer_end : List ℕ
nearer_end =
    with_true (4 ∷ 1 ∷ 3 ∷ 0 ∷ 0 ∷ 0 ∷ 2 ∷ 0 ∷ 0 ∷ 3 ∷ 2 ∷ 0 ∷ 1 ∷ []) (2 ∷ 4 ∷ 0 ∷ 1 ∷ 1 ∷ 0 ∷ 0 ∷ [])

-- the same rule on a plan of 5 states: 0 leads to 2, 2 to 3 and 3 to 4; 1 is an end that nothing leads to
abbrev pub end_elsewhere : List ℕ
end_elsewhere =
    with_true (5 ∷ 1 ∷ 3 ∷ 0 ∷ 0 ∷ 0 ∷ 2 ∷ 2 ∷ 0 ∷ 3 ∷ 3 ∷ 0 ∷ 4 ∷ []) (2 ∷ 4 ∷ 0 ∷ 1 ∷ 1 ∷ 0 ∷ 0 ∷ [])

-- the same rule on a plan of 3 states: 0 leads to the ends 1 and 2
abbrev pub two_ends : List ℕ
two_ends = with_true (3 ∷ 1 ∷ 2 ∷ 0 ∷ 0 ∷ 0 ∷ 1 ∷ 0 ∷ 0 ∷ 2 ∷ []) (2 ∷ 4 ∷ 0 ∷ 1 ∷ 1 ∷ 0 ∷ 0 ∷ [])

-- every call on the table of the sheet, just cleared, with no byte after it, reports this
abbrev pub Reports : List ℕ → ClosestReport → Type 0
Reports s q = (r : ClosestAnswer) (u : List ℕ) → Finds s (replicate (table_bytes s) 0) r u → reported_closest r ≡ q

-- a state that breaks the rule, its steps and the visits
abbrev pub failing : ℕ → ℕ → ℕ → ClosestReport
failing state steps visits = record { number = 0; place = 0; found = true; state = state; steps = steps; visits = visits }

-- "holds everywhere", and the visits
abbrev pub holding : ℕ → ClosestReport
holding visits = record { number = 0; place = 0; found = false; state = 0; steps = 0; visits = visits }

pub record ClosestToTry : Type 0 where
  -- P1 to P3: true with 17 visits at state 0, true with none at state 1, false with 9 at state 2
  pub key : Reports K (failing 2 2 26)
  -- the rule fails at state 0 already, and no other is taken: P9's, whose state 0 leads on
  pub at_once : Reports every_false (failing 0 0 2)
  -- P10's: the end of a chain
  pub at_the_end : Reports some_true (failing 2 2 5)
  -- P8's: it holds at all three states
  pub everywhere : Reports greatest_self (holding 6)
  -- the end 3 is nearer than the end 1, which has a lower number
  pub nearer : Reports nearer_end (failing 3 1 5)
  -- "the lowest number between equals"
  pub between_equals : Reports two_ends (failing 1 1 3)
  -- the end 1 can't be reached, and isn't taken
  pub elsewhere : Reports end_elsewhere (failing 4 3 7)
  -- P11's: a loop at state 0
  pub loop : Reports least_loop (refused_report 12 0)
