-- Document 01, "Sheets to try": P1 to P11, "shown together, as one conjunction over the rows and Table 1"; and a sheet for document 02 (b).
use Rattle.std.specs.Prelude.{◌≡◌, ℕ, ◌≤◌, Bool, true, false, ◌↔◌, List, [], ◌∷◌, length, Result, Ok}
use Rattle.sheet.specs.Writing.{sheet_of}
use Rattle.sheet.specs.Reading.{sheet_check}
use Rattle.sheet.specs.declared.Refusal.{Refusal}
use Rattle.calculus.specs.MeetingMask.{bit}
use Rattle.calculus.specs.GuardCheck.{guarded_rule, reported_guard, Guards}
use Rattle.calculus.specs.Verdict.{Verdict}
use Rattle.calculus.specs.KeySheet.{key_sheet, K, looped}
use Rattle.judge.specs.Cells.{table_bytes}
use Rattle.judge.specs.Clearing.{Clears}
use Rattle.judge.specs.Querying.{QueryReport, reported_query, Queries}
use Rattle.judge.specs.Lists.{Calls}
use Rattle.judge.specs.Demand3.{ListCorrect}
use Rattle.judge.specs.Clearing.{Cleared}
use Rattle.judge.specs.Querying.{Queried}

-- ---- the sheets

-- "K with its first rule node of kind 8"
abbrev pub K_greatest : List ℕ
K_greatest = key_sheet 8

-- the sheet of a plan and a rule, with the action table 1, 1,0,0
abbrev pub with_true : List ℕ → List ℕ → List ℕ
with_true plan rule = sheet_of plan (1 ∷ 1 ∷ 0 ∷ 0 ∷ []) rule

-- K's plan
abbrev pub chain : List ℕ
chain = 3 ∷ 3 ∷ 2 ∷ 0 ∷ 0 ∷ 1 ∷ 1 ∷ 1 ∷ 2 ∷ 2 ∷ []

-- least X.X and greatest X.X
abbrev pub least_self : List ℕ
least_self = with_true chain (2 ∷ 7 ∷ 0 ∷ 1 ∷ 6 ∷ 0 ∷ 0 ∷ [])

abbrev pub greatest_self : List ℕ
greatest_self = with_true chain (2 ∷ 8 ∷ 0 ∷ 1 ∷ 6 ∷ 0 ∷ 0 ∷ [])

-- "every" with true over F, and "some" with true over T
abbrev pub every_false : List ℕ
every_false = with_true chain (2 ∷ 5 ∷ 0 ∷ 1 ∷ 0 ∷ 0 ∷ 0 ∷ [])

abbrev pub some_true : List ℕ
some_true = with_true chain (2 ∷ 4 ∷ 0 ∷ 1 ∷ 1 ∷ 0 ∷ 0 ∷ [])

-- least and greatest X of "every" true X, on the plan with a loop
abbrev pub least_loop : List ℕ
least_loop = looped 7

abbrev pub greatest_loop : List ℕ
greatest_loop = looped 8

-- "every" with true over F, on a plan of 5 states: 0 has a transition to itself and one to 1, 1 leads to 4, 2 to 3, and 3 to itself
abbrev pub loops_elsewhere : List ℕ
loops_elsewhere =
    with_true (5 ∷ 1 ∷ 5 ∷ 0 ∷ 0 ∷ 0 ∷ 0 ∷ 0 ∷ 0 ∷ 1 ∷ 1 ∷ 0 ∷ 4 ∷ 2 ∷ 0 ∷ 3 ∷ 3 ∷ 0 ∷ 3 ∷ [])
    (2 ∷ 5 ∷ 0 ∷ 1 ∷ 0 ∷ 0 ∷ 0 ∷ [])

-- ---- what is said of them

-- a query that is not refused reports number 0 and place 0, a verdict and visits
abbrev pub judged : Bool → ℕ → QueryReport
judged verdict visits = record { number = 0; place = 0; verdict = verdict; visits = visits }

-- a query that is refused, by a number that has no place
abbrev pub refused_by : ℕ → QueryReport
refused_by number = record { number = number; place = 0; verdict = false; visits = 0 }

-- the sheet is accepted, and its table has this many bytes, S × N × (B + 1) and four; on each buffer that is long enough, the calls of
-- `query` for the states, one after the other, after a call of `clear`, report this; and they are what the rows and Table 1 say
-- (specs/Demand3.antt)
pub record Asked (s : List ℕ) (size : ℕ) (states : List ℕ) (answers : List QueryReport) : Type 0 where
  pub accepted : sheet_check s ≡ Ok tt
  pub table_size_holds : table_bytes s ≡ size
  pub report :
      (t : List ℕ) → size ≤ length t → (r : Cleared) (u : List ℕ) (reported : List QueryReport) (left : List ℕ)
      → Clears s t r u → Calls s u states reported left → (reported ≡ answers) × ListCorrect s t states answers left

-- a call of `query` for state 0, whatever the table, reports this
abbrev pub AskedAnywhere : List ℕ → QueryReport → Type 0
AskedAnywhere s answer = (t : List ℕ) (r : Queried) (u : List ℕ) → Queries s 0 t r u → reported_query r ≡ answer

-- "bit s is set exactly when state s is in the meaning of the rule by Table 1 .. Bits from S up are 0."
pub record WordMeans (s : List ℕ) (word : ℕ) : Type 0 where
  pub bits : (state : ℕ) → (bit word state ≡ true) ↔ Verdict s state

-- P1 to P11, and a sheet for document 02 (b): of each query what the running calls report, by the rows, and Table 1's verdict at its
-- state. What the calls of `reference` report is said in the crate reference, and what the program prints in plan_judge.
pub record SheetsToTry : Type 0 where
  -- "The key sheet K has 74 bytes"
  pub key_length : length K ≡ 74
  -- "P1: K, table 108 bytes, state 0: true, 17 visits"; document 02 (f): "four bytes more (112 for P1)"
  pub p1 : Asked K 112 (0 ∷ []) (judged true 17 ∷ [])
  pub p1_table1 : Verdict K 0
  -- "P2: then state 1: true, 0."
  pub p2 : Asked K 112 (0 ∷ 1 ∷ []) (judged true 17 ∷ judged true 0 ∷ [])
  pub p2_table1 : Verdict K 1
  -- "P3: then state 2: false, 9."
  pub p3 : Asked K 112 (0 ∷ 1 ∷ 2 ∷ []) (judged true 17 ∷ judged true 0 ∷ judged false 9 ∷ [])
  pub p3_table1 : Verdict K 2 → ⊥
  -- "P4: K with its first rule node of kind 8, state 2, cleared: true, 8."
  pub p4 : Asked K_greatest 112 (2 ∷ []) (judged true 8 ∷ [])
  pub p4_table1 : Verdict K_greatest 2
  -- "P5: K, reference: 3."
  pub p5 : WordMeans K 3
  -- "P6: K is unguarded.": by Definition 2, and every call of `guard` answers no
  pub p6 : guarded_rule K ≡ false
  pub p6_call : (r : Result Bool Refusal) → Guards K r → reported_guard r ≡ record { number = 0; place = 0; answer = false }
  -- "P7: least X.X: false, 2 visits.", at state 0
  pub p7 : Asked least_self 16 (0 ∷ []) (judged false 2 ∷ [])
  pub p7_table1 : Verdict least_self 0 → ⊥
  -- "P8: greatest X.X: true, 2.", at state 0
  pub p8 : Asked greatest_self 16 (0 ∷ []) (judged true 2 ∷ [])
  pub p8_table1 : Verdict greatest_self 0
  -- "P9: "every" with true over F, at an end state: true, 1."
  pub p9 : Asked every_false 10 (2 ∷ []) (judged true 1 ∷ [])
  pub p9_table1 : Verdict every_false 2
  -- "P10: "some" with true over T there: false, 1."
  pub p10 : Asked some_true 10 (2 ∷ []) (judged false 1 ∷ [])
  pub p10_table1 : Verdict some_true 2 → ⊥
  -- "P11: .. least X of "every" true X: reference 0; greatest: 1. A query: 12.", whatever the table
  pub p11_least : WordMeans least_loop 0
  pub p11_greatest : WordMeans greatest_loop 1
  pub p11_query : AskedAnywhere least_loop (refused_by 12)
  pub p11_query_greatest : AskedAnywhere greatest_loop (refused_by 12)
  -- Document 02 (b), a sheet of our own: refused are 0 and 3, on a loop, 2, which leads to one, and 5, which the plan doesn't have. 1 and 4
  -- are judged, though a loop leads to 1
  pub b_loops :
      Asked loops_elsewhere 14 (0 ∷ 1 ∷ 2 ∷ 3 ∷ 4 ∷ 1 ∷ 5 ∷ [])
      (refused_by 12 ∷ judged false 2 ∷ refused_by 12 ∷ refused_by 12 ∷ judged true 1 ∷ judged false 0 ∷ refused_by 11 ∷ [])
  pub b_one_table1 : Verdict loops_elsewhere 1 → ⊥
  pub b_four_table1 : Verdict loops_elsewhere 4
