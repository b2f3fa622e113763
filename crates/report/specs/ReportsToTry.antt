-- Reports to try: of the key sheet (document 01, P1 to P3), and of the judge's sheet for document 02 (b), of which some queries are
-- refused. Shown by reports_to_try of proofs/Statements/ReportsToTry.antt.
use Rattle.std.specs.Prelude.{ℕ, ◌≤◌, ◌≡◌, List, [], ◌∷◌, length}
use Rattle.text.specs.Placing.{Puts}
use Rattle.calculus.specs.KeySheet.{K}
use Rattle.judge.specs.SheetsToTry.{loops_elsewhere}
use Rattle.report.specs.Reporting.{least_output, reported_text, WritesReport}
use Rattle.report.specs.Reporting.{Report}

-- on every table of at least so many bytes and every output that is long enough, each call of `report` for these states writes this text
abbrev pub Gives : List ℕ → ℕ → List ℕ → List ℕ → Type 0
Gives s size states text =
    (t out : List ℕ) → size ≤ length t → least_output ≤ length out → (r : Report) (u v : List ℕ) → WritesReport s states t out r u v
    → ((reported_text r).number ≡ 0) × Puts text (reported_text r).size out v

-- K at states 0, 1, 2
abbrev pub key_text : List ℕ
key_text =
    -- `0 true 17`
    48 ∷ 32 ∷ 116 ∷ 114 ∷ 117 ∷ 101 ∷ 32 ∷ 49 ∷ 55 ∷ 10 ∷
    -- `1 true 0`
    49 ∷ 32 ∷ 116 ∷ 114 ∷ 117 ∷ 101 ∷ 32 ∷ 48 ∷ 10 ∷
    -- `2 false 9`
    50 ∷ 32 ∷ 102 ∷ 97 ∷ 108 ∷ 115 ∷ 101 ∷ 32 ∷ 57 ∷ 10 ∷
    -- `total 26`
    116 ∷ 111 ∷ 116 ∷ 97 ∷ 108 ∷ 32 ∷ 50 ∷ 54 ∷ 10 ∷ []

-- `loops_elsewhere` at states 0, 1, 2, 3, 4, 1 again, and 5, which the plan doesn't have
abbrev pub loops_text : List ℕ
loops_text =
    -- `0 refused 0`
    48 ∷ 32 ∷ 114 ∷ 101 ∷ 102 ∷ 117 ∷ 115 ∷ 101 ∷ 100 ∷ 32 ∷ 48 ∷ 10 ∷
    -- `1 false 2`
    49 ∷ 32 ∷ 102 ∷ 97 ∷ 108 ∷ 115 ∷ 101 ∷ 32 ∷ 50 ∷ 10 ∷
    -- `2 refused 0`
    50 ∷ 32 ∷ 114 ∷ 101 ∷ 102 ∷ 117 ∷ 115 ∷ 101 ∷ 100 ∷ 32 ∷ 48 ∷ 10 ∷
    -- `3 refused 0`
    51 ∷ 32 ∷ 114 ∷ 101 ∷ 102 ∷ 117 ∷ 115 ∷ 101 ∷ 100 ∷ 32 ∷ 48 ∷ 10 ∷
    -- `4 true 1`
    52 ∷ 32 ∷ 116 ∷ 114 ∷ 117 ∷ 101 ∷ 32 ∷ 49 ∷ 10 ∷
    -- `1 false 0`
    49 ∷ 32 ∷ 102 ∷ 97 ∷ 108 ∷ 115 ∷ 101 ∷ 32 ∷ 48 ∷ 10 ∷
    -- `5 refused 0`
    53 ∷ 32 ∷ 114 ∷ 101 ∷ 102 ∷ 117 ∷ 115 ∷ 101 ∷ 100 ∷ 32 ∷ 48 ∷ 10 ∷
    -- `total 3`
    116 ∷ 111 ∷ 116 ∷ 97 ∷ 108 ∷ 32 ∷ 51 ∷ 10 ∷ []

pub record ReportsToTry : Type 0 where
  pub key : Gives K 112 (0 ∷ 1 ∷ 2 ∷ []) key_text
  pub loops : Gives loops_elsewhere 14 (0 ∷ 1 ∷ 2 ∷ 3 ∷ 4 ∷ 1 ∷ 5 ∷ []) loops_text
