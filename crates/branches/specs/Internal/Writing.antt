-- How commit writes the new sheet. Contracts of private functions cite it; no promise of a public call does.
use Rattle.std.specs.Prelude.{ℕ, ◌<◌, ◌≡◌, true, List, length}
use Rattle.sheet.specs.Contents.{actions_body, rule_body}
use Rattle.sheet.specs.Writing.{sheet_of}
use Rattle.branches.specs.Committing.{answer_proposal, leaves}
use Rattle.branches.specs.Committing.{Committed}

-- the sheet s with the plan p in place of its own
abbrev pub sheet_by : List ℕ → List ℕ → List ℕ
sheet_by s p = sheet_of p (actions_body s) (rule_body s)

-- lengths that two bytes hold
pub record WritableWith (s p : List ℕ) : Type 0 where
  pub plan_short : length p < 65536
  pub actions_short : length (actions_body s) < 65536
  pub rule_short : length (rule_body s) < 65536

-- it was written to the output out, which held out' then, where there was room: the answer r
abbrev pub WritesWith : List ℕ → List ℕ → List ℕ → Committed → List ℕ → Type 0
WritesWith s p out r out' = (r ≡ answer_proposal true (length (sheet_by s p)) (length out)) × (out' ≡ leaves (sheet_by s p) out r)
