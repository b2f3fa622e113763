-- What the examination of a branch goes through. Contracts of private functions cite it; no promise of a public call does.
use Rattle.std.specs.Prelude.{ℕ, ◌+◌, ◌≤◌, ◌≡◌, true, List, length, take, Ok, Err}
use Rattle.sheet.specs.Bytes.{pick}
use Rattle.sheet.specs.Contents.{plan_body}
use Rattle.sheet.specs.Reading.{sheet_check}
use Rattle.sheet.specs.TransitionSystem.{LabelledTransition}
use Rattle.sheet.specs.WellFormed.{WellFormedPlan}
use Rattle.sheet.specs.declared.Refusal.TheVariants.{Loop}
use Rattle.graph.specs.LoopTest.{loop_free}
use Rattle.branches.specs.Tags.{tag_of}
use Rattle.branches.specs.Branches.{branch_fits, plan_with}
use Rattle.branches.specs.Proposing.{proposed_of}
use Rattle.branches.specs.declared.Proposal.{Proposal}
use Rattle.branches.specs.Proposing.{Proposed}
use Rattle.branches.specs.declared.ProposeError.TheVariants.{Refused}

-- the longest plan: 4 bytes and 2,048 transitions of three
abbrev pub longest_plan : ℕ
longest_plan = 6148

-- a sheet s, a place in its plan, and the plan with the branch
pub record Looking (s : List ℕ) (place : ℕ) (new : List ℕ) : Type 0 where
  pub kept : WellFormedPlan new
  pub place_small : place ≤ 2048
  pub short : length s ≤ 6455

-- the answer where the plan takes the branch
abbrev pub looked_of : List ℕ → ℕ → List ℕ → Proposed
looked_of s place new = pick (loop_free new 0) (Ok (record { insertion = place; length = length s + 3; tag = tag_of s })) (Err (Refused Loop))

-- what is known after an offer: the sheet is accepted, its plan takes the branch, and the plan with it stands in the buffer
pub record Ready (s : List ℕ) (t : LabelledTransition) (buffer : List ℕ) : Type 0 where
  pub passed : sheet_check s ≡ Ok tt
  pub fits : branch_fits (plan_body s) t ≡ true
  pub new_there : take (length (plan_body s) + 3) buffer ≡ plan_with (plan_body s) t

-- the examination of the sheet s and the transition t answered r and left a buffer
pub record Examined (s : List ℕ) (t : LabelledTransition) (r : Proposed) (buffer : List ℕ) : Type 0 where
  pub answer : r ≡ proposed_of s t
  pub ready : (q : Proposal) → r ≡ Ok q → Ready s t buffer
