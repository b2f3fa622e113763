-- Document 02 (i): "Propose gives the insertion place (a transition number), the new file's length and the sheet's tag". What it answers
-- for every sheet and every transition. "It changes no buffer.": it is lent none that it could change.
use Rattle.std.specs.Prelude.{ℕ, ◌≡◌, Bool, List, length, Err, Ok, Result}
use Rattle.sheet.specs.Bytes.{pick}
use Rattle.sheet.specs.Contents.{plan_body}
use Rattle.sheet.specs.Reading.{sheet_check}
use Rattle.sheet.specs.Refusals.{number_of, place_of}
use Rattle.sheet.specs.TransitionSystem.{LabelledTransition}
use Rattle.sheet.specs.declared.Refusal.TheVariants.{Loop}
use Rattle.sheet.specs.Refusals.{Check}
use Rattle.sheet.specs.declared.Transition.{Transition}
use Rattle.graph.specs.LoopTest.{loop_free}
use Rattle.branches.specs.Tags.{tag_of}
use Rattle.branches.specs.Branches.{labelled, branch_fits, insertion_place, plan_with, sheet_with}
use Rattle.branches.specs.declared.Proposal.{Proposal}
use Rattle.branches.specs.declared.ProposeError.{ProposeError}
use Rattle.branches.specs.declared.ProposeError.TheVariants.{BranchUnfit, Refused}

-- what propose answers
abbrev pub Proposed : Type 0
Proposed = Result Proposal ProposeError

-- "the insertion place (a transition number), the new file's length and the sheet's tag", the tag "of the old sheet's bytes"
abbrev pub proposal_of : List ℕ → LabelledTransition → Proposal
proposal_of s t = record { insertion = insertion_place (plan_body s) t; length = length (sheet_with s t); tag = tag_of s }

-- "A loop then reachable from state 0 falls under 12": the test for loops of the plan with the branch
abbrev pub free_with : List ℕ → LabelledTransition → Bool
free_with s t = loop_free (plan_with (plan_body s) t) 0

-- "with 40, placed before 12"; else the proposal
abbrev pub answer_branch : Bool → Bool → Proposal → Proposed
answer_branch fits free q = pick fits (pick free (Ok q) (Err (Refused Loop))) (Err BranchUnfit)

-- document 01: "They apply in rising order.": 1 to 10 come first
abbrev pub answer_sheet : Check → Proposed → Proposed
answer_sheet (Ok tt) next = next
answer_sheet (Err x) next = Err (Refused x)

-- what propose answers for every sheet and transition
unfoldable pub proposed_of : List ℕ → LabelledTransition → Proposed
proposed_of s t = answer_sheet (sheet_check s) (answer_branch (branch_fits (plan_body s) t) (free_with s t) (proposal_of s t))

-- what propose reports: number, place and the proposal
pub record ProposalReport : Type 0 where
  pub number : ℕ
  pub place : ℕ
  pub proposal : Proposal

-- document 01: "any further result number 0"
abbrev pub no_proposal : Proposal
no_proposal = record { insertion = 0; length = 0; tag = 0 }

-- document 01: "An accepted call gives number 0 and place 0."; on a refusal its number and place
abbrev pub reported_proposal : Proposed → ProposalReport
reported_proposal (Ok q) = record { number = 0; place = 0; proposal = q }
-- "It refuses a transition out of range, present already, or beyond 2,048 with 40"; document 01: "Other places are 0."
reported_proposal (Err BranchUnfit) = record { number = 40; place = 0; proposal = no_proposal }
reported_proposal (Err (Refused x)) = record { number = number_of x; place = place_of x; proposal = no_proposal }

-- what propose reports for every sheet and transition
abbrev pub proposal_report_of : List ℕ → LabelledTransition → ProposalReport
proposal_report_of s t = reported_proposal (proposed_of s t)

-- The contract of `propose`: a call on the sheet s and the transition t answered r. The theorems of specs/BranchesCorrect.antt speak of it.
abbrev pub Proposes : List ℕ → Transition → Proposed → Type 0
Proposes s t r = (r ≡ proposed_of s (labelled t)) × (reported_proposal r ≡ proposal_report_of s (labelled t))
