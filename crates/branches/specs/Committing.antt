-- Document 02 (i): "Commit writes the new sheet and checks everything afresh". What it answers and leaves, for every sheet, transition,
-- proposal and output.
use Rattle.std.specs.Prelude.{ℕ, ◌≡◌, Bool, ◌&&◌, List, ◌++◌, length, drop, eqb, leb, Result, Ok, Err}
use Rattle.sheet.specs.Bytes.{pick}
use Rattle.sheet.specs.Refusals.{number_of, place_of}
use Rattle.sheet.specs.TransitionSystem.{LabelledTransition}
use Rattle.sheet.specs.declared.Refusal.TheVariants.{OutputShort}
use Rattle.sheet.specs.declared.Transition.{Transition}
use Rattle.branches.specs.Branches.{labelled, sheet_with}
use Rattle.branches.specs.Proposing.{Proposed, proposed_of}
use Rattle.branches.specs.declared.Proposal.{Proposal}
use Rattle.branches.specs.declared.ProposeError.{ProposeError}
use Rattle.branches.specs.declared.ProposeError.TheVariants as Fresh
use Rattle.branches.specs.declared.CommitError.{CommitError}
use Rattle.branches.specs.declared.CommitError.TheVariants.{BranchUnfit, ProposalDiffers, Refused}

-- what commit answers: the length of the new sheet, or why it wrote none
abbrev pub Committed : Type 0
Committed = Result ℕ CommitError

-- not "a proposal that differs from the fresh one": no part of the two differs
unfoldable pub same_proposal : Proposal → Proposal → Bool
same_proposal q fresh = eqb q.insertion fresh.insertion && (eqb q.length fresh.length && eqb q.tag fresh.tag)

-- "in commit a proposal that differs from the fresh one with 41, placed after 12 and before a short output"; document 01: "22: output
-- buffer too short"; else the length of the new sheet
abbrev pub answer_proposal : Bool → ℕ → ℕ → Committed
answer_proposal same size room = pick same (pick (leb size room) (Ok size) (Err (Refused OutputShort))) (Err ProposalDiffers)

-- what commit answers where propose turns its input down
abbrev pub stopped_by : ProposeError → CommitError
stopped_by Fresh.BranchUnfit = BranchUnfit
stopped_by (Fresh.Refused x) = Refused x

-- "checks everything afresh": what propose answers now comes first; its proposal is the fresh one
abbrev pub answer_commit : Proposed → Proposal → ℕ → ℕ → Committed
answer_commit (Ok fresh) q size room = answer_proposal (same_proposal q fresh) size room
answer_commit (Err x) q size room = Err (stopped_by x)

-- what commit answers for every sheet, transition, proposal and output of so many bytes
unfoldable pub committed_of : List ℕ → LabelledTransition → Proposal → ℕ → Committed
committed_of s t q room = answer_commit (proposed_of s t) q (length (sheet_with s t)) room

-- the new sheet at the front of the output; document 02 (c), "Here and in later requests": "output bytes past what is written stay
-- unchanged"; document 01: a refused call "changes no buffer"
abbrev pub leaves : List ℕ → List ℕ → Committed → List ℕ
leaves new out (Ok n) = new ++ drop n out
leaves new out (Err x) = out

-- the output buffer after the call
unfoldable pub output_after : List ℕ → LabelledTransition → Proposal → List ℕ → List ℕ
output_after s t q out = leaves (sheet_with s t) out (committed_of s t q (length out))

-- what commit reports: number, place and the length of the sheet written
pub record CommitReport : Type 0 where
  pub number : ℕ
  pub place : ℕ
  pub size : ℕ

-- document 01: "An accepted call gives number 0 and place 0."; on a refusal its number and place, "lengths and any further result number 0"
abbrev pub reported_commit : Committed → CommitReport
reported_commit (Ok n) = record { number = 0; place = 0; size = n }
-- "It refuses a transition out of range, present already, or beyond 2,048 with 40"; document 01: "Other places are 0."
reported_commit (Err BranchUnfit) = record { number = 40; place = 0; size = 0 }
-- "and in commit a proposal that differs from the fresh one with 41"
reported_commit (Err ProposalDiffers) = record { number = 41; place = 0; size = 0 }
reported_commit (Err (Refused x)) = record { number = number_of x; place = place_of x; size = 0 }

-- what commit reports for every sheet, transition, proposal and output
abbrev pub commit_report_of : List ℕ → LabelledTransition → Proposal → ℕ → CommitReport
commit_report_of s t q room = reported_commit (committed_of s t q room)

-- The contract of `commit`: a call on the sheet s, the transition t, the proposal q and the output out answered r and left out'. The
-- theorems of specs/BranchesCorrect.antt speak of it.
abbrev pub Commits : List ℕ → Transition → Proposal → List ℕ → Committed → List ℕ → Type 0
Commits s t q out r out' =
    (r ≡ committed_of s (labelled t) q (length out))
    × ((reported_commit r ≡ commit_report_of s (labelled t) q (length out)) × (out' ≡ output_after s (labelled t) q out))
