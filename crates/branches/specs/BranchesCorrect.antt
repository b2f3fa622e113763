-- Document 02 (i), of every call of `propose` and of `commit`: which number it gives, exactly, what it proposes or writes, and what the new
-- sheet is. Shown by branches_correct of proofs/Statements/BranchesCorrect.antt.
use Rattle.std.specs.Prelude.{ℕ, suc, ◌+◌, ◌<◌, ◌≤◌, ◌≡◌, true, ◌↔◌, ◌≢◌, ◌⊎◌, length, take, drop, Ok}
use mathlib.Core.List.{List, ◌∷◌, ◌++◌, Memᴰ}
use Rattle.sheet.specs.Contents.{plan_body, actions_body, rule_body}
use Rattle.sheet.specs.Plan.{state_count, action_count, transition_count}
use Rattle.sheet.specs.Reading.{sheet_check}
use Rattle.sheet.specs.RefusalOrder.{GivenInOrder}
use Rattle.sheet.specs.TransitionSystem.{LabelledTransition, transition_of, plan_of, precedes}
use Rattle.sheet.specs.WellFormed.{WellFormedSheet}
use Rattle.sheet.specs.declared.Transition.{Transition}
use Rattle.graph.specs.Loops.{LoopReachable}
use Rattle.graph.specs.Successors.{targets, successors}
use Rattle.branches.specs.Tags.{tag_of, KnownTags}
use Rattle.branches.specs.Branches.{labelled, sheet_with}
use Rattle.branches.specs.Proposing.{proposal_of, no_proposal, reported_proposal, Proposes}
use Rattle.branches.specs.Committing.{reported_commit, Commits}
use Rattle.branches.specs.declared.Proposal.{Proposal}
use Rattle.branches.specs.Proposing.{Proposed}
use Rattle.branches.specs.Committing.{Committed}

-- ---- what the numbers ask

-- 40: "a transition out of range, present already, or beyond 2,048", of the plan p
pub data Unfit (p : List ℕ) (t : LabelledTransition) : Type 0 where
  origin_over : state_count p ≤ t.origin → Unfit p t
  action_over : action_count p ≤ t.action → Unfit p t
  target_over : state_count p ≤ t.target → Unfit p t
  already : Memᴰ t (plan_of p).transitions → Unfit p t
  full : 2048 ≤ transition_count p → Unfit p t

-- what 12 asks beside the loop: neither 1 to 10 nor 40
pub record Fitting (s : List ℕ) (t : LabelledTransition) : Type 0 where
  pub accepted : WellFormedSheet s
  pub fits : Unfit (plan_body s) t → ⊥

-- "A loop then reachable from state 0": by the plan's transitions and t; where t stands among them doesn't matter
abbrev pub LoopWith : List ℕ → LabelledTransition → Type 0
LoopWith s t = LoopReachable (λ u. targets u (t ∷ (plan_of (plan_body s)).transitions)) 0

-- "if the sheet will take it": neither 1 to 10, nor 40, nor 12
pub record Addable (s : List ℕ) (t : LabelledTransition) : Type 0 where
  pub fitting : Fitting s t
  pub no_loop : LoopWith s t → ⊥

-- ---- propose

-- what a proposal says of the sheet s and the transition t
pub record ProposalSays (s : List ℕ) (t : LabelledTransition) (q : Proposal) : Type 0 where
  -- "the insertion place (a transition number)": the transitions below it come before t, and t before the others
  pub place_within : q.insertion ≤ transition_count (plan_body s)
  pub before_place : (i : ℕ) → i < q.insertion → precedes (transition_of (plan_body s) i) t ≡ true
  pub after_place_holds : (i : ℕ) → q.insertion ≤ i → i < transition_count (plan_body s) → precedes t (transition_of (plan_body s) i) ≡ true
  -- "the new file's length": three bytes more
  pub length_is : q.length ≡ length (sheet_with s t)
  pub three_more : q.length ≡ length s + 3
  -- "the sheet's tag .. of the old sheet's bytes"
  pub tag_is : q.tag ≡ tag_of s

-- `propose` on the sheet s and the transition t answered so
pub record ProposeAnswered (s : List ℕ) (t : LabelledTransition) (answer : Proposed) : Type 0 where
  -- document 01: "They apply in rising order.": 1 to 10, each with its place
  pub in_order : GivenInOrder s (reported_proposal answer).number (reported_proposal answer).place
  -- "with 40, placed before 12"
  pub forty : ((reported_proposal answer).number ≡ 40) ↔ (WellFormedSheet s × Unfit (plan_body s) t)
  -- "A loop then reachable from state 0 falls under 12 in both calls."
  pub twelve : ((reported_proposal answer).number ≡ 12) ↔ (Fitting s t × LoopWith s t)
  -- not refused
  pub offered : ((reported_proposal answer).number ≡ 0) ↔ Addable s t
  -- document 01: "Other places are 0."; "An accepted call gives number 0 and place 0."
  pub place_none : WellFormedSheet s → (reported_proposal answer).place ≡ 0
  pub says : (reported_proposal answer).number ≡ 0 → ProposalSays s t (reported_proposal answer).proposal
  -- document 01: a refused call gives "any further result number 0"
  pub refused : (reported_proposal answer).number ≢ 0 → (reported_proposal answer).proposal ≡ no_proposal

-- ---- commit

-- the new sheet of the sheet s and the transition t, by the proposal q
pub record NewSheet (s : List ℕ) (t : LabelledTransition) (q : Proposal) (new : List ℕ) : Type 0 where
  -- it is accepted, and keeps every rule of a sheet
  pub passed : sheet_check new ≡ Ok tt
  pub accepted : WellFormedSheet new
  -- its length is the one proposed
  pub length_proposed : length new ≡ q.length
  -- "the transitions are the old ones and the new one", exactly; t stands behind as many of the old ones as were
  -- proposed, and their order stays
  pub exactly :
      (u : LabelledTransition)
      → Memᴰ u (plan_of (plan_body new)).transitions ↔ (Memᴰ u (plan_of (plan_body s)).transitions ⊎ (u ≡ t))
  pub inserted :
      (plan_of (plan_body new)).transitions
      ≡ take q.insertion (plan_of (plan_body s)).transitions ++ t ∷ drop q.insertion (plan_of (plan_body s)).transitions
  pub one_more : transition_count (plan_body new) ≡ suc (transition_count (plan_body s))
  -- "and S, A, actions and rule are equal"
  pub states_same : state_count (plan_body new) ≡ state_count (plan_body s)
  pub actions_same : action_count (plan_body new) ≡ action_count (plan_body s)
  pub actions_body_same : actions_body new ≡ actions_body s
  pub rule_body_same : rule_body new ≡ rule_body s
  -- no loop can be reached from state 0
  pub no_loop : LoopReachable (successors (plan_body new)) 0 → ⊥

-- `commit` on the sheet s, the transition t and the proposal q answered so, and left out' where out had been
pub record CommitAnswered (s : List ℕ) (t : LabelledTransition) (q : Proposal) (out : List ℕ) (answer : Committed) (out' : List ℕ) :
    Type 0 where
  -- document 01: "They apply in rising order.": 1 to 10, each with its place
  pub in_order : GivenInOrder s (reported_commit answer).number (reported_commit answer).place
  -- "with 40, placed before 12"
  pub forty : ((reported_commit answer).number ≡ 40) ↔ (WellFormedSheet s × Unfit (plan_body s) t)
  -- "A loop then reachable from state 0 falls under 12 in both calls."
  pub twelve : ((reported_commit answer).number ≡ 12) ↔ (Fitting s t × LoopWith s t)
  -- "a proposal that differs from the fresh one with 41, placed after 12 and before a short output"
  pub forty_one : ((reported_commit answer).number ≡ 41) ↔ (Addable s t × (q ≢ proposal_of s t))
  -- document 01: "22: output buffer too short (calls that write a sheet or a body)."
  pub twenty_two :
      ((reported_commit answer).number ≡ 22) ↔ (Addable s t × ((q ≡ proposal_of s t) × (length out < length s + 3)))
  -- not refused
  pub written :
      ((reported_commit answer).number ≡ 0) ↔ (Addable s t × ((q ≡ proposal_of s t) × (length s + 3 ≤ length out)))
  -- document 01: "Other places are 0."; "An accepted call gives number 0 and place 0."
  pub place_none : WellFormedSheet s → (reported_commit answer).place ≡ 0
  pub says : (reported_commit answer).number ≡ 0 → ProposalSays s t q
  -- the length is that of the proposal; the new sheet stands at the front of the output; document 02 (c): "output bytes past what is
  -- written stay unchanged"
  pub size_is : (reported_commit answer).number ≡ 0 → (reported_commit answer).size ≡ q.length
  pub new_sheet : (reported_commit answer).number ≡ 0 → NewSheet s t q (take q.length out')
  pub rest_kept : (reported_commit answer).number ≡ 0 → drop q.length out' ≡ drop q.length out
  -- document 01: "A refused call gives .. lengths and any further result number 0 .. and changes no buffer."
  pub refused : (reported_commit answer).number ≢ 0 → ((reported_commit answer).size ≡ 0) × (out' ≡ out)
  -- "so that an equal tag on another sheet can't let in a bad branch": whatever the proposal, an equal tag included, the call is refused
  -- and the output is as before, or the branch may be added and the one sheet with it is written
  pub nothing_else :
      (((reported_commit answer).number ≢ 0) × (out' ≡ out))
      ⊎ (((reported_commit answer).number ≡ 0) × (Addable s t × (out' ≡ sheet_with s t ++ drop (length (sheet_with s t)) out)))

-- ---- both

-- Propose and then commit, on one sheet and one transition: a call of `propose` answered a, and a call of `commit` with the proposal q and
-- an output of so many bytes answered r
pub record ProposedThenCommitted (a : Proposed) (q : Proposal) (room : ℕ) (r : Committed) : Type 0 where
  -- "checks everything afresh": where propose refuses, commit refuses with the same number and place, whatever the proposal
  pub same_refusal :
      (reported_proposal a).number ≢ 0
      → ((reported_commit r).number ≡ (reported_proposal a).number) × ((reported_commit r).place ≡ (reported_proposal a).place)
  -- "a proposal that differs from the fresh one with 41": from what propose gives
  pub forty_one : ((reported_commit r).number ≡ 41) ↔ (((reported_proposal a).number ≡ 0) × (q ≢ (reported_proposal a).proposal))
  -- so with propose's own answer, whether it offered one or not, never 41
  pub never_forty_one : q ≡ (reported_proposal a).proposal → (reported_commit r).number ≢ 41
  -- "saved as one more transition, if the sheet will take it": where the output has room, commit with propose's own answer writes
  pub saved : (reported_proposal a).number ≡ 0 → q ≡ (reported_proposal a).proposal → q.length ≤ room → (reported_commit r).number ≡ 0

-- of every call, with the tags that are known
pub record BranchesCorrect : Type 0 where
  pub tags : KnownTags
  pub proposes : (s : List ℕ) (t : Transition) (answer : Proposed) → Proposes s t answer → ProposeAnswered s (labelled t) answer
  pub commits :
      (s : List ℕ) (t : Transition) (q : Proposal) (out : List ℕ) (answer : Committed) (out' : List ℕ) → Commits s t q out answer out'
      → CommitAnswered s (labelled t) q out answer out'
  pub in_turn :
      (s : List ℕ) (t : Transition) (a : Proposed) → Proposes s t a
      → (q : Proposal) (out : List ℕ) (r : Committed) (out' : List ℕ) → Commits s t q out r out' → ProposedThenCommitted a q (length out) r
