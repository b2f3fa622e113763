-- Propose and commit, of every call.
use Rattle.std.specs.Prelude.{Ok, Err}
use Prim.Native.Nat.{ℕ}
use mathlib.Core.Path.{◌≡◌, refl, sym, ap, subst, ◌∙◌}
use mathlib.Core.List.{List}
use native.Mathlib.Omega.{arith}
use lib.ListN.{length}
use Rattle.sheet.specs.TransitionSystem.{LabelledTransition}
use Rattle.sheet.specs.declared.Refusal.TheVariants.{Loop}
use Rattle.branches.specs.Branches.{labelled, sheet_with}
use Rattle.branches.specs.Proposing.{proposal_of, proposed_of, reported_proposal}
use Rattle.branches.specs.Committing.{answer_commit, committed_of, output_after, reported_commit}
use Rattle.branches.specs.BranchesCorrect.{Addable, ProposeAnswered, CommitAnswered, ProposedThenCommitted, BranchesCorrect}
use Rattle.branches.specs.declared.Proposal.{Proposal}
use Rattle.branches.specs.Proposing.{Proposed}
use Rattle.branches.specs.declared.ProposeError.TheVariants.{BranchUnfit, Refused}
use Rattle.branches.specs.Committing.{Committed}
use Rattle.branches.proofs.Tags.Known.{known_tags}
use Rattle.branches.proofs.Plans.Sheets.{sheet_length_lem}
use Rattle.branches.proofs.Statements.Outcomes.{Outcome, Stopped, outcome, stopped_unread, stopped_unfit, stopped_looping}
use Rattle.branches.proofs.Statements.ProposeAnswered.{propose_answered}
use Rattle.branches.proofs.Statements.CommitAnswered.{commit_answered}

module _ (s : List ℕ) (t : LabelledTransition) where
  proposing : (answer : Proposed) → answer ≡ proposed_of s t → ProposeAnswered s t answer
  proposing answer e = subst (ProposeAnswered s t) (sym e) (propose_answered s t (outcome s t))

  module _ (q : Proposal) (out : List ℕ) where
    committed : CommitAnswered s t q out (committed_of s t q (length out)) (output_after s t q out)
    unfolding committed_of output_after
    committed = commit_answered s t q out (outcome s t)

    committing : (answer : Committed) (out' : List ℕ) → answer ≡ committed_of s t q (length out) → out' ≡ output_after s t q out
        → CommitAnswered s t q out answer out'
    committing answer out' e f =
        subst (λ (w : Committed). CommitAnswered s t q out w out') (sym e)
        (subst (CommitAnswered s t q out (committed_of s t q (length out))) (sym f) committed)

    -- ---- propose and then commit

    -- what commit answers by what propose answers
    abbrev next : Proposed → Committed
    next a = answer_commit a q (length (sheet_with s t)) (length out)

    refused : (a : Proposed) → Stopped s t (reported_proposal a).number
        → (reported_commit (next a)).number ≡ (reported_proposal a).number → (reported_commit (next a)).place ≡ (reported_proposal a).place
        → ProposedThenCommitted a q (length out) (next a)
    refused a z n p =
        record {
          same_refusal = λ h. (n, p);
          forty_one = (λ h. absurd (z.not_differing (sym n ∙ h)), λ g. absurd (z.not_none g.0));
          never_forty_one = λ e h. z.not_differing (sym n ∙ h);
          saved = λ h e l. absurd (z.not_none h);
        }

    offered : Addable s t → ProposedThenCommitted (Ok (proposal_of s t)) q (length out) (next (Ok (proposal_of s t)))
    offered a =
        let c = commit_answered s t q out (Outcome.taken a) in
        record {
          same_refusal = λ h. absurd (h refl);
          forty_one = (λ h. (refl, (c.forty_one.0 h).1), λ g. c.forty_one.1 (a, g.1));
          never_forty_one = λ e h. (c.forty_one.0 h).1 e;
          saved = λ h e l.
              let long : q.length ≡ length (sheet_with s t) = ap (λ (x : Proposal). x.length) e in
              c.written.1 (a, (e, omega (arith, long, sheet_length_lem s t a.fitting.accepted)));
        }

    in_turn : {a : Proposed} → Outcome s t a → ProposedThenCommitted a q (length out) (next a)
    in_turn (Outcome.unread x e) = refused (Err (Refused x)) (stopped_unread s t e) refl refl
    in_turn (Outcome.unfit k u) = refused (Err BranchUnfit) (stopped_unfit s t u) refl refl
    in_turn (Outcome.looping f l) = refused (Err (Refused Loop)) (stopped_looping s t l) refl refl
    in_turn (Outcome.taken a) = offered a

    after_proposing : ProposedThenCommitted (proposed_of s t) q (length out) (committed_of s t q (length out))
    unfolding committed_of
    after_proposing = in_turn (outcome s t)

pub branches_correct : BranchesCorrect
branches_correct =
    record {
      tags = known_tags;
      proposes = λ s t answer c. proposing s (labelled t) answer c.0;
      commits = λ s t q out answer out' c. committing s (labelled t) q out answer out' c.0 c.1.1;
      in_turn = λ s t a c q out r out' d.
          subst (λ (x : Proposed). ProposedThenCommitted x q (length out) r) (sym c.0)
          (subst (ProposedThenCommitted (proposed_of s (labelled t)) q (length out)) (sym d.0) (after_proposing s (labelled t) q out));
    }
