-- Every call of propose, by the cases of its sheet and branch.
use Rattle.std.specs.Prelude.{Ok, Err}
use Prim.Native.Nat.{ℕ}
use mathlib.Core.Path.{◌≡◌, refl}
use mathlib.Core.List.{List}
use Rattle.sheet.specs.Contents.{plan_body}
use Rattle.sheet.specs.TransitionSystem.{LabelledTransition}
use Rattle.sheet.specs.declared.Refusal.TheVariants.{Loop}
use Rattle.branches.specs.Proposing.{proposal_of, no_proposal, reported_proposal}
use Rattle.branches.specs.BranchesCorrect.{Addable, ProposalSays, ProposeAnswered}
use Rattle.branches.specs.Proposing.{Proposed}
use Rattle.branches.specs.declared.ProposeError.TheVariants.{BranchUnfit, Refused}
use Rattle.branches.proofs.Plans.Places.{place_within, before_place}
use Rattle.branches.proofs.Plans.Fitting.{not_unfit, after_place_holds}
use Rattle.branches.proofs.Plans.Sheets.{sheet_length_lem}
use Rattle.branches.proofs.Statements.Outcomes.{Outcome, Later, Numbered, Stopped, stopped_unread, stopped_unfit, stopped_looping}
use Rattle.branches.proofs.Statements.Outcomes.{in_order, forty, twelve, place_none}

module _ (s : List ℕ) (t : LabelledTransition) where
  pub fresh_says : Addable s t → ProposalSays s t (proposal_of s t)
  fresh_says a =
      let k = a.fitting.accepted in
      record {
        place_within = place_within (plan_body s) t;
        before_place = before_place (plan_body s) t;
        after_place_holds = after_place_holds (plan_body s) t k.bodies_kept.plan_kept ((not_unfit (plan_body s) t).0 a.fitting.fits).absent;
        length_is = refl;
        three_more = sheet_length_lem s t k;
        tag_is = refl;
      }

  abbrev Reported : Proposed → Type 0
  Reported answer = Numbered s t (reported_proposal answer).number (reported_proposal answer).place

  refusing : (answer : Proposed) → (reported_proposal answer).proposal ≡ no_proposal → Stopped s t (reported_proposal answer).number
      → Reported answer → ProposeAnswered s t answer
  refusing answer q z c =
      record {
        in_order = in_order s t c;
        forty = forty s t c;
        twelve = twelve s t c;
        offered = (λ h. absurd (z.not_none h), λ a. absurd (z.not_added a));
        place_none = place_none s t c;
        says = λ h. absurd (z.not_none h);
        refused = λ h. q;
      }

  offering : Addable s t → ProposeAnswered s t (Ok (proposal_of s t))
  offering a =
      let c : Reported (Ok (proposal_of s t)) = Numbered.taken a Later.none in
      record {
        in_order = in_order s t c;
        forty = forty s t c;
        twelve = twelve s t c;
        offered = (λ h. a, λ g. refl);
        place_none = place_none s t c;
        says = λ h. fresh_says a;
        refused = λ h. absurd (h refl);
      }

  pub propose_answered : {answer : Proposed} → Outcome s t answer → ProposeAnswered s t answer
  propose_answered (Outcome.unread x e) = refusing (Err (Refused x)) refl (stopped_unread s t e) (Numbered.unread x e)
  propose_answered (Outcome.unfit k u) = refusing (Err BranchUnfit) refl (stopped_unfit s t u) (Numbered.unfit k u)
  propose_answered (Outcome.looping f l) = refusing (Err (Refused Loop)) refl (stopped_looping s t l) (Numbered.looping f l)
  propose_answered (Outcome.taken a) = offering a
