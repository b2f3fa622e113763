-- Every call of commit, by the cases of its sheet and branch, and of its proposal and output.
use Rattle.std.specs.Prelude.{Ok, Err}
use Prim.Native.Nat.{ℕ, ◌+◌, ◌<◌, ◌≤◌}
use mathlib.Core.Path.{◌≡◌, refl, sym, ap, subst, ◌∙◌}
use mathlib.Core.Bool.{Bool, true, false}
use mathlib.Core.List.{List, ◌++◌}
use mathlib.Core.Logic.{◌≢◌, inl, inr}
use native.Mathlib.Omega.{arith}
use lib.Dec.{eqb, leb}
use lib.ListN.{length, take, drop}
use lib.Seq.{take_at, drop_at}
use borrow.Author.Tests.{leb-true, leb-false, eqb-true, eq-eqb}
use Rattle.sheet.specs.Bytes.{pick}
use Rattle.sheet.specs.TransitionSystem.{LabelledTransition}
use Rattle.sheet.specs.declared.Refusal.TheVariants.{Loop, OutputShort}
use Rattle.sheet.proofs.Checks.Bools.{differ}
use Rattle.sheet.proofs.Checks.Checks.{and_parts₃, all}
use Rattle.branches.specs.Branches.{sheet_with}
use Rattle.branches.specs.Proposing.{proposal_of}
use Rattle.branches.specs.Committing.{same_proposal, answer_proposal, answer_commit, leaves, reported_commit}
use Rattle.branches.specs.BranchesCorrect.{Addable, ProposalSays, NewSheet, CommitAnswered}
use Rattle.branches.specs.declared.Proposal.{Proposal}
use Rattle.branches.specs.Proposing.{Proposed}
use Rattle.branches.specs.Committing.{Committed}
use Rattle.branches.specs.declared.CommitError.TheVariants.{BranchUnfit, ProposalDiffers, Refused}
use Rattle.branches.proofs.Plans.Sheets.{sheet_length_lem, new_sheet}
use Rattle.branches.proofs.Statements.Outcomes.{Outcome, Later, Numbered, Stopped, stopped_unread, stopped_unfit, stopped_looping}
use Rattle.branches.proofs.Statements.Outcomes.{in_order, forty, twelve, place_none}
use Rattle.branches.proofs.Statements.ProposeAnswered.{fresh_says}

-- the test of two proposals tells whether they are the same
module _ (q fresh : Proposal) where
  abbrev places : Bool
  places = eqb q.insertion fresh.insertion

  abbrev lengths : Bool
  lengths = eqb q.length fresh.length

  abbrev tags : Bool
  tags = eqb q.tag fresh.tag

  test_same : same_proposal q fresh ≡ true → q ≡ fresh
  unfolding same_proposal
  test_same e =
      let parts = and_parts₃ places lengths tags e in
      let p : q.insertion ≡ fresh.insertion = eqb-true q.insertion fresh.insertion parts.0 in
      let l : q.length ≡ fresh.length = eqb-true q.length fresh.length parts.1 in
      let t : q.tag ≡ fresh.tag = eqb-true q.tag fresh.tag parts.2 in
      λ i. record { insertion = p i; length = l i; tag = t i }

  same_test : q ≡ fresh → same_proposal q fresh ≡ true
  unfolding same_proposal
  same_test e =
      all places _ (eq-eqb q.insertion fresh.insertion (ap (λ (x : Proposal). x.insertion) e))
      (all lengths tags (eq-eqb q.length fresh.length (ap (λ (x : Proposal). x.length) e))
      (eq-eqb q.tag fresh.tag (ap (λ (x : Proposal). x.tag) e)))

module _ (s : List ℕ) (t : LabelledTransition) (q : Proposal) (out : List ℕ) where
  abbrev fresh : Proposal
  fresh = proposal_of s t

  abbrev new : List ℕ
  new = sheet_with s t

  abbrev Reported : Committed → Type 0
  Reported answer = Numbered s t (reported_commit answer).number (reported_commit answer).place

  -- the call answered so, and left what that leaves
  abbrev Answered : Committed → Type 0
  Answered answer = CommitAnswered s t q out answer (leaves new out answer)

  refusing : (answer : Committed) → (reported_commit answer).size ≡ 0 → Stopped s t (reported_commit answer).number → Reported answer
      → CommitAnswered s t q out answer out
  refusing answer n z c =
      record {
        in_order = in_order s t c;
        forty = forty s t c;
        twelve = twelve s t c;
        forty_one = (λ h. absurd (z.not_differing h), λ g. absurd (z.not_added g.0));
        twenty_two = (λ h. absurd (z.not_short h), λ g. absurd (z.not_added g.0));
        written = (λ h. absurd (z.not_none h), λ g. absurd (z.not_added g.0));
        place_none = place_none s t c;
        says = λ h. absurd (z.not_none h);
        size_is = λ h. absurd (z.not_none h);
        new_sheet = λ h. absurd (z.not_none h);
        rest_kept = λ h. absurd (z.not_none h);
        refused = λ h. (n, refl);
        nothing_else = inl (z.not_none, refl);
      }

  -- ---- a branch that may be added

  module _ (a : Addable s t) where
    other_proposal : q ≢ fresh → Answered (Err ProposalDiffers)
    other_proposal d =
        let c : Reported (Err ProposalDiffers) = Numbered.taken a Later.differing in
        record {
          in_order = in_order s t c;
          forty = forty s t c;
          twelve = twelve s t c;
          forty_one = (λ h. (a, d), λ g. refl);
          twenty_two = (λ h. absurd (omega arith), λ g. absurd (d g.1.0));
          written = (λ h. absurd (omega arith), λ g. absurd (d g.1.0));
          place_none = place_none s t c;
          says = λ h. absurd (omega arith);
          size_is = λ h. absurd (omega arith);
          new_sheet = λ h. absurd (omega arith);
          rest_kept = λ h. absurd (omega arith);
          refused = λ h. (refl, refl);
          nothing_else = inl (λ h. omega arith, refl);
        }

    three_more : length new ≡ length s + 3
    three_more = sheet_length_lem s t a.fitting.accepted

    module _ (e : q ≡ fresh) where
      by_room : (b : Bool) → leb (length new) (length out) ≡ b → Answered (pick b (Ok (length new)) (Err (Refused OutputShort)))
      by_room false r =
          let c : Reported (Err (Refused OutputShort)) = Numbered.taken a Later.short in
          let over : length out < length s + 3 = omega (arith, leb-false (length new) (length out) r, three_more) in
          record {
            in_order = in_order s t c;
            forty = forty s t c;
            twelve = twelve s t c;
            forty_one = (λ h. absurd (omega arith), λ g. absurd (g.1 e));
            twenty_two = (λ h. (a, (e, over)), λ g. refl);
            written = (λ h. absurd (omega arith), λ g. absurd (omega (arith, over, g.1.1)));
            place_none = place_none s t c;
            says = λ h. absurd (omega arith);
            size_is = λ h. absurd (omega arith);
            new_sheet = λ h. absurd (omega arith);
            rest_kept = λ h. absurd (omega arith);
            refused = λ h. (refl, refl);
            nothing_else = inl (λ h. omega arith, refl);
          }
      by_room true r =
          let c : Reported (Ok (length new)) = Numbered.taken a Later.none in
          let fits : length s + 3 ≤ length out = omega (arith, leb-true (length new) (length out) r, three_more) in
          let long : length new ≡ q.length = ap (λ (x : Proposal). x.length) (sym e) in
          let rest : List ℕ = drop (length new) out in
          record {
            in_order = in_order s t c;
            forty = forty s t c;
            twelve = twelve s t c;
            forty_one = (λ h. absurd (omega arith), λ g. absurd (g.1 e));
            twenty_two = (λ h. absurd (omega arith), λ g. absurd (omega (arith, fits, g.1.1)));
            written = (λ h. (a, (e, fits)), λ g. refl);
            place_none = place_none s t c;
            says = λ h. subst (ProposalSays s t) (sym e) (fresh_says s t a);
            size_is = λ h. long;
            new_sheet = λ h.
                subst (λ (x : Proposal). NewSheet s t x (take x.length (new ++ rest))) (sym e)
                (subst (NewSheet s t (proposal_of s t)) (sym (take_at new rest (length new) refl)) (new_sheet s t a));
            rest_kept = λ h. drop_at new rest q.length long ∙ ap (λ (n : ℕ). drop n out) long;
            refused = λ h. absurd (h refl);
            nothing_else = inr (refl, (a, refl));
          }

    by_proposal : (b : Bool) → same_proposal q fresh ≡ b → Answered (answer_proposal b (length new) (length out))
    by_proposal true p = by_room (test_same q fresh p) (leb (length new) (length out)) refl
    by_proposal false p = other_proposal (λ e. differ (same_proposal q fresh) (same_test q fresh e) p)

  pub commit_answered : {examined : Proposed} → Outcome s t examined → Answered (answer_commit examined q (length new) (length out))
  commit_answered (Outcome.unread x e) = refusing (Err (Refused x)) refl (stopped_unread s t e) (Numbered.unread x e)
  commit_answered (Outcome.unfit k u) = refusing (Err BranchUnfit) refl (stopped_unfit s t u) (Numbered.unfit k u)
  commit_answered (Outcome.looping f l) = refusing (Err (Refused Loop)) refl (stopped_looping s t l) (Numbered.looping f l)
  commit_answered (Outcome.taken a) = by_proposal a (same_proposal q fresh) refl
