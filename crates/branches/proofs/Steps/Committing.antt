-- What the steps of commit show.
use Rattle.std.specs.Prelude.{Ok, Err}
use Prim.Native.Nat.{ℕ, ◌+◌, ◌<◌, ◌≤◌}
use mathlib.Core.Path.{◌≡◌, refl, sym, ap, ◌∙◌}
use mathlib.Core.Bool.{Bool, true, false, not, ◌&&◌}
use mathlib.Core.List.{List, ◌++◌, append_assoc}
use native.Mathlib.Omega.{arith}
use lib.ListN.{length, take, drop}
use lib.Seq.{length-take-le}
use lib.Dec.{eqb}
use borrow.Author.Tests.{le-leb, lt-leb, not-true}
use Rattle.text.specs.Placing.{place_after, buffer_after}
use Rattle.text.proofs.Placing.{Placed}
use Rattle.sheet.specs.Contents.{plan_body, actions_body, rule_body}
use Rattle.sheet.specs.Writing.{head, sheet_length}
use Rattle.sheet.specs.Writing as sheet
use Rattle.sheet.specs.declared.Refusal.TheVariants.{OutputShort}
use Rattle.sheet.specs.declared.Transition.{Transition}
use Rattle.sheet.proofs.Acceptance.Sheet.{accepted_iff, body_lengths}
use Rattle.sheet.proofs.Roundtrip.RoundTrip.{written_length}
use Rattle.branches.specs.Branches.{labelled, plan_with}
use Rattle.branches.specs.Proposing.{proposed_of}
use Rattle.branches.specs.Committing.{same_proposal, stopped_by, answer_proposal, committed_of, leaves, output_after, reported_commit, Commits}
use Rattle.branches.specs.declared.Proposal.{Proposal}
use Rattle.branches.specs.Proposing.{Proposed}
use Rattle.branches.specs.declared.ProposeError.{ProposeError}
use Rattle.branches.specs.Committing.{Committed}
use Rattle.branches.specs.declared.CommitError.TheVariants.{ProposalDiffers, Refused}
use Rattle.branches.specs.Internal.Examining.{longest_plan, Ready}
use Rattle.branches.specs.Internal.Writing.{sheet_by, WritableWith, WritesWith}
use Rattle.branches.proofs.Steps.Inserting.{four_put}
use Rattle.branches.proofs.Steps.Examining.{within_longest}

-- the sheet with the plan p, of parts that are its head and the sheet's bodies
module _ (s p : List ℕ) {actions rule : List ℕ} (out : List ℕ) (d : actions ≡ actions_body s) (e : rule ≡ rule_body s) where
  size_is : sheet_length p actions rule ≡ length (sheet_by s p)
  size_is = (λ i. sheet_length p (d i) (e i)) ∙ sym (written_length p (actions_body s) (rule_body s))

  pub no_room : length out < sheet_length p actions rule → WritesWith s p out (Err (Refused OutputShort)) out
  no_room h = (rw (lt-leb (length (sheet_by s p)) (length out) (omega (arith, size_is))) refl, refl)

  pub put_whole : sheet_length p actions rule ≤ length out → {start : List ℕ} → start ≡ head (length p) (length actions) (length rule)
      → {a b c n : ℕ} {v w x y : List ℕ} → Placed 0 out start a v
      → (b ≡ place_after p a v) × (w ≡ buffer_after p a v) → (c ≡ place_after actions b w) × (x ≡ buffer_after actions b w)
      → (n ≡ place_after rule c x) × (y ≡ buffer_after rule c x) → WritesWith s p out (Ok n) y
  unfolding sheet.sheet_of
  put_whole h {start} f one two three four =
      let fits : length (sheet_by s p) ≤ length out = omega (arith, size_is) in
      let all : start ++ p ++ actions ++ rule ≡ sheet_by s p =
      append_assoc (start ++ p) actions rule ∙ append_assoc start p (actions ++ rule)
      ∙ (λ i. f i ++ (p ++ (actions ++ rule))) ∙ (λ i. head (length p) (length (d i)) (length (e i)) ++ (p ++ (d i ++ e i))) in
      let put = four_put (sheet_by s p) out start p actions rule all fits one two three four in
      let left = put.1 ∙ ap (λ (n : ℕ). sheet_by s p ++ drop n out) (sym put.0) in
      (rw (le-leb (length (sheet_by s p)) (length out) fits) (ap Ok put.0), left)

-- the plan with the branch in the buffer
module _ (s : List ℕ) (t : Transition) (buffer : List ℕ) (ready : Ready s (labelled t) buffer) {p : List ℕ} (is : p ≡ plan_body s) where
  pub new_is : take (length p + 3) buffer ≡ plan_with (plan_body s) (labelled t)
  new_is = ap (λ (l : List ℕ). take (length l + 3) buffer) is ∙ ready.new_there

  module _ (long : longest_plan ≤ length buffer) where
    pub new_within : length p + 3 ≤ length buffer
    new_within = omega (arith, ap length is, within_longest s (labelled t) ready.passed ready.fits)

    pub new_counted : length p + 3 ≡ length (take (length p + 3) buffer)
    new_counted = sym (length-take-le (length p + 3) buffer new_within)

    pub new_writable : WritableWith s (take (length p + 3) buffer)
    new_writable =
        let b = body_lengths ((accepted_iff s).0 ready.passed).bodies_kept in
        record {
          plan_short = omega (arith, new_counted, ap length is, b.plan_most);
          actions_short = omega (arith, b.actions_most);
          rule_short = omega (arith, b.rule_most);
        }

-- the test of two proposals, as the code makes it
pub differing : (q fresh : Proposal)
    → not (eqb q.insertion fresh.insertion && (eqb q.length fresh.length && eqb q.tag fresh.tag)) ≡ true → same_proposal q fresh ≡ false
unfolding same_proposal
differing q fresh e = not-true _ e

pub same : (q fresh : Proposal)
    → not (eqb q.insertion fresh.insertion && (eqb q.length fresh.length && eqb q.tag fresh.tag)) ≡ false → same_proposal q fresh ≡ true
unfolding same_proposal
same q fresh e = go _ e
  where
    go : (b : Bool) → not b ≡ false → b ≡ true
    go true e = refl
    go false e = sym e

module _ (s : List ℕ) (t : Transition) (q : Proposal) (out : List ℕ) where
  answers : (r : Committed) (out' : List ℕ) → r ≡ committed_of s (labelled t) q (length out) → out' ≡ output_after s (labelled t) q out
      → Commits s t q out r out'
  answers r out' e f = (e, (ap reported_commit e, f))

  -- what the examination found
  module _ {found : Proposed} (answer : found ≡ proposed_of s (labelled t)) where
    pub refused : (x : ProposeError) → found ≡ Err x → Commits s t q out (Err (stopped_by x)) out
    unfolding committed_of output_after
    refused x e = answers (Err (stopped_by x)) out (rw (sym answer, e) refl) (rw (sym answer, e) refl)

    module _ (fresh : Proposal) (e : found ≡ Ok fresh) where
      pub differs : same_proposal q fresh ≡ false → Commits s t q out (Err ProposalDiffers) out
      unfolding committed_of output_after
      differs d = answers (Err ProposalDiffers) out (rw (sym answer, e, d) refl) (rw (sym answer, e, d) refl)

      pub wrote : same_proposal q fresh ≡ true → {p : List ℕ} → p ≡ plan_with (plan_body s) (labelled t)
          → {r : Committed} {out' : List ℕ} → WritesWith s p out r out' → Commits s t q out r out'
      unfolding committed_of output_after
      wrote d {p} is {r} {out'} w =
          answers r out' answered (w.1 ∙ (λ i. leaves (sheet_by s (is i)) out (answered i)))
        where
          answered : r ≡ committed_of s (labelled t) q (length out)
          answered =
              w.0 ∙ (λ i. answer_proposal true (length (sheet_by s (is i))) (length out)) ∙ rw (sym answer, e, d) refl
