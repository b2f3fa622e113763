-- What the steps of the examination of a branch show.
use Prim.Native.Nat.{ℕ, ◌+◌, ◌≤◌}
use mathlib.Core.Path.{◌≡◌, refl, sym, ap, subst, ◌∙◌}
use mathlib.Core.Bool.{true, false}
use mathlib.Core.List.{List}
use native.Mathlib.Omega.{arith}
use lib.ListN.{length, take}
use Rattle.text.specs.Placing.{Puts}
use Rattle.text.proofs.Placing.{puts_within, puts_taken}
use Rattle.sheet.specs.Bytes.{pick}
use Rattle.sheet.specs.Contents.{plan_body}
use Rattle.sheet.specs.Reading.{sheet_check}
use Rattle.sheet.specs.TransitionSystem.{LabelledTransition}
use Rattle.sheet.specs.WellFormed.{WellFormedSheet, WellFormedPlan}
use Rattle.sheet.specs.declared.Refusal.{Refusal}
use Rattle.sheet.specs.declared.Refusal.TheVariants.{Loop}
use Rattle.std.specs.Prelude.{Ok, Err}
use Rattle.sheet.proofs.Acceptance.Sheet.{accepted_iff}
use Rattle.sheet.proofs.Limits.Longest.{lengths}
use Rattle.graph.specs.LoopTest.{loop_free}
use Rattle.branches.specs.Tags.{tag_of}
use Rattle.branches.specs.Branches.{branch_fits, insertion_place, plan_with_at, plan_with}
use Rattle.branches.specs.Proposing.{proposal_of, proposed_of}
use Rattle.branches.specs.declared.Proposal.{Proposal}
use Rattle.branches.specs.Proposing.{Proposed}
use Rattle.branches.specs.declared.ProposeError.TheVariants.{BranchUnfit, Refused}
use Rattle.branches.specs.Internal.Inserting.{Inserting}
use Rattle.branches.specs.Internal.Examining.{longest_plan, Looking, looked_of, Examined}
use Rattle.branches.proofs.Plans.Places.{place_within}
use Rattle.branches.proofs.Plans.Fitting.{Fits, fits_exactly}
use Rattle.branches.proofs.Plans.With.{with_length, with_kept}
use Rattle.branches.proofs.Plans.Sheets.{sheet_length_lem}

-- ---- the answer where the plan takes the branch

module _ (s : List ℕ) (place : ℕ) (new : List ℕ) where
  pub looping : loop_free new 0 ≡ false → Err (Refused Loop) ≡ looked_of s place new
  looping e = rw e refl

  pub offered : loop_free new 0 ≡ true → {tag : ℕ} → tag ≡ tag_of s
      → Ok (record { insertion = place; length = length s + 3; tag = tag }) ≡ looked_of s place new
  offered e d = rw e (λ i. Ok (record { insertion = place; length = length s + 3; tag = d i }))

-- ---- an accepted sheet

module _ (s : List ℕ) (t : LabelledTransition) (passed : sheet_check s ≡ Ok tt) where
  accepted : WellFormedSheet s
  accepted = (accepted_iff s).0 passed

  pub plan_kept : WellFormedPlan (plan_body s)
  plan_kept = accepted.bodies_kept.plan_kept

  pub examined_unfit : branch_fits (plan_body s) t ≡ false → (buffer : List ℕ) → Examined s t (Err BranchUnfit) buffer
  unfolding proposed_of
  examined_unfit e buffer = record { answer = rw (passed, e) refl; ready = λ q d. absurd (distinct q d) }
    where
      distinct : (q : Proposal) → (Err BranchUnfit) ≡ Ok q → ⊥
      distinct q d = let z : ◌≡◌ {A = ℕ} 0 1 = cc in omega arith

  module _ (e : branch_fits (plan_body s) t ≡ true) where
    fits : Fits (plan_body s) t
    fits = (fits_exactly (plan_body s) t).0 e

    -- the plan with the branch is no longer than the longest
    pub within_longest : length (plan_body s) + 3 ≤ longest_plan
    within_longest = omega (arith, plan_kept.exact, fits.room_left)

    module _ (place : ℕ) (at : place ≡ insertion_place (plan_body s) t) where
      pub insertable : (room : List ℕ) → longest_plan ≤ length room → Inserting (plan_body s) place room
      insertable room h =
          record {
            kept = plan_kept;
            place_within = omega (arith, place_within (plan_body s) t);
            room_enough = omega (arith, within_longest);
          }

      -- the buffer once the plan with the branch stands in it
      module _ {n : ℕ} (room : List ℕ) {buffer : List ℕ} (put : Puts (plan_with_at (plan_body s) t place) n room buffer) where
        there : take n buffer ≡ plan_with (plan_body s) t
        unfolding plan_with
        there = puts_taken (plan_with_at (plan_body s) t place) room put ∙ ap (plan_with_at (plan_body s) t) at

        pub put_within : (n ≤ length buffer) × (n ≡ length (take n buffer))
        put_within = puts_within (plan_with_at (plan_body s) t place) room put

        size : n ≡ length (plan_body s) + 3
        size = put_within.1 ∙ ap length there ∙ with_length (plan_body s) t plan_kept

        pub looking : Looking s place (take n buffer)
        looking =
            record {
              kept = subst WellFormedPlan (sym there) (with_kept (plan_body s) t plan_kept fits);
              place_small = omega (arith, place_within (plan_body s) t, plan_kept.few_transitions);
              short = lengths.none_longer s passed;
            }

        pub examined : (r : Proposed) → r ≡ looked_of s place (take n buffer) → Examined s t r buffer
        unfolding proposed_of
        examined r d =
            record {
              answer = answer;
              ready = λ q x. record { passed = passed; fits = e; new_there = ap (λ (m : ℕ). take m buffer) (sym size) ∙ there };
            }
          where
            proposal : ◌≡◌ {A = Proposal} (record { insertion = place; length = length s + 3; tag = tag_of s }) (proposal_of s t)
            proposal = λ i. record { insertion = at i; length = sym (sheet_length_lem s t accepted) i; tag = tag_of s }

            answer : r ≡ proposed_of s t
            answer =
                d ∙ (λ i. pick (loop_free (there i) 0) (Ok (proposal i)) (Err (Refused Loop)))
                ∙ rw (passed, e) refl

pub unread : (s : List ℕ) (t : LabelledTransition) (x : Refusal) → sheet_check s ≡ Err x → (buffer : List ℕ)
    → Examined s t (Err (Refused x)) buffer
unfolding proposed_of
unread s t x e buffer = record { answer = rw e refl; ready = λ q d. absurd (distinct q d) }
  where
    distinct : (q : Proposal) → Err (Refused x) ≡ Ok q → ⊥
    distinct q d = let z : ◌≡◌ {A = ℕ} 0 1 = cc in omega arith
