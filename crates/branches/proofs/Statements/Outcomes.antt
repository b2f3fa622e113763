-- What a sheet and a branch come to, and the numbers that propose and commit share by it.
use Prim.Native.Nat.{ℕ, ◌<◌}
use mathlib.Core.Path.{◌≡◌, refl, sym, ap, ◌∙◌}
use mathlib.Core.Bool.{Bool, true, false}
use mathlib.Core.List.{List}
use mathlib.Core.Logic.{◌↔◌, ◌⊎◌, inl, inr, ◌≢◌}
use native.Mathlib.Omega.{arith}
use Rattle.sheet.specs.Bytes.{pick}
use Rattle.sheet.specs.Contents.{plan_body}
use Rattle.sheet.specs.Plan.{state_count}
use Rattle.sheet.specs.Reading.{sheet_check}
use Rattle.sheet.specs.RefusalOrder.{GivenInOrder}
use Rattle.sheet.specs.Refusals.{number_of, place_of}
use Rattle.sheet.specs.TransitionSystem.{LabelledTransition}
use Rattle.sheet.specs.WellFormed.{WellFormedPlan, WellFormedSheet}
use Rattle.sheet.specs.declared.Refusal.{Refusal}
use Rattle.sheet.specs.declared.Refusal.TheVariants.{Loop}
use Rattle.std.specs.Prelude.{Ok, Err}
use Rattle.sheet.specs.Refusals.{Check}
use Rattle.sheet.proofs.Acceptance.Numbers.{low_refusal, refused_number}
use Rattle.sheet.proofs.Acceptance.Order.{given_in_order}
use Rattle.sheet.proofs.Acceptance.Sheet.{accepted_iff, not_refused}
use Rattle.sheet.proofs.Checks.Bools.{differ}
use Rattle.graph.proofs.Looptest.LoopFree.{free_exactly_at, loop_reachable}
use Rattle.branches.specs.Branches.{branch_fits, plan_with}
use Rattle.branches.specs.Proposing.{proposal_of, free_with, answer_branch, answer_sheet, proposed_of}
use Rattle.branches.specs.BranchesCorrect.{Unfit, Fitting, LoopWith, Addable}
use Rattle.branches.specs.Proposing.{Proposed}
use Rattle.branches.specs.declared.ProposeError.TheVariants.{BranchUnfit, Refused}
use Rattle.branches.proofs.Plans.Fitting.{Fits, unfit_exactly, not_unfit}
use Rattle.branches.proofs.Plans.With.{states_same, with_kept}
use Rattle.branches.proofs.Plans.Loops.{loop_exactly}

-- the refusal of a check that failed
abbrev refusal_in : Check → Refusal
refusal_in (Ok tt) = Loop
refusal_in (Err x) = x

-- the cases of a sheet and a branch, with what propose answers in each
pub data Outcome (s : List ℕ) (t : LabelledTransition) : Proposed → Type 0 where
  unread : (x : Refusal) → sheet_check s ≡ Err x → Outcome s t (Err (Refused x))
  unfit : WellFormedSheet s → Unfit (plan_body s) t → Outcome s t (Err BranchUnfit)
  looping : Fitting s t → LoopWith s t → Outcome s t (Err (Refused Loop))
  taken : Addable s t → Outcome s t (Ok (proposal_of s t))

-- the numbers for a branch that may be added: none, and of commit alone 22 and 41
pub data Later : ℕ → Type 0 where
  none : Later 0
  short : Later 22
  differing : Later 41

-- the cases with the number and the place that are reported
pub data Numbered (s : List ℕ) (t : LabelledTransition) : ℕ → ℕ → Type 0 where
  unread : (x : Refusal) → sheet_check s ≡ Err x → Numbered s t (number_of x) (place_of x)
  unfit : WellFormedSheet s → Unfit (plan_body s) t → Numbered s t 40 0
  looping : Fitting s t → LoopWith s t → Numbered s t 12 0
  taken : {n : ℕ} → Addable s t → Later n → Numbered s t n 0

-- the branch may not be added, and the number is none of those for one that may
pub record Stopped (s : List ℕ) (t : LabelledTransition) (n : ℕ) : Type 0 where
  pub not_added : Addable s t → ⊥
  pub not_none : n ≢ 0
  pub not_short : n ≢ 22
  pub not_differing : n ≢ 41

module _ (s : List ℕ) (t : LabelledTransition) where
  -- ---- the cases shut one another out

  pub stopped_unread : {x : Refusal} → sheet_check s ≡ Err x → Stopped s t (number_of x)
  stopped_unread {x} e =
      record {
        not_added = λ a. not_refused s e a.fitting.accepted;
        not_none = λ h. omega (arith, refused_number x);
        not_short = λ h. omega (arith, low_refusal s e);
        not_differing = λ h. omega (arith, low_refusal s e);
      }

  pub stopped_unfit : Unfit (plan_body s) t → Stopped s t 40
  stopped_unfit u =
      record {
        not_added = λ a. a.fitting.fits u;
        not_none = λ h. omega arith;
        not_short = λ h. omega arith;
        not_differing = λ h. omega arith;
      }

  pub stopped_looping : LoopWith s t → Stopped s t 12
  stopped_looping l =
      record {
        not_added = λ a. a.no_loop l;
        not_none = λ h. omega arith;
        not_short = λ h. omega arith;
        not_differing = λ h. omega arith;
      }

  -- ---- the tests taken apart

  module _ (f : Fitting s t) where
    abbrev old : List ℕ
    old = plan_body s

    abbrev new : List ℕ
    new = plan_with old t

    kept : WellFormedPlan old
    kept = f.accepted.bodies_kept.plan_kept

    fits : Fits old t
    fits = (not_unfit old t).0 f.fits

    start_below : 0 < state_count new
    start_below = omega (arith, states_same old t, kept.some_states)

    by_loop : (b : Bool) → free_with s t ≡ b → Outcome s t (pick b (Ok (proposal_of s t)) (Err (Refused Loop)))
    by_loop true e =
        taken (record {
          fitting = f;
          no_loop = λ l. (free_exactly_at new (with_kept old t kept fits) 0 start_below).0 e ((loop_exactly old t kept fits).1 l);
        })
    by_loop false e =
        looping f ((loop_exactly old t kept fits).0 (loop_reachable new (with_kept old t kept fits) 0 start_below e))

  by_fit : WellFormedSheet s → (b : Bool) → branch_fits (plan_body s) t ≡ b
      → Outcome s t (answer_branch b (free_with s t) (proposal_of s t))
  by_fit k true e =
      by_loop (record { accepted = k; fits = λ u. differ (branch_fits (plan_body s) t) e ((unfit_exactly (plan_body s) t).1 u) })
      (free_with s t) refl
  by_fit k false e = unfit k ((unfit_exactly (plan_body s) t).0 e)

  by_sheet : (c : Check) → sheet_check s ≡ c
      → Outcome s t (answer_sheet c (answer_branch (branch_fits (plan_body s) t) (free_with s t) (proposal_of s t)))
  by_sheet (Ok tt) e = by_fit ((accepted_iff s).0 e) (branch_fits (plan_body s) t) refl
  by_sheet (Err x) e = unread x e

  pub outcome : Outcome s t (proposed_of s t)
  unfolding proposed_of
  outcome = by_sheet (sheet_check s) refl

  -- ---- the numbers

  -- of a sheet that is read the number is 0 or above 10
  later_high : {n : ℕ} → Later n → (n ≡ 0) ⊎ (10 < n)
  later_high none = inl refl
  later_high short = inr (omega arith)
  later_high differing = inr (omega arith)

  read_high : {n p : ℕ} → Numbered s t n p → WellFormedSheet s → (n ≡ 0) ⊎ (10 < n)
  read_high (unread x e) k = absurd (not_refused s e k)
  read_high (unfit j u) k = inr (omega arith)
  read_high (looping f l) k = inr (omega arith)
  read_high (taken a z) k = later_high z

  refusal_given : {n p : ℕ} → Numbered s t n p → (y : Refusal) → sheet_check s ≡ Err y → (n ≡ number_of y) × (p ≡ place_of y)
  refusal_given (unread x e) y f = let same : x ≡ y = ap refusal_in (sym e ∙ f) in (ap number_of same, ap place_of same)
  refusal_given (unfit k u) y f = absurd (not_refused s f k)
  refusal_given (looping g l) y f = absurd (not_refused s f g.accepted)
  refusal_given (taken a z) y f = absurd (not_refused s f a.fitting.accepted)

  pub in_order : {n p : ℕ} → Numbered s t n p → GivenInOrder s n p
  in_order {n} {p} c = given_in_order s n p (refusal_given c) (λ e. read_high c ((accepted_iff s).0 e))

  not_later : {n : ℕ} → Later n → (n ≢ 40) × (n ≢ 12)
  not_later none = (λ h. omega arith, λ h. omega arith)
  not_later short = (λ h. omega arith, λ h. omega arith)
  not_later differing = (λ h. omega arith, λ h. omega arith)

  pub forty : {n p : ℕ} → Numbered s t n p → (n ≡ 40) ↔ (WellFormedSheet s × Unfit (plan_body s) t)
  forty (unread x e) = (λ h. absurd (omega (arith, low_refusal s e)), λ g. absurd (not_refused s e g.0))
  forty (unfit k u) = (λ h. (k, u), λ g. refl)
  forty (looping f l) = (λ h. absurd (omega arith), λ g. absurd (f.fits g.1))
  forty (taken a z) = (λ h. absurd ((not_later z).0 h), λ g. absurd (a.fitting.fits g.1))

  pub twelve : {n p : ℕ} → Numbered s t n p → (n ≡ 12) ↔ (Fitting s t × LoopWith s t)
  twelve (unread x e) = (λ h. absurd (omega (arith, low_refusal s e)), λ g. absurd (not_refused s e g.0.accepted))
  twelve (unfit k u) = (λ h. absurd (omega arith), λ g. absurd (g.0.fits u))
  twelve (looping f l) = (λ h. (f, l), λ g. refl)
  twelve (taken a z) = (λ h. absurd ((not_later z).1 h), λ g. absurd (a.no_loop g.1))

  pub place_none : {n p : ℕ} → Numbered s t n p → WellFormedSheet s → p ≡ 0
  place_none (unread x e) k = absurd (not_refused s e k)
  place_none (unfit j u) k = refl
  place_none (looping f l) k = refl
  place_none (taken a z) k = refl
