-- Whether a plan takes a branch: by the tests, by the place, and by what the sentence says.
use Prim.Native.Nat.{ℕ, ◌<◌, ◌≤◌}
use mathlib.Core.Path.{◌≡◌, refl, sym, subst}
use mathlib.Core.Bool.{Bool, true, false, not}
use mathlib.Core.List.{List, Memᴰ}
use mathlib.Core.Logic.{◌↔◌}
use native.Mathlib.Omega.{arith}
use native.Mathlib.Decide.{dec_lt}
use lib.Dec.{eqb, ltb}
use borrow.Author.Tests.{lt-ltb, ltb-true, ltb-false, eq-eqb, eqb-true, not-true}
use Rattle.sheet.specs.Bytes.{lowest}
use Rattle.sheet.specs.Plan.{state_count, action_count, transition_count}
use Rattle.sheet.specs.TransitionSystem.{LabelledTransition, transition_of, plan_of, precedes}
use Rattle.sheet.specs.WellFormed.{WellFormedPlan}
use Rattle.sheet.proofs.TransitionOrder.{precedes_irreflexive, precedes_transitive, precedes_total}
use Rattle.sheet.proofs.TransitionSystem.{Stands, member_at, at_member}
use Rattle.sheet.proofs.Checks.Bools.{differ, holds, fails, together}
use Rattle.sheet.proofs.Checks.Checks.{and_parts, and_parts₃, all}
use Rattle.sheet.proofs.Checks.Lowest.{lowest_below, lowest_found}
use Rattle.branches.specs.Branches.{branch_in_range, same_transition, present, not_full, branch_fits, insertion_place}
use Rattle.branches.specs.BranchesCorrect.{Unfit}
use Rattle.branches.specs.Internal.Placing.{stands_at}
use Rattle.branches.proofs.Plans.Places.{rise_far, at_place, place_is}

-- the test for one and the same transition says so
same_equal : (u t : LabelledTransition) → same_transition u t ≡ true → u ≡ t
same_equal u t q =
    let b = and_parts₃ (eqb u.origin t.origin) (eqb u.action t.action) (eqb u.target t.target) q in
    λ i.
    record {
      origin = eqb-true u.origin t.origin b.0 i;
      action = eqb-true u.action t.action b.1 i;
      target = eqb-true u.target t.target b.2 i;
    }

equal_same : (u t : LabelledTransition) → u ≡ t → same_transition u t ≡ true
equal_same u t q =
    simp (
      eq-eqb u.origin t.origin (λ i. (q i).origin),
      eq-eqb u.action t.action (λ i. (q i).action),
      eq-eqb u.target t.target (λ i. (q i).target),
    )

-- no 40, part by part
pub record Fits (p : List ℕ) (t : LabelledTransition) : Type 0 where
  pub origin_below : t.origin < state_count p
  pub action_below : t.action < action_count p
  pub target_below : t.target < state_count p
  pub absent : Memᴰ t (plan_of p).transitions → ⊥
  pub room_left : transition_count p < 2048

module _ (p : List ℕ) (t : LabelledTransition) where
  abbrev is_branch : ℕ → Bool
  is_branch i = same_transition (transition_of p i) t

  member : (i : ℕ) → i < transition_count p → transition_of p i ≡ t → Memᴰ t (plan_of p).transitions
  member i l q = subst (λ (u : LabelledTransition). Memᴰ u (plan_of p).transitions) q (at_member p i l)

  found : present p t ≡ true → Memᴰ t (plan_of p).transitions
  unfolding present
  found q =
      let l : lowest is_branch (transition_count p) < transition_count p = ltb-true _ _ q in
      member (lowest is_branch (transition_count p)) l (same_equal _ t (lowest_found is_branch (transition_count p) l))

  seen : Stands p 0 (transition_count p) t → present p t ≡ true
  unfolding present
  seen s =
      holds (present p t) (λ q.
      let l : transition_count p ≤ lowest is_branch (transition_count p) = ltb-false _ _ q in
      differ (is_branch s.at) (equal_same (transition_of p s.at) t (sym s.is))
      (lowest_below is_branch (transition_count p) s.at (omega (arith, s.before_end))))

  pub present_member : (present p t ≡ true) ↔ Memᴰ t (plan_of p).transitions
  present_member = (found, λ m. seen (member_at p t m))

  module _ (k : WellFormedPlan p) where
    abbrev place : ℕ
    place = insertion_place p t

    stands_at_lem : (i : ℕ) → i < transition_count p → transition_of p i ≡ t → stands_at p t i ≡ true
    stands_at_lem i l q = all (ltb i (transition_count p)) (is_branch i) (lt-ltb i (transition_count p) l) (equal_same (transition_of p i) t q)

    -- a transition that stands somewhere stands at its place
    at_own_place : Stands p 0 (transition_count p) t → stands_at p t place ≡ true
    at_own_place s = subst (λ (i : ℕ). stands_at p t i ≡ true) here (stands_at_lem s.at s.before_end (sym s.is))
      where
        here : s.at ≡ insertion_place p t
        here =
            place_is p t s.at (omega (arith, s.before_end))
            (λ j l. subst (λ (u : LabelledTransition). precedes (transition_of p j) u ≡ true) (sym s.is)
            (rise_far p k j s.at l s.before_end))
            (λ l. subst (λ (u : LabelledTransition). precedes u t ≡ false) s.is (precedes_irreflexive t))

    -- in a plan in order a transition that is present stands at its place
    pub present_at_place : present p t ≡ stands_at p t (insertion_place p t)
    present_at_place =
        together (present p t) (stands_at p t place) (
          λ q. at_own_place (member_at p t (found q)),
          λ q.
              let b = and_parts (ltb place (transition_count p)) (is_branch place) q in
              present_member.1 (member place (ltb-true place (transition_count p) b.0) (same_equal (transition_of p place) t b.1)),
        )

    -- one that is not present comes before those from its place on
    pub after_place_holds : (Memᴰ t (plan_of p).transitions → ⊥) → (i : ℕ) → insertion_place p t ≤ i → i < transition_count p
        → precedes t (transition_of p i) ≡ true
    after_place_holds absent i h l =
        elim (dec_lt place i) [
          | yes q ↦ precedes_transitive t (transition_of p place) (transition_of p i) first (rise_far p k place i q l)
          | no q ↦ let e : place ≡ i = omega arith in subst (λ (j : ℕ). precedes t (transition_of p j) ≡ true) e first
        ]
      where
        first : precedes t (transition_of p place) ≡ true
        first =
            holds (precedes t (transition_of p place)) (λ q.
            absent (member place (omega arith) (precedes_total (transition_of p place) t (at_place p t (omega arith)) q)))

  pub fits_exactly : (branch_fits p t ≡ true) ↔ Fits p t
  unfolding branch_fits
  fits_exactly = (to, from)
    where
      to : branch_fits p t ≡ true → Fits p t
      to q =
          let b = and_parts₃ (branch_in_range p t) (not (present p t)) (not_full p) q in
          let c =
          and_parts₃ (ltb t.origin (state_count p)) (ltb t.action (action_count p)) (ltb t.target (state_count p)) b.0 in
          record {
            origin_below = ltb-true t.origin (state_count p) c.0;
            action_below = ltb-true t.action (action_count p) c.1;
            target_below = ltb-true t.target (state_count p) c.2;
            absent = λ m. differ (present p t) (present_member.1 m) (not-true (present p t) b.1);
            room_left = ltb-true (transition_count p) 2048 b.2;
          }

      from : Fits p t → branch_fits p t ≡ true
      from f =
          simp (
            lt-ltb t.origin (state_count p) f.origin_below,
            lt-ltb t.action (action_count p) f.action_below,
            lt-ltb t.target (state_count p) f.target_below,
            fails (present p t) (λ q. f.absent (found q)),
            lt-ltb (transition_count p) 2048 f.room_left,
          )

  pub unfit_exactly : (branch_fits p t ≡ false) ↔ Unfit p t
  unfit_exactly = (to, λ u. fails (branch_fits p t) (λ q. never (fits_exactly.0 q) u))
    where
      never : Fits p t → Unfit p t → ⊥
      never f (Unfit.origin_over h) = omega (arith, f.origin_below)
      never f (Unfit.action_over h) = omega (arith, f.action_below)
      never f (Unfit.target_over h) = omega (arith, f.target_below)
      never f (Unfit.already m) = f.absent m
      never f (Unfit.full h) = omega (arith, f.room_left)

      missing : branch_fits p t ≡ false → t.origin < state_count p → t.action < action_count p → t.target < state_count p
          → transition_count p < 2048 → (b : Bool) → present p t ≡ b → Unfit p t
      missing q o a g r true e = Unfit.already (found e)
      missing q o a g r false e =
          absurd
          (differ (branch_fits p t)
          (fits_exactly.1 (record {
            origin_below = o;
            action_below = a;
            target_below = g;
            absent = λ m. differ (present p t) (present_member.1 m) e;
            room_left = r;
          })) q)

      to : branch_fits p t ≡ false → Unfit p t
      to q =
          elim (dec_lt t.origin (state_count p)) [
            | no h ↦ Unfit.origin_over (omega arith)
            | yes o ↦
                elim (dec_lt t.action (action_count p)) [
                  | no h ↦ Unfit.action_over (omega arith)
                  | yes a ↦
                      elim (dec_lt t.target (state_count p)) [
                        | no h ↦ Unfit.target_over (omega arith)
                        | yes g ↦
                            elim (dec_lt (transition_count p) 2048) [
                              | no h ↦ Unfit.full (omega arith)
                              | yes r ↦ missing q o a g r (present p t) refl
                            ]
                      ]
                ]
          ]

  pub not_unfit : (Unfit p t → ⊥) ↔ Fits p t
  not_unfit = (
    λ n. fits_exactly.0 (holds (branch_fits p t) (λ q. n (unfit_exactly.0 q))),
    λ f u. differ (branch_fits p t) (fits_exactly.1 f) (unfit_exactly.1 u),
  )
