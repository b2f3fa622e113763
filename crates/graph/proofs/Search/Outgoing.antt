-- Transitions stand in the order of their origins: those of a state are the ones from its first up to the first of the next state. A state whose
-- successors are all settled is settled.
use Prim.Native.Nat.{ℕ, zero, suc, ◌+◌, ◌<◌, ◌≤◌}
use mathlib.Core.Bool.{true}
use mathlib.Core.List.{List, Memᴰ}
use mathlib.Core.Logic.{inl, inr}
use mathlib.Core.Path.{◌≡◌, sym, ap, subst, ◌∙◌}
use native.Mathlib.Omega.{arith}
use native.Mathlib.Decide.{dec_lt}
use lib.Dec.{leb}
use borrow.Author.Tests.{leb-true, leb-false}
use Rattle.sheet.specs.Plan.{state_count, transition_count, origin, label, target}
use Rattle.sheet.specs.WellFormed.{WellFormedPlan, Before}
use Rattle.sheet.proofs.Checks.Lowest.{lowest_bound, lowest_below, lowest_found}
use Rattle.sheet.specs.TransitionSystem.{LabelledTransition, plan_of}
use Rattle.sheet.proofs.TransitionSystem.{member_at, at_member}
use Rattle.graph.specs.LoopTest.{settled}
use Rattle.graph.specs.Successors.{successors}
use Rattle.graph.specs.Explored.{first_from}
use Rattle.graph.proofs.Looptest.Settled.{all_members, settled_reaches_none, settled_exactly}
use Rattle.graph.proofs.Looptest.Successors.{target_among, target_of_lem, successor_below}

module _ (p : List ℕ) (kept : WellFormedPlan p) where
  origin_rises : (i : ℕ) → suc i < transition_count p → origin p i ≤ origin p (suc i)
  origin_rises i h = go (kept.rising i h)
    where
      go : Before (origin p i) (label p i) (target p i) (origin p (suc i)) (label p (suc i)) (target p (suc i)) → origin p i ≤ origin p (suc i)
      go (inl l) = omega arith
      go (inr e) = omega (arith, e.0)

  pub origin_order : (i j : ℕ) → i ≤ j → j < transition_count p → origin p i ≤ origin p j
  origin_order i zero h l = let e : i ≡ 0 = omega arith in omega (arith, ap (origin p) e)
  origin_order i (suc j) h l =
      elim (dec_lt i (suc j)) [
        | yes q ↦ omega (arith, origin_order i j (omega arith) (omega arith), origin_rises j l)
        | no q ↦ let e : i ≡ suc j = omega arith in omega (arith, ap (origin p) e)
      ]

  pub first_bound : (s : ℕ) → first_from p s ≤ transition_count p
  unfolding first_from
  first_bound s = lowest_bound (λ i. leb s (origin p i)) (transition_count p)

  pub first_below : (s i : ℕ) → i < first_from p s → origin p i < s
  unfolding first_from
  first_below s i h = leb-false s (origin p i) (lowest_below (λ i. leb s (origin p i)) (transition_count p) i h)

  first_found : (s : ℕ) → first_from p s < transition_count p → s ≤ origin p (first_from p s)
  unfolding first_from
  first_found s h = leb-true s _ (lowest_found (λ i. leb s (origin p i)) (transition_count p) h)

  pub first_from_lem : (s i : ℕ) → first_from p s ≤ i → i < transition_count p → s ≤ origin p i
  first_from_lem s i h l = omega (arith, first_found s (omega arith), origin_order (first_from p s) i h l)

  -- a state's transitions begin where those of earlier states end
  pub first_order : (s : ℕ) → first_from p s ≤ first_from p (s + 1)
  first_order s =
      elim (dec_lt (first_from p (s + 1)) (first_from p s)) [
        | yes q ↦
            let low = first_below s (first_from p (s + 1)) q in
            absurd (omega (arith, low, first_from_lem (s + 1) (first_from p (s + 1)) (omega arith) (omega (arith, first_bound s))))
        | no q ↦ omega arith
      ]

  -- the place that parts the transitions of earlier states from the others
  pub first_parts_lem : (s k : ℕ) → k ≤ transition_count p → ((i : ℕ) → i < k → origin p i < s)
      → ((i : ℕ) → k ≤ i → i < transition_count p → s ≤ origin p i) → k ≡ first_from p s
  first_parts_lem s k h low high =
      elim (dec_lt k (first_from p s)) [
        | yes q ↦ absurd (omega (arith, first_below s k q, high k (omega arith) (omega (arith, first_bound s))))
        | no q ↦
            elim (dec_lt (first_from p s) k) [
              | yes r ↦ absurd (omega (arith, low (first_from p s) r, first_found s (omega arith)))
              | no r ↦ omega arith
            ]
      ]

  pub is_outgoing : (s i : ℕ) → first_from p s ≤ i → i < first_from p (s + 1) → (i < transition_count p) × (origin p i ≡ s)
  is_outgoing s i h l =
      let b : i < transition_count p = omega (arith, first_bound (s + 1)) in
      (b, omega (arith, first_below (s + 1) i l, first_from_lem s i h b))

  -- the transitions of a state go on while they leave it
  pub still_from : (s i : ℕ) → i < transition_count p → origin p i ≡ s → i < first_from p (s + 1)
  still_from s i h e =
      elim (dec_lt i (first_from p (s + 1))) [
        | yes q ↦ q
        | no q ↦ absurd (omega (arith, first_from_lem (s + 1) i (omega arith) h))
      ]

  pub no_longer_from : (s i : ℕ) → first_from p s ≤ i → (i < transition_count p → origin p i ≡ s → ⊥) → first_from p (s + 1) ≤ i
  no_longer_from s i h none =
      elim (dec_lt i (first_from p (s + 1))) [
        | yes q ↦ let a = is_outgoing s i h q in absurd (none a.0 a.1)
        | no q ↦ omega arith
      ]

  pub successor_at : (s i : ℕ) → first_from p s ≤ i → i < first_from p (s + 1) → Memᴰ (target p i) (successors p s)
  successor_at s i h l = let a = is_outgoing s i h l in target_among s (at_member p i a.0) a.1

  pub successor_stands : (s t : ℕ) → Memᴰ t (successors p s) → (i : ℕ) × (first_from p s ≤ i) × (i < first_from p (s + 1)) × (target p i ≡ t)
  successor_stands s t m =
      let w = target_of_lem s (plan_of p).transitions t m in
      let d = member_at p w.by w.among in
      let o : origin p d.at ≡ s = sym (ap (λ (x : LabelledTransition). x.origin) d.is) ∙ w.origin_is in (
        d.at,
        elim (dec_lt d.at (first_from p s)) [ yes q ↦ absurd (omega (arith, first_below s d.at q)) | no q ↦ omega arith ],
        still_from s d.at d.before_end o,
        sym (ap (λ (x : LabelledTransition). x.target) d.is) ∙ w.target_is,
      )

  -- a state whose successors are all settled is settled
  pub settled_by_targets : (s : ℕ) → s < state_count p
      → ((i : ℕ) → first_from p s ≤ i → i < first_from p (s + 1) → settled (successors p) (state_count p) (target p i) ≡ true)
      → settled (successors p) (state_count p) s ≡ true
  unfolding settled
  settled_by_targets s h all =
      (settled_exactly (successors p) (state_count p) (λ u l t m. successor_below kept u t m) s h).1
      (settled_reaches_none (successors p) (suc (state_count p)) s (all_members (λ t. settled (successors p) (state_count p) t) (successors p s) one))
    where
      one : (t : ℕ) → Memᴰ t (successors p s) → settled (successors p) (state_count p) t ≡ true
      one t m = let w = successor_stands s t m in subst (λ (u : ℕ). settled (successors p) (state_count p) u ≡ true) w.3 (all w.0 w.1 w.2)
