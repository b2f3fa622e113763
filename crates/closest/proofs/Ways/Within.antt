-- `within` and `at_steps` say what ways do, and after S steps no state is new.
use Prim.Native.Nat.{ℕ, zero, suc, ◌≤◌, ◌<◌}
use mathlib.Core.Path.{◌≡◌, refl, sym, subst, ◌∙◌}
use mathlib.Core.Bool.{Bool, true, false, not, ◌&&◌, true≢false}
use mathlib.Core.List.{List, Memᴰ}
use mathlib.Core.Logic.{◌⊎◌, inl, inr}
use native.Mathlib.Omega.{arith}
use native.Mathlib.Decide.{dec_lt}
use lib.Dec.{eqb}
use borrow.Author.Tests.{eqb-true, eq-eqb, not-true}
use Rattle.sheet.specs.Plan.{state_count}
use Rattle.sheet.specs.TransitionSystem.{LabelledTransition, plan_of}
use Rattle.sheet.specs.WellFormed.{WellFormedPlan}
use Rattle.sheet.proofs.Checks.Checks.{and_parts}
use Rattle.rows.proofs.Tables.Among.{or_cases, or_left, or_right, false_if}
use Rattle.graph.specs.Successors.{successors}
use Rattle.graph.proofs.Looptest.Successors.{target_among, target_of_lem, successor_below}
use Rattle.calculus.specs.Eval.{any_transition}
use Rattle.calculus.proofs.Table1.Modal.{any_found, any_of}
use Rattle.calculus.proofs.Table1.Sets.{Within, Below, Rising, settles}
use Rattle.closest.specs.Steps.{WayOf, stay, onward, Steps, within, at_steps}

module _ (p : List ℕ) where
  within_stays : (n t : ℕ) → within p n t ≡ true → within p (suc n) t ≡ true
  unfolding within
  within_stays n t h = or_left (within p n t) _ h

  within_on : (n s t : ℕ) → within p n s ≡ true → Memᴰ t (successors p s) → within p (suc n) t ≡ true
  unfolding within
  within_on n s t h m =
      let w = target_of_lem s (plan_of p).transitions t m in
      or_right (within p n t) _ (any_of _ w.among (rw (w.origin_is, w.target_is, h, eq-eqb t t refl) refl))

  -- t is a successor of a state within n
  abbrev FollowsWithin : ℕ → ℕ → Type 0
  FollowsWithin n t = (s : ℕ) × (within p n s ≡ true) × Memᴰ t (successors p s)

  within_from : (n t : ℕ) → within p (suc n) t ≡ true → (within p n t ≡ true) ⊎ FollowsWithin n t
  unfolding within
  within_from n t h = or_cases (within p n t) _ h (λ e. inl e) (λ e. inr (follows e))
    where
      leads : LabelledTransition → Bool
      leads x = within p n x.origin && eqb x.target t

      follows : any_transition leads (plan_of p).transitions ≡ true → FollowsWithin n t
      follows e =
          let w = any_found leads (plan_of p).transitions e in
          let b = and_parts (within p n w.0.origin) (eqb w.0.target t) w.2 in
          let m = target_among w.0.origin w.1 refl in
          (w.0.origin, b.0, subst (λ (u : ℕ). Memᴰ u (successors p w.0.origin)) (eqb-true w.0.target t b.1) m)

  start_within : (n : ℕ) → within p n 0 ≡ true
  unfolding within
  start_within zero = refl
  start_within (suc n) = within_stays n 0 (start_within n)

  way_within : {m t : ℕ} → WayOf p m t → (n : ℕ) → m ≤ n → within p n t ≡ true
  way_within stay n l = start_within n
  way_within (onward w m) zero l = absurd (omega arith)
  way_within (onward {s = s} {t = t} w m) (suc n) l = within_on n s t (way_within w n (omega arith)) m

  within_way : (n t : ℕ) → within p n t ≡ true → (m : ℕ) × (m ≤ n) × WayOf p m t
  unfolding within
  within_way zero t h = (0, omega arith, subst (WayOf p 0) (sym (eqb-true t 0 h)) stay)
  within_way (suc n) t h = go (within_from n t h) (within_way n)
    where
      go : (within p n t ≡ true) ⊎ FollowsWithin n t → ((s : ℕ) → within p n s ≡ true → (m : ℕ) × (m ≤ n) × WayOf p m s)
          → (m : ℕ) × (m ≤ suc n) × WayOf p m t
      go (inl e) ways = let r = ways t e in (r.0, omega (arith, r.1), r.2)
      go (inr f) ways = let r = ways f.0 f.1 in (suc r.0, omega (arith, r.1), onward r.2 f.2)

  -- ---- exactly n steps

  pub at_steps_lem : (n t : ℕ) → at_steps p n t ≡ true → Steps p t n
  unfolding at_steps
  at_steps_lem zero t h =
      let r = within_way 0 t h in
      record { way = subst (λ (m : ℕ). WayOf p m t) (omega (arith, r.1)) r.2; fewest = λ m w. omega arith }
  at_steps_lem (suc n) t h =
      let b = and_parts (within p (suc n) t) (not (within p n t)) h in
      let r = within_way (suc n) t b.0 in
      record { way = subst (λ (m : ℕ). WayOf p m t) (omega (arith, r.1, more b.1 r.0 r.2)) r.2; fewest = more b.1 }
    where
      more : not (within p n t) ≡ true → (m : ℕ) → WayOf p m t → suc n ≤ m
      more none m w = elim (dec_lt n m) [
        | yes l ↦ omega arith
        | no l ↦ absurd (true≢false (sym (way_within w n (omega arith)) ∙ not-true (within p n t) none))
      ]

  pub steps_computed : (t n : ℕ) → Steps p t n → at_steps p n t ≡ true
  unfolding at_steps
  steps_computed t zero c = way_within c.way 0 (omega arith)
  steps_computed t (suc n) c =
      let none : within p n t ≡ false = false_if (within p n t) (λ h. let r = within_way n t h in omega (arith, r.1, c.fewest r.0 r.2)) in
      rw (way_within c.way (suc n) (omega arith), none) refl

  -- a state within n has a step count up to n
  steps_found : (n t : ℕ) → within p n t ≡ true → (m : ℕ) × (m ≤ n) × (at_steps p m t ≡ true)
  unfolding at_steps
  steps_found zero t h = (0, omega arith, h)
  steps_found (suc n) t h = go (within p n t) refl (steps_found n t)
    where
      go : (b : Bool) → within p n t ≡ b → (within p n t ≡ true → (m : ℕ) × (m ≤ n) × (at_steps p m t ≡ true))
          → (m : ℕ) × (m ≤ suc n) × (at_steps p m t ≡ true)
      go true e found = let r = found e in (r.0, omega (arith, r.1), r.2)
      go false e found = (suc n, omega arith, rw (h, e) refl)

  -- a state that a way leads to has a step count
  pub way_counted : {n t : ℕ} → WayOf p n t → (m : ℕ) × Steps p t m
  way_counted {n} {t} w = let r = steps_found n t (way_within w n (omega arith)) in (r.0, at_steps_lem r.0 t r.2)

module _ (p : List ℕ) (kept : WellFormedPlan p) where
  pub way_below : {n t : ℕ} → WayOf p n t → t < state_count p
  way_below stay = kept.some_states
  way_below (onward {s = s} {t = t} w m) = successor_below kept s t m

  rising : Rising (state_count p) (within p)
  rising = record {
    rise = λ n. record { at = λ t l h. within_stays p n t h };
    still = λ n w. record { at = λ t l h. go n t w (within_from p (suc n) t h) };
  }
    where
      go : (n t : ℕ) → Within (Below (state_count p)) (within p (suc n)) (within p n) → (within p (suc n) t ≡ true) ⊎ FollowsWithin p (suc n) t
          → within p (suc n) t ≡ true
      go n t w (inl e) = e
      go n t w (inr f) = within_on p n f.0 t (w.at f.0 (way_below (within_way p (suc n) f.0 f.1).2) f.1) f.2

  -- no state is new after S steps
  within_all : {n t : ℕ} → WayOf p n t → within p (state_count p) t ≡ true
  within_all stay = start_within p (state_count p)
  within_all (onward {s = s} {t = t} w m) =
      (settles (state_count p) (within p) rising).at t (successor_below kept s t m) (within_on p (state_count p) s t (within_all w) m)

  pub reachable_steps : (t : ℕ) → ((n : ℕ) × WayOf p n t) → (n : ℕ) × (n ≤ state_count p) × (at_steps p n t ≡ true)
  reachable_steps t w = steps_found p (state_count p) t (within_all w.1)

  pub steps_at : (t n : ℕ) → Steps p t n → (n ≤ state_count p) × (at_steps p n t ≡ true)
  steps_at t n c =
      let r = within_way p (state_count p) t (within_all c.way) in
      (omega (arith, r.1, c.fewest r.0 r.2), steps_computed p t n c)
