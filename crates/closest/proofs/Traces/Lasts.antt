-- The last transition of the way to a state, and what a pass over the transitions from the last to the first stores of it.
use Prim.Native.Nat.{ℕ, suc, ◌+◌, ◌<◌, ◌≤◌}
use mathlib.Core.Path.{◌≡◌, refl, sym, ap, subst, ◌∙◌}
use mathlib.Core.Bool.{true, false, true≢false}
use mathlib.Core.List.{List}
use mathlib.Core.Logic.{◌≢◌}
use native.Mathlib.Omega.{arith}
use native.Mathlib.Decide.{ℕ_discrete, dec_lt}
use lib.Dec.{eqb}
use native.Mathlib.Numerals.{add-one}
use lib.ListN.{length, get_or, set, replicate, length-set, length-replicate}
use lib.Seq.{get_or-set_same, get_or-set_other}
use borrow.Author.Tests.{eqb-true, eq-eqb}
use Rattle.std.specs.Prelude.{Option, None, Some}
use Rattle.std.specs.Option.{option_eq}
use Rattle.std.proofs.lemmas.Option.{same_Some}
use Rattle.sheet.specs.Plan.{transition_count, origin, target}
use Rattle.sheet.specs.TransitionSystem.{LabelledTransition, plan_of}
use Rattle.sheet.proofs.TransitionSystem.{member_at}
use Rattle.sheet.proofs.Checks.Checks.{and_parts, all}
use Rattle.sheet.proofs.Checks.Lowest.{lowest_below, lowest_found}
use Rattle.graph.specs.Search.{most_states}
use Rattle.graph.proofs.Looptest.Successors.{target_of_lem}
use Rattle.closest.specs.Steps.{WayOf, onward, Steps, at_steps}
use Rattle.closest.specs.Tracing.{arrives, last_transition}
use Rattle.closest.specs.Internal.Distances.{Distances, StepsFound}
use Rattle.closest.specs.Internal.Tracing.{LastsRight}
use Rattle.closest.proofs.Search.LayerLists.{some_equal}
use Rattle.closest.proofs.Ways.Within.{at_steps_lem, steps_computed}

module _ (p : List ℕ) where
  arrives_at : (n t i : ℕ) → Steps p (origin p i) n → target p i ≡ t → arrives p n t i ≡ true
  arrives_at n t i c e = all (at_steps p n (origin p i)) (eqb (target p i) t) (steps_computed p (origin p i) n c) (eq-eqb (target p i) t e)

  pub arrives_from : (n t i : ℕ) → arrives p n t i ≡ true → Steps p (origin p i) n × (target p i ≡ t)
  arrives_from n t i h =
      let b = and_parts (at_steps p n (origin p i)) (eqb (target p i) t) h in
      (at_steps_lem p n (origin p i) b.0, eqb-true (target p i) t b.1)

  -- a transition leads to a state of n + 1 steps from one of n steps
  arrival : (t n : ℕ) → Steps p t (suc n) → (k : ℕ) × (k < transition_count p) × (arrives p n t k ≡ true)
  arrival t n c = go c.way c.fewest
    where
      go : {m : ℕ} → WayOf p (suc m) t → ((j : ℕ) → WayOf p j t → suc m ≤ j) → (k : ℕ) × (k < transition_count p) × (arrives p m t k ≡ true)
      go {m} (onward {s = s} w i) least =
          let f = target_of_lem s (plan_of p).transitions t i in
          let d = member_at p f.by f.among in
          let from : s ≡ origin p d.at = sym f.origin_is ∙ ap (λ (x : LabelledTransition). x.origin) d.is in
          let to : target p d.at ≡ t = sym (ap (λ (x : LabelledTransition). x.target) d.is) ∙ f.target_is in
          let before : Steps p s m = record { way = w; fewest = λ j v. omega (arith, least (suc j) (onward v i)) } in
          (d.at, d.before_end, arrives_at m t d.at (subst (λ (u : ℕ). Steps p u m) from before) to)

  module _ (t n : ℕ) (c : Steps p t (suc n)) where
    pub last_below : last_transition p n t < transition_count p
    unfolding last_transition
    last_below = let f = arrival t n c in
        elim (dec_lt (last_transition p n t) (transition_count p)) [
          | yes l ↦ l
          | no l ↦ absurd (true≢false (sym f.2 ∙ lowest_below (arrives p n t) (transition_count p) f.0 (omega (arith, f.1))))
        ]

    last_arrives : arrives p n t (last_transition p n t) ≡ true
    unfolding last_transition
    last_arrives = lowest_found (arrives p n t) (transition_count p) last_below

    pub last_leads : Steps p (origin p (last_transition p n t)) n × (target p (last_transition p n t) ≡ t)
    last_leads = arrives_from n t (last_transition p n t) last_arrives

    -- no other that arrives is lower
    is_last : (k : ℕ) → arrives p n t k ≡ true → k ≤ last_transition p n t → k ≡ last_transition p n t
    unfolding last_transition
    is_last k h l =
        elim (dec_lt k (last_transition p n t)) [
          | yes b ↦ absurd (true≢false (sym h ∙ lowest_below (arrives p n t) (transition_count p) k b))
          | no b ↦ omega arith
        ]

-- what is stored of a state t of n + 1 steps arrives there, and is not above transition k
abbrev Stored : List ℕ → List ℕ → ℕ → ℕ → ℕ → Type 0
Stored p lasts t n k = (arrives p n t (get_or lasts t 0) ≡ true) × (get_or lasts t 0 ≤ k)

-- the transitions from i on are passed
pub record Storing (p lasts : List ℕ) (i : ℕ) : Type 0 where
  pub room : length lasts ≡ most_states
  pub within : i ≤ transition_count p
  pub stored : (t n k : ℕ) → Steps p t (suc n) → i ≤ k → k < transition_count p → arrives p n t k ≡ true → Stored p lasts t n k

pub storing_starts : (p : List ℕ) → Storing p (replicate most_states 0) (transition_count p)
storing_starts p = record { room = length-replicate {A = ℕ} most_states 0; within = omega arith; stored = λ t n k c l b h. absurd (omega arith) }

-- a transition leads to a state of one step more
abbrev pub StepsRise : Distances → List ℕ → ℕ → Type 0
StepsRise d p i = (n : ℕ) × (get_or d (origin p i) None ≡ Some n) × (get_or d (target p i) None ≡ Some (n + 1))

-- exactly those do that arrive
module _ {p : List ℕ} {d : Distances} (m : StepsFound p d) (i : ℕ) where
  steps_next : (n : ℕ) → Steps p (target p i) (suc n) → StepsRise d p i → Steps p (origin p i) n
  steps_next n c (k, e, f) =
      m.right (origin p i) n (e ∙ ap (λ (j : ℕ). Some j) (let q = same_Some (k + 1) (suc n) (sym f ∙ m.all (target p i) (suc n) c) in omega arith))

  next_steps : (t n : ℕ) → Steps p t (suc n) → arrives p n t i ≡ true → (t ≡ target p i) × StepsRise d p i
  next_steps t n c a =
      let b = arrives_from p n t i a in
      let to = subst (λ (u : ℕ). Steps p u (n + 1)) (sym b.1) (subst (Steps p t) (sym (add-one n)) c) in
      (sym b.1, (n, m.all (origin p i) n b.0, m.all (target p i) (n + 1) to))

module _ {p lasts : List ℕ} {j : ℕ} (w : Storing p lasts j) (i : ℕ) (b : j ≡ suc i) where
  module _ {d : Distances} (m : StepsFound p d) where
    -- from i + 1 on, or i itself
    storing_past : (StepsRise d p i → ⊥) → Storing p lasts i
    storing_past none = record {
      room = w.room;
      within = omega (arith, w.within);
      stored = λ t n k c l u a. elim (dec_lt i k) [
        | yes q ↦ w.stored t n k c (omega arith) u a
        | no q ↦ let e : k ≡ i = omega arith in absurd (none (next_steps m i t n c (subst (λ (j : ℕ). arrives p n t j ≡ true) e a)).1)
      ];
    }

    storing_new : target p i < most_states → StepsRise d p i → Storing p (set lasts (target p i) i) i
    storing_new small e = record {
      room = length-set lasts (target p i) i ∙ w.room;
      within = omega (arith, w.within);
      stored = λ t n k c l u a. elim (ℕ_discrete t (target p i)) [
        | yes q ↦ rw (q, get_or-set_same lasts (target p i) i 0 (omega (arith, w.room))) (here n (subst (λ (u : ℕ). Steps p u (suc n)) q c), l)
        | no q ↦ rw (get_or-set_other lasts (target p i) t i 0 q) (w.stored t n k c (after t n k c l a q) u a)
      ];
    }
      where
        here : (n : ℕ) → Steps p (target p i) (suc n) → arrives p n (target p i) i ≡ true
        here n c = arrives_at p n (target p i) i (steps_next m i n c e) refl

        after : (t n k : ℕ) → Steps p t (suc n) → i ≤ k → arrives p n t k ≡ true → t ≢ target p i → j ≤ k
        after t n k c l a d = elim (dec_lt i k) [
          | yes q ↦ omega arith
          | no q ↦ let x : k ≡ i = omega arith in absurd (d (next_steps m i t n c (subst (λ (j : ℕ). arrives p n t j ≡ true) x a)).0)
        ]

    -- by the steps of the two states
    module _ (from to : ℕ) (f : from ≡ origin p i) (g : to ≡ target p i) where
      pub storing_unreached : ((n : ℕ) → get_or d from None ≡ Some n → ⊥) → Storing p lasts i
      storing_unreached none = storing_past (λ r. none r.0 (ap (λ (u : ℕ). get_or d u None) f ∙ r.1))

      module _ (n : ℕ) (e : get_or d from None ≡ Some n) where
        pub storing_other : option_eq eqb (get_or d to None) (Some (n + 1)) ≡ false → Storing p lasts i
        storing_other h = storing_past (λ r. absurd (true≢false (sym (rises r) ∙ h)))
          where
            rises : StepsRise d p i → option_eq eqb (get_or d to None) (Some (n + 1)) ≡ true
            rises (k, a, b) =
                let same : k ≡ n = same_Some k n (sym a ∙ ap (λ (u : ℕ). get_or d u None) (sym f) ∙ e) in
                ap (λ (o : Option ℕ). option_eq eqb o (Some (n + 1))) (ap (λ (u : ℕ). get_or d u None) g ∙ b) ∙ eq-eqb (k + 1) (n + 1) (omega arith)

        pub storing_nearer : to < most_states → option_eq eqb (get_or d to None) (Some (n + 1)) ≡ true → Storing p (set lasts to i) i
        storing_nearer l h =
            subst (λ (u : ℕ). Storing p (set lasts u i) i) (sym g)
            (storing_new (omega arith) (n, ap (λ (u : ℕ). get_or d u None) (sym f) ∙ e, ap (λ (u : ℕ). get_or d u None) (sym g) ∙ some_equal (get_or d to None) (n + 1) h))

pub storing_ends : {p lasts : List ℕ} {i : ℕ} → Storing p lasts i → i ≡ 0 → LastsRight p lasts
storing_ends {p} {lasts} w z = record {
  room = w.room;
  right = λ t n c.
      let s = w.stored t n (last_transition p n t) c (omega arith) (last_below p t n c) (last_arrives p t n c) in
      is_last p t n c (get_or lasts t 0) s.0 s.1;
}
