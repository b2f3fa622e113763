-- The pass over the transitions, one by one, and the masks of the actions.
use Prim.Native.Nat.{ℕ, ◌+◌, ◌^◌, ◌<◌}
use mathlib.Core.Path.{◌≡◌, sym, ap, subst, ◌∙◌}
use mathlib.Core.Bool.{true}
use mathlib.Core.List.{List}
use mathlib.Core.Logic.{◌⊎◌, inl, inr}
use native.Mathlib.Omega.{arith}
use native.Mathlib.Decide.{dec_lt}
use lib.ListN.{get_or}
use lib.Pow.{pow-lt}
use lib.Bits.{bit_or}
use Rattle.sheet.specs.Plan.{state_count, transition_count, origin, label, target}
use Rattle.sheet.specs.WellFormed.{WellFormedPlan}
use Rattle.sheet.specs.Fields.{transition_at}
use Rattle.sheet.specs.declared.Transition.{Transition}
use Rattle.calculus.specs.MeetingMask.{bit}
use Rattle.reference.specs.Internal.Evaluating.{Members, TransitionInto}
use Rattle.reference.proofs.Words.Words.{bit_power, power_bit}
use Rattle.reference.proofs.Words.Members.{members_as, members_none, members_union}

-- ---- transitions

members_one : {S : ℕ} (k : ℕ) → k < S → Members S (2 ^ k) (λ t. k ≡ t)
members_one k h = record {
  small = pow-lt h;
  sound = λ t l b. sym (power_bit k t b);
  complete = λ t l q. subst (λ (x : ℕ). bit (2 ^ k) x ≡ true) q (bit_power k);
}

module _ (p masks : List ℕ) (entry states : ℕ) where
  pub leads_start : Members (state_count p) 0 (TransitionInto p masks entry states 0)
  leads_start = members_as members_none (λ t l. (λ h. absurd h, λ h. omega (arith, h.before)))

  pub from_below : WellFormedPlan p → (i : ℕ) → i < transition_count p → (t : Transition) → t ≡ transition_at p i → t.from.0 < state_count p
  from_below kept i l t is = omega (arith, ap (λ (x : Transition). x.from.0) is, kept.origin_below i l)

  module _ (kept : WellFormedPlan p) (i : ℕ) (l : i < transition_count p) (found : ℕ) (m : Members (state_count p) found (TransitionInto p masks entry states i))
      (t : Transition) (is : t ≡ transition_at p i) where
    met_is : bit (get_or masks t.action.0 0) entry ≡ bit (get_or masks (label p i) 0) entry
    met_is = ap (λ (x : Transition). bit (get_or masks x.action.0 0) entry) is

    into_is : bit states t.to.0 ≡ bit states (target p i)
    into_is = ap (λ (x : Transition). bit states x.to.0) is

    from_is : t.from.0 ≡ origin p i
    from_is = ap (λ (x : Transition). x.from.0) is

    later : {s : ℕ} → TransitionInto p masks entry states i s → TransitionInto p masks entry states (i + 1) s
    later h = record { number = h.number; before = omega (arith, h.before); from = h.from; met = h.met; into = h.into }

    earlier : {s : ℕ} (h : TransitionInto p masks entry states (i + 1) s) → h.number < i → TransitionInto p masks entry states i s
    earlier h g = record { number = h.number; before = g; from = h.from; met = h.met; into = h.into }

    -- the transition leads into the set: its origin is found
    pub leads_more : bit (get_or masks t.action.0 0) entry ≡ true → bit states t.to.0 ≡ true → (w : ℕ) → w ≡ bit_or found (2 ^ t.from.0)
        → Members (state_count p) w (TransitionInto p masks entry states (i + 1))
    leads_more e k w q =
        subst (λ (x : ℕ). Members (state_count p) x (TransitionInto p masks entry states (i + 1))) (sym (q ∙ ap (λ (x : ℕ). bit_or found (2 ^ x)) from_is))
        (members_as (members_union m (members_one (origin p i) (kept.origin_below i l))) (λ s h. (to s, of s)))
      where
        to : (s : ℕ) → TransitionInto p masks entry states i s ⊎ (origin p i ≡ s) → TransitionInto p masks entry states (i + 1) s
        to s (inl h) = later h
        to s (inr o) = record { number = i; before = omega arith; from = o; met = sym met_is ∙ e; into = sym into_is ∙ k }

        of : (s : ℕ) → TransitionInto p masks entry states (i + 1) s → TransitionInto p masks entry states i s ⊎ (origin p i ≡ s)
        of s h =
            elim (dec_lt h.number i) [
              | yes g ↦ inl (earlier h g)
              | no g ↦ let q : h.number ≡ i = omega (arith, h.before) in inr (ap (origin p) (sym q) ∙ h.from)
            ]

    -- it does not: nothing is found
    pub leads_still : (bit (get_or masks t.action.0 0) entry ≡ true → bit states t.to.0 ≡ true → ⊥) → Members (state_count p) found (TransitionInto p masks entry states (i + 1))
    leads_still e = members_as m (λ s h. (later, of s))
      where
        of : (s : ℕ) → TransitionInto p masks entry states (i + 1) s → TransitionInto p masks entry states i s
        of s h =
            elim (dec_lt h.number i) [
              | yes g ↦ earlier h g
              | no g ↦
                  let q : h.number ≡ i = omega (arith, h.before) in
                  absurd (e
                  (met_is ∙ subst (λ (j : ℕ). bit (get_or masks (label p j) 0) entry ≡ true) q h.met)
                  (into_is ∙ subst (λ (j : ℕ). bit states (target p j) ≡ true) q h.into))
            ]
