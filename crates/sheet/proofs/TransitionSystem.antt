-- The plan of a sheet: its transitions are those of the body, and they are in range where the body is well formed.
use Prim.Native.Nat.{ℕ, zero, suc, ◌+◌, ◌<◌, ◌≤◌}
use mathlib.Core.Path.{◌≡◌, sym, ap, subst}
use mathlib.Core.List.Memᴰ
use mathlib.Core.List.{List, Memᴰ}
use mathlib.Core.Logic.{◌⊎◌, inl, inr}
use native.Mathlib.Omega.{arith}
use native.Mathlib.Decide.{dec_lt}
use Rattle.sheet.specs.Plan.{state_count, action_count, transition_count}
use Rattle.sheet.specs.TransitionSystem.{LabelledTransition, transition_of, transitions_from, plan_of, PlanInRange}

-- transition t stands in the body, at one of the numbers from first up to end
pub record Stands (p : List ℕ) (first end : ℕ) (t : LabelledTransition) : Type 0 where
  pub at : ℕ
  pub from_first : first ≤ at
  pub before_end : at < end
  pub is : t ≡ transition_of p at

module _ (p : List ℕ) where
  member_stands : (count first : ℕ) {t : LabelledTransition} → Memᴰ t (transitions_from p count first) → Stands p first (count + first) t
  unfolding transitions_from
  member_stands zero first m = absurd (Memᴰ.not-nil m)
  member_stands (suc count) first {t} m = go (Memᴰ.cases_cons m) (λ k. member_stands count (suc first) {t = t} k)
    where
      shift : Stands p (suc first) (count + suc first) t → Stands p first (suc count + first) t
      shift s = record { at = s.at; from_first = omega arith; before_end = omega arith; is = s.is }

      go : (t ≡ transition_of p first) ⊎ Memᴰ t (transitions_from p count (suc first))
          → (Memᴰ t (transitions_from p count (suc first)) → Stands p (suc first) (count + suc first) t) → Stands p first (suc count + first) t
      go (inl q) rec = record { at = first; from_first = omega arith; before_end = omega arith; is = q }
      go (inr k) rec = shift (rec k)

  stands_member : (count first i : ℕ) → first ≤ i → i < count + first → Memᴰ (transition_of p i) (transitions_from p count first)
  unfolding transitions_from
  stands_member zero first i h l = absurd (omega arith)
  stands_member (suc count) first i h l =
      elim (dec_lt first i) [
        | yes q ↦ Memᴰ.tail (stands_member count (suc first) i q (omega arith))
        | no q ↦ let s : i ≡ first = omega arith in Memᴰ.head (ap (transition_of p) s)
      ]

  -- the transitions of the plan are the T transitions of the body
  pub member_at : (t : LabelledTransition) → Memᴰ t (plan_of p).transitions → Stands p 0 (transition_count p) t
  member_at t m = let s = member_stands (transition_count p) 0 {t = t} m in record { at = s.at; from_first = s.from_first; before_end = omega arith; is = s.is }

  pub at_member : (i : ℕ) → i < transition_count p → Memᴰ (transition_of p i) (plan_of p).transitions
  at_member i l = stands_member (transition_count p) 0 i (omega arith) (omega arith)

pub plan_in_range : PlanInRange
plan_in_range p kept = record {
  origin_below = λ t m. let s = member_at p t m in subst (λ (x : LabelledTransition). x.origin < state_count p) (sym s.is) (kept.origin_below s.at s.before_end);
  action_below = λ t m. let s = member_at p t m in subst (λ (x : LabelledTransition). x.action < action_count p) (sym s.is) (kept.label_below s.at s.before_end);
  target_below = λ t m. let s = member_at p t m in subst (λ (x : LabelledTransition). x.target < state_count p) (sym s.is) (kept.target_below s.at s.before_end);
}
