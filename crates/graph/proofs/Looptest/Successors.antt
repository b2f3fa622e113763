-- The successors of a state are the targets of its transitions.
use Prim.Native.Nat.{ℕ, ◌<◌}
use mathlib.Core.Bool.{Bool, true, false}
use mathlib.Core.List.Memᴰ
use mathlib.Core.List.{List, [], ◌∷◌, Memᴰ}
use mathlib.Core.Logic.{◌⊎◌, inl, inr}
use mathlib.Core.Path.{◌≡◌, refl, sym, ap, subst, ◌∙◌}
use lib.Dec.{eqb}
use borrow.Author.Tests.{eqb-true, eq-eqb}
use Rattle.sheet.specs.Bytes.{pick}
use Rattle.sheet.specs.Plan.{state_count}
use Rattle.sheet.specs.WellFormed.{WellFormedPlan}
use Rattle.sheet.specs.TransitionSystem.{LabelledTransition, plan_of}
use Rattle.sheet.proofs.TransitionSystem.{plan_in_range}
use Rattle.graph.specs.Successors.{targets, successors}

pub target_among : (s : ℕ) {t : LabelledTransition} {ts : List LabelledTransition} → Memᴰ t ts → t.origin ≡ s → Memᴰ t.target (targets s ts)
unfolding targets
target_among s (Memᴰ.head {x = x} e) o =
    rw (eq-eqb x.origin s (sym (ap (λ (y : LabelledTransition). y.origin) e) ∙ o)) (Memᴰ.head (ap (λ (y : LabelledTransition). y.target) e))
target_among s {t} (Memᴰ.tail {x = x} {xs = ts} m) o = go (eqb x.origin s) (target_among s m o)
  where
    go : (b : Bool) → Memᴰ t.target (targets s ts) → Memᴰ t.target (pick b (x.target ∷ targets s ts) (targets s ts))
    go true i = Memᴰ.tail i
    go false i = i

-- a transition of the list from s to u
pub record SuccessorBy (s : ℕ) (ts : List LabelledTransition) (u : ℕ) : Type 0 where
  pub by : LabelledTransition
  pub among : Memᴰ by ts
  pub origin_is : by.origin ≡ s
  pub target_is : by.target ≡ u

pub target_of_lem : (s : ℕ) (ts : List LabelledTransition) (u : ℕ) → Memᴰ u (targets s ts) → SuccessorBy s ts u
unfolding targets
target_of_lem s [] u m = absurd (Memᴰ.not-nil m)
target_of_lem s (x ∷ ts) u m = go (eqb x.origin s) refl m (target_of_lem s ts u)
  where
    later : SuccessorBy s ts u → SuccessorBy s (x ∷ ts) u
    later w = record { by = w.by; among = Memᴰ.tail w.among; origin_is = w.origin_is; target_is = w.target_is }

    here : eqb x.origin s ≡ true → (Memᴰ u (targets s ts) → SuccessorBy s ts u) → (u ≡ x.target) ⊎ Memᴰ u (targets s ts)
        → SuccessorBy s (x ∷ ts) u
    here q rec (inl e) = record { by = x; among = Memᴰ.head refl; origin_is = eqb-true x.origin s q; target_is = sym e }
    here q rec (inr i) = later (rec i)

    go : (b : Bool) → eqb x.origin s ≡ b → Memᴰ u (pick b (x.target ∷ targets s ts) (targets s ts))
        → (Memᴰ u (targets s ts) → SuccessorBy s ts u) → SuccessorBy s (x ∷ ts) u
    go true q i rec = here q rec (Memᴰ.cases_cons i)
    go false q i rec = later (rec i)

-- a successor is a state
pub successor_below : {p : List ℕ} → WellFormedPlan p → (s t : ℕ) → Memᴰ t (successors p s) → t < state_count p
successor_below {p} kept s t m =
    let w = target_of_lem s (plan_of p).transitions t m in
    subst (λ (u : ℕ). u < state_count p) w.target_is ((plan_in_range p kept).target_below w.by w.among)
