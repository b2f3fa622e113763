-- The loops of the plan with a branch: by the old transitions and the branch, wherever it stands among them.
use Prim.Native.Nat.{ℕ}
use mathlib.Core.Path.{◌≡◌, subst}
use mathlib.Core.List.Memᴰ
use mathlib.Core.List.{List, ◌∷◌, Memᴰ}
use mathlib.Core.Logic.{◌↔◌, ◌⊎◌, inl, inr}
use Rattle.sheet.specs.TransitionSystem.{LabelledTransition, plan_of}
use Rattle.sheet.specs.WellFormed.{WellFormedPlan}
use Rattle.graph.specs.Loops.{Way, last, first, Reachable, LoopReachable}
use Rattle.graph.specs.Successors.{targets, successors}
use Rattle.graph.proofs.Looptest.Successors.{target_among, target_of_lem}
use Rattle.branches.specs.Branches.{plan_with}
use Rattle.branches.proofs.Plans.Fitting.{Fits}
use Rattle.branches.proofs.Plans.With.{with_exactly}

-- where each step is a step of next' too, so is each way
module _ {next next' : ℕ → List ℕ} (step : (s t : ℕ) → Memᴰ t (next s) → Memᴰ t (next' s)) where
  way_too : {s t : ℕ} → Way next s t → Way next' s t
  way_too (last {s = s} {t = t} m) = last (step s t m)
  way_too (first {s = s} {u = u} m w) = first (step s u m) (way_too w)

  reachable_too : {s t : ℕ} → Reachable next s t → Reachable next' s t
  reachable_too (inl e) = inl e
  reachable_too (inr w) = inr (way_too w)

  loop_too : {s : ℕ} → LoopReachable next s → LoopReachable next' s
  loop_too l = (l.0, reachable_too l.1, way_too l.2)

-- the targets of more transitions are more
targets_too : (ts us : List LabelledTransition) → ((u : LabelledTransition) → Memᴰ u ts → Memᴰ u us)
    → (s t : ℕ) → Memᴰ t (targets s ts) → Memᴰ t (targets s us)
targets_too ts us more s t m =
    let w = target_of_lem s ts t m in
    subst (λ (v : ℕ). Memᴰ v (targets s us)) w.target_is (target_among s (more w.by w.among) w.origin_is)

module _ (p : List ℕ) (t : LabelledTransition) (k : WellFormedPlan p) (f : Fits p t) where
  abbrev olds : List LabelledTransition
  olds = (plan_of p).transitions

  abbrev news : List LabelledTransition
  news = (plan_of (plan_with p t)).transitions

  new_among : (u : LabelledTransition) → Memᴰ u news → Memᴰ u (t ∷ olds)
  new_among u m = go ((with_exactly p t k f u).0 m)
    where
      go : Memᴰ u olds ⊎ (u ≡ t) → Memᴰ u (t ∷ olds)
      go (inl i) = Memᴰ.tail i
      go (inr e) = Memᴰ.head e

  among_new : (u : LabelledTransition) → Memᴰ u (t ∷ olds) → Memᴰ u news
  among_new u m = go (Memᴰ.cases_cons m)
    where
      go : (u ≡ t) ⊎ Memᴰ u olds → Memᴰ u news
      go (inl e) = (with_exactly p t k f u).1 (inr e)
      go (inr i) = (with_exactly p t k f u).1 (inl i)

  pub loop_exactly :
      LoopReachable (successors (plan_with p t)) 0 ↔ LoopReachable (λ u. targets u (t ∷ (plan_of p).transitions)) 0
  loop_exactly = (loop_too (targets_too news (t ∷ olds) new_among), loop_too (targets_too (t ∷ olds) news among_new))
