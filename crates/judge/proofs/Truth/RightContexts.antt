-- The contexts in which the value of a cell is the meaning of its node's formula: each outer variable has its own set on lower states, and at the
-- cell's state its own set, or what the row of an open variable is.
use Rattle.std.proofs.Common.{◌≡◌, ℕ, zero, suc, ◌<◌, Bool, true, false, eqb, ◌≢◌, List, sym, refl, ap, ◌∙◌, subst, arith, le-ltb, lt-ltb}
use mathlib.Core.List.{Memᴰ}
use native.Mathlib.Decide.{ℕ_discrete}
use Rattle.sheet.specs.Bytes.{pick}
use Rattle.sheet.specs.Plan.{state_count}
use Rattle.sheet.specs.Actions.{entry_count}
use Rattle.sheet.specs.Rule.{node_count, node_kind, binder_node}
use Rattle.sheet.specs.WellFormed.{Binds, WellFormedPlan, WellFormedBodies}
use Rattle.sheet.proofs.Nodes.Binders.{binder_node_lem}
use Rattle.calculus.specs.Meaning.{bind}
use Rattle.sheet.specs.TransitionSystem.{plan_of}
use Rattle.calculus.specs.Decode.{formula}
use Rattle.calculus.specs.Verdict.{empty_context}
use Rattle.calculus.specs.Eval.{eval}
use Rattle.calculus.proofs.Table1.Monotone.{Region, all_states, bind_same, bind_other}
use Rattle.calculus.proofs.Table1.Locality.{Agree, closed_region, eval_local}
use Rattle.sheet.proofs.TransitionSystem.{plan_in_range}
use Rattle.calculus.proofs.Decoding.Variables.{Above, above_body, free_at}
use Rattle.graph.specs.LoopTest.{settled}
use Rattle.graph.specs.Successors.{successors}
use Rattle.judge.specs.Cells.{opened, outer}
use Rattle.graph.proofs.Looptest.Height.{height, successor_settled, height_falls}
use Rattle.judge.proofs.Cells.BindersAbove.{above_smaller}
use Rattle.graph.proofs.Looptest.Successors.{target_among, successor_below}
use Rattle.judge.proofs.Cells.ValidCells.{Marked}

-- ---- each variable's own set

module _ (p a r : List ℕ) where
  -- the variables below k, each with its own set
  unfoldable pub outer_sets : ℕ → ℕ → ℕ → Bool
  outer_sets zero = empty_context
  outer_sets (suc k) = bind (outer_sets k) k (eval (plan_of p) (formula a r (binder_node r k)) (outer_sets k))

  -- the meaning of binder k's node in the context that gives each outer variable its own set
  unfoldable pub own_sets : ℕ → ℕ → Bool
  own_sets k = eval (plan_of p) (formula a r (binder_node r k)) (outer_sets k)

  outer_own : (j k : ℕ) → j < k → outer_sets k j ≡ own_sets j
  unfolding outer_sets own_sets
  outer_own j zero h = absurd (omega arith)
  outer_own j (suc k) h =
      elim (ℕ_discrete j k) [
        | yes q ↦ subst (λ (i : ℕ). bind (outer_sets k) k (own_sets k) i ≡ own_sets i) (sym q) (bind_same (outer_sets k) k (own_sets k))
        | no q ↦ bind_other (outer_sets k) k (own_sets k) j q ∙ outer_own j k (omega arith)
      ]

-- every variable may be given its own set
pub own_fixed : {p a r : List ℕ} → WellFormedBodies p a r → (b k s : ℕ) → Binds r b k → s < state_count p
    → own_sets p a r k s ≡ eval (plan_of p) (formula a r b) (own_sets p a r) s
unfolding own_sets
own_fixed {p} {a} {r} kept b k s w l =
    ap (λ (i : ℕ). eval (plan_of p) (formula a r i) (outer_sets p a r k) s) (binder_node_lem r b k w)
    ∙ eval_local (all_states (plan_in_range p kept.plan_kept)) (formula a r b) agree s l
  where
    agree : Agree (λ t. t < state_count p) (formula a r b) (outer_sets p a r k) (own_sets p a r)
    agree = record { at = λ X f t i. ap (λ (U : ℕ → Bool). U t) (outer_own p a r X k (above_smaller (free_at kept.rule_kept a b w.among X f) w)) }

-- ---- lower states

-- a settled state of less height than s
abbrev pub Lower : List ℕ → ℕ → ℕ → Type 0
Lower p s t = (t < state_count p) × ((settled (successors p) (state_count p) t ≡ true) × (height (successors p) (state_count p) t < height (successors p) (state_count p) s))

pub lower_region : {p : List ℕ} → WellFormedPlan p → (s : ℕ) → Region (plan_of p) (Lower p s)
lower_region {p} kept s =
    closed_region (plan_in_range p kept) (λ t m i.
    let g = target_among t.origin m refl in
    (successor_settled (successors p) (state_count p) t.origin t.target i.0 g, omega (arith, height_falls (successors p) (state_count p) t.origin t.target i.0 g)))

pub lower_successor : {p : List ℕ} → WellFormedPlan p → (s t : ℕ) → settled (successors p) (state_count p) s ≡ true → Memᴰ t (successors p s) → Lower p s t
lower_successor {p} kept s t q m =
    (successor_below kept s t m, (successor_settled (successors p) (state_count p) s t q m, height_falls (successors p) (state_count p) s t q m))

-- ---- right contexts

-- ρ is right for mark m at state s, for the variables whose binders stand above node n
pub record Right (p a r : List ℕ) (m n s : ℕ) (ρ : ℕ → ℕ → Bool) : Type 0 where
  pub lower : (j : ℕ) → Above (entry_count a) r j n → (t : ℕ) → Lower p s t → ρ j t ≡ own_sets p a r j t
  pub here : (j : ℕ) → Above (entry_count a) r j n → ρ j s ≡ pick (outer j m) (own_sets p a r j s) (eqb (node_kind r (binder_node r j)) 8)

-- their own sets are right under mark 0
pub own_right : (p a r : List ℕ) (n s : ℕ) → Right p a r 0 n s (own_sets p a r)
own_right p a r n s = record { lower = λ j u t i. refl; here = λ j u. refl }

-- for the rule itself every context is right
pub root_right : (p a r : List ℕ) (s : ℕ) (ρ : ℕ → ℕ → Bool) → Right p a r 0 0 s ρ
root_right p a r s ρ = record { lower = λ j u t i. absurd (omega (arith, u.below.after)); here = λ j u. absurd (omega (arith, u.below.after)) }

-- a node below which the same binders are open
pub right_child : {p a r : List ℕ} {m n s d : ℕ} {ρ : ℕ → ℕ → Bool} → ((k : ℕ) → Above (entry_count a) r k d → Above (entry_count a) r k n) → Right p a r m n s ρ → Right p a r m d s ρ
right_child up w = record { lower = λ j u. w.lower j (up j u); here = λ j u. w.here j (up j u) }

module _ {p a r : List ℕ} (kept : WellFormedBodies p a r) {m n s : ℕ} {ρ : ℕ → ℕ → Bool} (l : n < node_count r) (w : Right p a r m n s ρ) where
  -- on lower states a right context gives what the own sets give
  pub right_lower : (t : ℕ) → Lower p s t → eval (plan_of p) (formula a r n) ρ t ≡ eval (plan_of p) (formula a r n) (own_sets p a r) t
  right_lower t i =
      eval_local (lower_region kept.plan_kept s) (formula a r n)
      (record { at = λ X f u g. w.lower X (free_at kept.rule_kept a n l X f) u g }) t i

  -- the body of binder k: its variable has the binder's meaning on lower states, and the row of an open variable at s
  module _ (k : ℕ) (b : Binds r n k) (v : Marked (entry_count a) r m n) where
    outer_shut : (i : ℕ) → Marked (entry_count a) r i n → outer k (opened k i) ≡ false
    outer_shut zero g = le-ltb k k (omega arith)
    outer_shut (suc i) g = le-ltb k i (omega (arith, above_smaller g b))

    outer_same : (i j : ℕ) → Above (entry_count a) r j n → outer j (opened k i) ≡ outer j i
    outer_same zero j u = lt-ltb j k (above_smaller u b)
    outer_same (suc i) j u = refl

    pub right_body : (U : ℕ → Bool) → ((t : ℕ) → Lower p s t → U t ≡ eval (plan_of p) (formula a r n) ρ t) → U s ≡ eqb (node_kind r n) 8
        → Right p a r (opened k m) (suc n) s (bind ρ k U)
    right_body U low at = record { lower = λ j u t i. lower j u t i (ℕ_discrete j k); here = λ j u. here j u (ℕ_discrete j k) }
      where
        outward : (j : ℕ) → Above (entry_count a) r j (suc n) → j ≢ k → Above (entry_count a) r j n
        outward j u q = above_body n (λ e. q (sym e ∙ b.numbered)) u

        lower : (j : ℕ) → Above (entry_count a) r j (suc n) → (t : ℕ) → Lower p s t → Dec (j ≡ k) → bind ρ k U j t ≡ own_sets p a r j t
        lower j u t i (yes q) =
            subst (λ (x : ℕ). bind ρ k U x t ≡ own_sets p a r x t) (sym q)
            (ap (λ (W : ℕ → Bool). W t) (bind_same ρ k U) ∙ low t i ∙ right_lower t i ∙ sym (own_fixed kept n k t b i.0))
        lower j u t i (no q) = ap (λ (W : ℕ → Bool). W t) (bind_other ρ k U j q) ∙ w.lower j (outward j u q) t i

        here : (j : ℕ) → Above (entry_count a) r j (suc n) → Dec (j ≡ k)
            → bind ρ k U j s ≡ pick (outer j (opened k m)) (own_sets p a r j s) (eqb (node_kind r (binder_node r j)) 8)
        here j u (yes q) =
            subst (λ (x : ℕ). bind ρ k U x s ≡ pick (outer x (opened k m)) (own_sets p a r x s) (eqb (node_kind r (binder_node r x)) 8)) (sym q)
            (ap (λ (W : ℕ → Bool). W s) (bind_same ρ k U) ∙ at ∙ ap (λ (x : ℕ). eqb (node_kind r x) 8) (sym (binder_node_lem r n k b))
            ∙ ap (λ (x : Bool). pick x (own_sets p a r k s) (eqb (node_kind r (binder_node r k)) 8)) (sym (outer_shut m v)))
        here j u (no q) =
            ap (λ (W : ℕ → Bool). W s) (bind_other ρ k U j q) ∙ w.here j (outward j u q)
            ∙ ap (λ (x : Bool). pick x (own_sets p a r j s) (eqb (node_kind r (binder_node r j)) 8)) (sym (outer_same m j (outward j u q)))
