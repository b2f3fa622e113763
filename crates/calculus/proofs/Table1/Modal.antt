-- The evaluator's clauses for or, some and every, as Table 1 states them.
use Prim.Native.Nat.{ℕ}
use mathlib.Core.Path.{◌≡◌, refl, sym, ◌∙◌, ap, subst}
use mathlib.Core.Bool.{Bool, true, false, not, ◌&&◌, ◌||◌, and-eq-true_iff, false≢true}
use mathlib.Core.Logic.{◌⊎◌, inl, inr, ◌↔◌}
use mathlib.Core.List.{List, [], ◌∷◌, Memᴰ}
use lib.Dec.{eqb}
use borrow.Author.Tests.{eqb-true, eq-eqb, not-true}
use Rattle.calculus.specs.Formulas.{ActionFormula}
use Rattle.sheet.specs.TransitionSystem.{LabelledTransition, Plan}
use Rattle.calculus.specs.Meaning.{meets}
use Rattle.calculus.specs.Eval.{any_transition, departs}

pub or-true : (a b : Bool) → ((a || b) ≡ true) ↔ ((a ≡ true) ⊎ (b ≡ true))
or-true true b = (λ e. inl refl, λ _. refl)
or-true false b = (λ e. inr e, elim [ inl e ↦ absurd (false≢true e) | inr e ↦ e ])

pub any_found : (p : LabelledTransition → Bool) (ts : List LabelledTransition) → any_transition p ts ≡ true → (t : LabelledTransition) × Memᴰ t ts × (p t ≡ true)
unfolding any_transition
any_found p [] e = absurd (false≢true e)
any_found p (x ∷ ts) e = go (p x) refl e (any_found p ts)
  where
    go : (b : Bool) → p x ≡ b → (b || any_transition p ts) ≡ true → (any_transition p ts ≡ true → (t : LabelledTransition) × Memᴰ t ts × (p t ≡ true))
        → (t : LabelledTransition) × Memᴰ t (x ∷ ts) × (p t ≡ true)
    go true q e k = (x, Memᴰ.head refl, q)
    go false q e k = let r = k e in (r.0, Memᴰ.tail r.1, r.2)

any_among : (p : LabelledTransition → Bool) (t : LabelledTransition) {ts : List LabelledTransition} → Memᴰ t ts → p t ≡ true → any_transition p ts ≡ true
unfolding any_transition
any_among p t (Memᴰ.head {x = x} e) q = (or-true (p x) _).1 (inl (subst (λ (y : LabelledTransition). p y ≡ true) e q))
any_among p t (Memᴰ.tail {x = x} m) q = (or-true (p x) _).1 (inr (any_among p t m q))

pub any_of : (p : LabelledTransition → Bool) {ts : List LabelledTransition} {t : LabelledTransition} → Memᴰ t ts → p t ≡ true → any_transition p ts ≡ true
any_of p {t = t} m q = any_among p t m q

departs_true : (P : Plan) (α : ActionFormula) (s : ℕ) (t : LabelledTransition) → (departs P α s t ≡ true) ↔ ((t.origin ≡ s) × (meets P.actions α t.action ≡ true))
unfolding departs
departs_true P α s t = (
  λ e. let k = (and-eq-true_iff (eqb t.origin s) (meets P.actions α t.action)).0 e in (eqb-true _ _ k.0, k.1),
  λ k. (and-eq-true_iff (eqb t.origin s) (meets P.actions α t.action)).1 (eq-eqb _ _ k.0, k.1),
)

module _ (P : Plan) (α : ActionFormula) (s : ℕ) where
  -- Some transition from s by an action in α leads into Q; every such transition does.
  abbrev pub Somewhere : (ℕ → Type 0) → Type 0
  Somewhere Q = (t : LabelledTransition) × Memᴰ t P.transitions × (t.origin ≡ s) × (meets P.actions α t.action ≡ true) × Q t.target

  abbrev pub Everywhere : (ℕ → Type 0) → Type 0
  Everywhere Q = (t : LabelledTransition) → Memᴰ t P.transitions → t.origin ≡ s → meets P.actions α t.action ≡ true → Q t.target

  pub some_true : (U : ℕ → Bool) → (any_transition (λ t. departs P α s t && U t.target) P.transitions ≡ true) ↔ Somewhere (λ x. U x ≡ true)
  some_true U = (to, of)
    where
      step : LabelledTransition → Bool
      step t = departs P α s t && U t.target

      to : any_transition step P.transitions ≡ true → Somewhere (λ x. U x ≡ true)
      to e =
          let r = any_found step P.transitions e in
          let k = (and-eq-true_iff (departs P α s r.0) (U r.0.target)).0 r.2 in
          let l = (departs_true P α s r.0).0 k.0 in
          (r.0, r.1, l.0, l.1, k.1)

      of : Somewhere (λ x. U x ≡ true) → any_transition step P.transitions ≡ true
      of r = any_of step r.1 ((and-eq-true_iff (departs P α s r.0) (U r.0.target)).1 ((departs_true P α s r.0).1 (r.2, r.3), r.4))

  pub every_true : (U : ℕ → Bool) → (not (any_transition (λ t. departs P α s t && not (U t.target)) P.transitions) ≡ true) ↔ Everywhere (λ x. U x ≡ true)
  every_true U = (to, of)
    where
      escapes : Bool
      escapes = any_transition (λ t. departs P α s t && not (U t.target)) P.transitions

      to : not escapes ≡ true → Everywhere (λ x. U x ≡ true)
      to e t m o k = go (U t.target) refl
        where
          go : (b : Bool) → U t.target ≡ b → b ≡ true
          go true q = refl
          go false q = absurd (false≢true (sym (not-true escapes e) ∙ (some_true (λ x. not (U x))).1 (t, m, o, k, ap not q)))

      of : Everywhere (λ x. U x ≡ true) → not escapes ≡ true
      of h = go escapes refl
        where
          go : (b : Bool) → escapes ≡ b → not b ≡ true
          go true q = let r = (some_true (λ x. not (U x))).0 q in absurd (false≢true (ap not (sym (h r.0 r.1 r.2 r.3)) ∙ r.4))
          go false q = refl
