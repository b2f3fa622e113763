-- Unfolding at one state s: s is in a least fixed point when it is in the body with the fixed point less s, and in a greatest when it is in the body
-- with the fixed point and s. The plan may have loops.
use Prim.Native.Nat.{ℕ, ◌<◌}
use mathlib.Core.Path.{◌≡◌, refl, sym, ◌∙◌, ap, subst}
use mathlib.Core.Bool.{Bool, true, false, not, ◌&&◌, ◌||◌, and-eq-true_iff, false≢true}
use mathlib.Core.Logic.{◌↔◌, inl, inr, ⊎_elim}
use lib.Dec.{eqb}
use borrow.Author.Tests.{eqb-true, eq-eqb}
use Rattle.calculus.specs.Formulas.{Formula, least, greatest}
use Rattle.sheet.specs.TransitionSystem.{Plan, TransitionsInRange}
use Rattle.calculus.specs.Meaning.{bind}
use Rattle.calculus.proofs.Table1.Sets.{Within, Below}
use Rattle.calculus.specs.Eval.{eval}
use Rattle.calculus.proofs.Table1.Modal.{or-true}
use Rattle.calculus.proofs.Table1.Iterates.{image, image_monotone, least_closed, least_within, greatest_open, within_greatest}

-- U less the state s, and U with s.
abbrev pub remove : (ℕ → Bool) → ℕ → ℕ → Bool
remove U s t = U t && not (eqb t s)

abbrev pub insert : (ℕ → Bool) → ℕ → ℕ → Bool
insert U s t = U t || eqb t s

remove_within : {R : ℕ → Type 0} (U : ℕ → Bool) (s : ℕ) → Within R (remove U s) U
remove_within U s = record { at = λ t r e. ((and-eq-true_iff (U t) (not (eqb t s))).0 e).0 }

within_insert : {R : ℕ → Type 0} (U : ℕ → Bool) (s : ℕ) → Within R U (insert U s)
within_insert U s = record { at = λ t r e. (or-true (U t) (eqb t s)).1 (inl e) }

module _ {P : Plan} (w : TransitionsInRange P) (X : ℕ) (φ : Formula) (ρ : ℕ → ℕ → Bool) (s : ℕ) (l : s < P.states) where
  pub eval_least_unfold : (eval P (least X φ) ρ s ≡ true) ↔ (eval P φ (bind ρ X (remove (eval P (least X φ) ρ) s)) s ≡ true)
  eval_least_unfold = (λ e. into e (image P X φ ρ (remove D s) s) refl, λ e. (least_closed w X φ ρ).at s l (shrunk.at s l e))
    where
      D : ℕ → Bool
      D = eval P (least X φ) ρ

      shrunk : Within (Below P.states) (image P X φ ρ (remove D s)) (image P X φ ρ D)
      shrunk = image_monotone w X φ ρ (remove D s) D (remove_within D s)

      -- Were s not in the image of D less s, that set would contain its own image, and so D.
      closed : image P X φ ρ (remove D s) s ≡ false → Within (Below P.states) (image P X φ ρ (remove D s)) (remove D s)
      closed f = record { at = λ t r e. (and-eq-true_iff (D t) (not (eqb t s))).1 ((least_closed w X φ ρ).at t r (shrunk.at t r e), apart t e (eqb t s) refl) }
        where
          apart : (t : ℕ) → image P X φ ρ (remove D s) t ≡ true → (b : Bool) → eqb t s ≡ b → not b ≡ true
          apart t e true q = absurd (false≢true (sym f ∙ subst (λ (x : ℕ). image P X φ ρ (remove D s) x ≡ true) (eqb-true t s q) e))
          apart t e false q = refl

      into : D s ≡ true → (b : Bool) → image P X φ ρ (remove D s) s ≡ b → b ≡ true
      into e true f = refl
      into e false f =
          absurd (false≢true (ap not (sym (eq-eqb s s refl)) ∙ ((and-eq-true_iff (D s) (not (eqb s s))).0 ((least_within w X φ ρ (closed f)).at s l e)).1))

  pub eval_greatest_unfold : (eval P (greatest X φ) ρ s ≡ true) ↔ (eval P φ (bind ρ X (insert (eval P (greatest X φ) ρ) s)) s ≡ true)
  eval_greatest_unfold =
      (λ e. grown.at s l ((greatest_open w X φ ρ).at s l e), λ e. (within_greatest w X φ ρ (supported e)).at s l ((or-true (D s) (eqb s s)).1 (inr (eq-eqb s s refl))))
    where
      D : ℕ → Bool
      D = eval P (greatest X φ) ρ

      grown : Within (Below P.states) (image P X φ ρ D) (image P X φ ρ (insert D s))
      grown = image_monotone w X φ ρ D (insert D s) (within_insert D s)

      -- If s is in the image of D with s, that set is contained in its own image.
      supported : image P X φ ρ (insert D s) s ≡ true → Within (Below P.states) (insert D s) (image P X φ ρ (insert D s))
      supported f = record {
        at = λ t r e. ⊎_elim (λ (d : D t ≡ true). grown.at t r ((greatest_open w X φ ρ).at t r d))
            (λ (q : eqb t s ≡ true). subst (λ (x : ℕ). image P X φ ρ (insert D s) x ≡ true) (sym (eqb-true t s q)) f) ((or-true (D t) (eqb t s)).0 e);
      }
