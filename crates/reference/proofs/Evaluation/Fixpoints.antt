-- The least fixed point from below and the greatest from above, straight from Table 1's intersection and union.
use Prim.Native.Nat.{ℕ, ◌<◌}
use mathlib.Core.Path.{◌≡◌, refl, ap}
use mathlib.Core.Bool.{Bool, true, false, cond}
use mathlib.Core.List.{List}
use lib.Dec.{eqb}
use lib.ListN.{get_or}
use borrow.Author.Tests.{eqb-true}
use Rattle.calculus.specs.Formulas.{Formula, least, greatest}
use Rattle.sheet.specs.TransitionSystem.{Plan, TransitionsInRange}
use Rattle.calculus.specs.Meaning.{Holds, bind}
use Rattle.calculus.specs.MeetingMask.{bit}
use Rattle.calculus.proofs.Table1.Sets.{Within, Below, within_refl}
use Rattle.calculus.proofs.Table1.Locality.{monotone}
use Rattle.reference.specs.Internal.Evaluating.{context_of}

module _ {P : Plan} (w : TransitionsInRange P) (X : ℕ) (φ : Formula) (ρ : ℕ → ℕ → Bool) where
  bound_within : {U W : ℕ → Bool} → Within (Below P.states) U W → (Y : ℕ) → Within (Below P.states) (bind ρ X U Y) (bind ρ X W Y)
  bound_within {U} {W} h Y = go (eqb Y X)
    where
      go : (b : Bool) → Within (Below P.states) (cond b U (ρ Y)) (cond b W (ρ Y))
      go true = h
      go false = within_refl

  module _ {U : ℕ → Bool} where
    -- a set inside the least fixed point has its image there
    pub least_image : ((t : ℕ) → t < P.states → U t ≡ true → Holds P (least X φ) ρ t) → (t : ℕ) → t < P.states → Holds P φ (bind ρ X U) t → Holds P (least X φ) ρ t
    unfolding Holds
    least_image h t l k = λ W c. c t l (monotone w φ (bound_within (record { at = λ u r e. h u r e W c })) t l k)

    -- a set that its own image lies inside has the least fixed point inside it
    pub least_all : ((t : ℕ) → t < P.states → Holds P φ (bind ρ X U) t → U t ≡ true) → (t : ℕ) → Holds P (least X φ) ρ t → U t ≡ true
    unfolding Holds
    least_all h t k = k U h

    -- a set around the greatest fixed point has its image around it
    pub greatest_image : ((t : ℕ) → t < P.states → Holds P (greatest X φ) ρ t → U t ≡ true) → (t : ℕ) → t < P.states → Holds P (greatest X φ) ρ t → Holds P φ (bind ρ X U) t
    unfolding Holds
    greatest_image h t l k = monotone w φ (bound_within (record { at = λ u r e. h u r (k.0, k.1, e) })) t l (k.1 t l k.2)

    -- a set that lies inside its own image lies inside the greatest fixed point
    pub greatest_all : ((t : ℕ) → t < P.states → U t ≡ true → Holds P φ (bind ρ X U) t) → (t : ℕ) → U t ≡ true → Holds P (greatest X φ) ρ t
    unfolding Holds
    greatest_all h t k = (U, h, k)

-- the context binds a variable to its own word
pub context_self : (words : List ℕ) (x : ℕ) → context_of words ≡ bind (context_of words) x (bit (get_or words x 0))
context_self words x = λ i Y t. go Y t (eqb Y x) refl i
  where
    go : (Y t : ℕ) (b : Bool) → eqb Y x ≡ b → bit (get_or words Y 0) t ≡ cond b (bit (get_or words x 0)) (context_of words Y) t
    go Y t true e = ap (λ (y : ℕ). bit (get_or words y 0) t) (eqb-true Y x e)
    go Y t false e = refl
