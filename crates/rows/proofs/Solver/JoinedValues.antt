-- What an "or" and an "and" of cells join to.
use mathlib.Core.Bool.{Bool, true, false, ◌&&◌, ◌||◌, or-false, and-true}
use mathlib.Core.List.{List, [], ◌∷◌}
use mathlib.Core.Path.{◌≡◌, refl, ap, ◌∙◌}
use Rattle.rows.specs.Rows.{disjunction, conjunction, decides, joined}
use Rattle.rows.proofs.Systems.Changed.{joined_constant}
use Rattle.rows.proofs.Solver.Walks.{joined_decided, joined_on}

module _ {C : Type 0} (v : C → Bool) where
  pub or_cons : (x : C) (l : List C) → joined disjunction v (x ∷ l) ≡ (v x || joined disjunction v l)
  or_cons x l = go (v x) refl
    where
      go : (b : Bool) → v x ≡ b → joined disjunction v (x ∷ l) ≡ (b || joined disjunction v l)
      go true e = joined_decided disjunction v x l (ap (decides disjunction) e) ∙ e
      go false e = joined_on disjunction v x l (ap (decides disjunction) e)

  pub and_cons : (x : C) (l : List C) → joined conjunction v (x ∷ l) ≡ (v x && joined conjunction v l)
  and_cons x l = go (v x) refl
    where
      go : (b : Bool) → v x ≡ b → joined conjunction v (x ∷ l) ≡ (b && joined conjunction v l)
      go true e = joined_on conjunction v x l (ap (decides conjunction) e)
      go false e = joined_decided conjunction v x l (ap (decides conjunction) e) ∙ e

  pub one_joined : (x : C) → joined disjunction v (x ∷ []) ≡ v x
  one_joined x = or_cons x [] ∙ ap (λ (b : Bool). v x || b) (joined_constant false v) ∙ or-false (v x)

  pub or_joined : (x y : C) → joined disjunction v (x ∷ y ∷ []) ≡ (v x || v y)
  or_joined x y = or_cons x (y ∷ []) ∙ ap (λ (b : Bool). v x || b) (one_joined y)

  pub and_joined : (x y : C) → joined conjunction v (x ∷ y ∷ []) ≡ (v x && v y)
  and_joined x y =
      and_cons x (y ∷ []) ∙ ap (λ (b : Bool). v x && b) (and_cons y [] ∙ ap (λ (b : Bool). v y && b) (joined_constant true v) ∙ and-true (v y))
