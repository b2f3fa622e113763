-- Whether enough entries of a list are filled with a value, entry by entry: the first that tells ends it.
use mathlib.Core.Bool.{Bool, true, false, not, ◌&&◌, ◌||◌, beq, true≢false}
use mathlib.Core.List.{List, [], ◌∷◌}
use mathlib.Core.Path.{◌≡◌, refl}
use Prim.Native.Nat.{ℕ}
use Rattle.rows.specs.Tables.{constant}
use Rattle.rows.specs.FollowsFrom.{filled_with, some_filled_with, all_filled_with, enough_filled_with, follows_from}

module _ {C : Type 0} (position : C → ℕ) (t : List ℕ) where
  abbrev Enough : Bool → Bool → List C → Bool
  Enough = enough_filled_with position t

  pub enough_none : (one v : Bool) → Enough one v [] ≡ not one
  unfolding some_filled_with all_filled_with
  enough_none true v = refl
  enough_none false v = refl

  -- where one is enough an entry that is filled with the value tells, and where all are asked for one that is not
  pub enough_here : (one v : Bool) (d : C) (l : List C) → filled_with position t v d ≡ one → Enough one v (d ∷ l) ≡ one
  unfolding some_filled_with all_filled_with
  enough_here true v d l e = rw e
  enough_here false v d l e = rw e

  pub enough_on : (one v : Bool) (d : C) (l : List C) → beq (filled_with position t v d) one ≡ false → Enough one v (d ∷ l) ≡ Enough one v l
  unfolding some_filled_with all_filled_with
  enough_on true v d l e = go (filled_with position t v d) e
    where
      go : (b : Bool) → beq b true ≡ false → (b || some_filled_with position t v l) ≡ some_filled_with position t v l
      go true q = absurd (true≢false q)
      go false q = refl
  enough_on false v d l e = go (filled_with position t v d) e
    where
      go : (b : Bool) → beq b false ≡ false → (b && all_filled_with position t v l) ≡ all_filled_with position t v l
      go true q = refl
      go false q = absurd (true≢false q)

  pub enough_only : (one v : Bool) (d : C) → Enough one v (d ∷ []) ≡ filled_with position t v d
  unfolding some_filled_with all_filled_with
  enough_only true v d = go (filled_with position t v d)
    where
      go : (b : Bool) → (b || false) ≡ b
      go true = refl
      go false = refl
  enough_only false v d = go (filled_with position t v d)
    where
      go : (b : Bool) → (b && true) ≡ b
      go true = refl
      go false = refl

  -- from a constant row its constant alone follows
  pub constant_follows : (w v : Bool) → follows_from position t (constant w) v ≡ beq w v
  unfolding some_filled_with all_filled_with
  constant_follows true true = refl
  constant_follows true false = refl
  constant_follows false true = refl
  constant_follows false false = refl
