-- Which positions a list of cells holds.
use mathlib.Core.Bool.{Bool, true, false, ◌||◌, true≢false, or-true, or_assoc}
use mathlib.Core.List.{List, [], ◌∷◌, ◌++◌, Memᴰ}
use mathlib.Core.Path.{◌≡◌, refl, sym, ap}
use Prim.Native.Nat.{ℕ}
use lib.Dec.{eqb}
use borrow.Author.Tests.{eqb-true, eq-eqb, ne_eqb}
use Rattle.rows.specs.Tables.{among}
use Rattle.rows.proofs.Systems.Systems.{Each}

pub or_cases : (a b : Bool) {X : Type 0} → (a || b) ≡ true → (a ≡ true → X) → (b ≡ true → X) → X
or_cases true b h x y = x refl
or_cases false b h x y = y h

pub or_left : (a b : Bool) → a ≡ true → (a || b) ≡ true
or_left a b h = rw h

pub or_right : (a b : Bool) → b ≡ true → (a || b) ≡ true
or_right a b h = rw h (or-true a)

pub false_if : (b : Bool) → (b ≡ true → ⊥) → b ≡ false
false_if true h = absurd (h refl)
false_if false h = refl

module _ {C : Type 0} (position : C → ℕ) where
  pub among_append : (l m : List C) (i : ℕ) → among position (l ++ m) i ≡ (among position l i || among position m i)
  unfolding among
  among_append [] m i = refl
  among_append (d ∷ l) m i = rw (among_append l m i) (sym (or_assoc (eqb (position d) i) (among position l i) (among position m i)))

  -- a position in a list is that of a cell in it
  pub among_find : {P : C → Type 0} (l : List C) → Each P l → (i : ℕ) → among position l i ≡ true → (d : C) × P d × (position d ≡ i)
  unfolding among
  among_find [] e i h = absurd (true≢false (sym h))
  among_find {P} (d ∷ l) e i h = go (eqb (position d) i) refl h (among_find l e.1 i)
    where
      go : (b : Bool) → eqb (position d) i ≡ b → (b || among position l i) ≡ true → (among position l i ≡ true → (d : C) × P d × (position d ≡ i)) → (d : C) × P d × (position d ≡ i)
      go true q h rest = (d, e.0, eqb-true (position d) i q)
      go false q h rest = rest h

  pub among_none : (l : List C) (i : ℕ) → Each (λ d. position d ≡ i → ⊥) l → among position l i ≡ false
  unfolding among
  among_none [] i e = refl
  among_none (d ∷ l) i e = rw (ne_eqb (position d) i e.0) (among_none l i e.1)

  pub among_head : (d : C) (l : List C) → among position (d ∷ l) (position d) ≡ true
  unfolding among
  among_head d l = rw (eq-eqb (position d) (position d) refl)

  pub among_other : (d : C) (l : List C) (i : ℕ) → eqb (position d) i ≡ false → among position (d ∷ l) i ≡ among position l i
  unfolding among
  among_other d l i e = rw e

  pub among_tail : (d : C) (l m : List C) (i : ℕ) → among position l i ≡ among position m i → among position (d ∷ l) i ≡ among position (d ∷ m) i
  unfolding among
  among_tail d l m i e = ap (λ (b : Bool). eqb (position d) i || b) e

  pub mem_among : {c : C} {l : List C} → Memᴰ c l → among position l (position c) ≡ true
  unfolding among
  mem_among (Memᴰ.head {x = d} {xs = l} e) = or_left (eqb (position d) (position _)) (among position l (position _)) (eq-eqb (position d) (position _) (sym (ap position e)))
  mem_among (Memᴰ.tail {x = d} {xs = l} m) = or_right (eqb (position d) (position _)) (among position l (position _)) (mem_among m)
