-- The place of a cell that is needed for entries looked at, by the entry.
use Prim.Native.Nat.{ℕ}
use mathlib.Core.Path.{◌≡◌, refl, sym, ap, ◌∙◌}
use mathlib.Core.Bool.{Bool, true, false, ◌||◌, true≢false}
use mathlib.Core.List.{List, [], ◌∷◌}
use Rattle.rows.specs.Rows.{Connective, decides, looked, LookedAt, now, later}
use Rattle.rows.specs.Tables.{among}
use Rattle.rows.proofs.Tables.Among.{or_cases, or_left, or_right, among_append}

module _ {C : Type 0} (position : C → ℕ) (k : Connective) (v : C → Bool) (n : C → List C) (i : ℕ) where
  -- what follows an entry, unless it decides
  abbrev rest : Bool → List C → List C
  rest b l = elim b as (λ b. List C) [ true ↦ [] | false ↦ looked k v n l ]

  pub among_looked : (l : List C) → among position (looked k v n l) i ≡ true → (c : C) × LookedAt k v c l × (among position (n c) i ≡ true)
  unfolding looked among
  among_looked [] e = absurd (true≢false (sym e))
  among_looked (c ∷ l) e = go (decides k (v c)) refl (sym (among_append position (n c) (rest (decides k (v c)) l) i) ∙ e) (among_looked l)
    where
      go : (b : Bool) → decides k (v c) ≡ b → (among position (n c) i || among position (rest b l) i) ≡ true
          → (among position (looked k v n l) i ≡ true → (d : C) × LookedAt k v d l × (among position (n d) i ≡ true))
          → (d : C) × LookedAt k v d (c ∷ l) × (among position (n d) i ≡ true)
      go true q e later_ones = or_cases (among position (n c) i) (among position [] i) e (λ h. (c, now, h)) (λ h. absurd (true≢false (sym h)))
      go false q e later_ones =
          or_cases (among position (n c) i) (among position (looked k v n l) i) e (λ h. (c, now, h)) (λ h. let r = later_ones h in (r.0, later q r.1, r.2))

  pub looked_among : {c : C} {l : List C} → LookedAt k v c l → among position (n c) i ≡ true → among position (looked k v n l) i ≡ true
  unfolding looked
  looked_among {c} (now {ds = l}) h = among_append position (n c) (rest (decides k (v c)) l) i ∙ or_left (among position (n c) i) _ h
  looked_among {c} (later {e = d} {ds = l} q g) h =
      among_append position (n d) (rest (decides k (v d)) l) i
      ∙ or_right (among position (n d) i) _ (ap (λ (b : Bool). among position (rest b l) i) q ∙ looked_among g h)
