-- The computed need has exactly the cells that are needed.
use mathlib.Core.Bool.{Bool, true, false, true≢false}
use mathlib.Core.List.Memᴰ
use mathlib.Core.List.{List, [], ◌∷◌, Memᴰ}
use mathlib.Core.Logic.{◌⊎◌, inl, inr}
use mathlib.Core.Path.{◌≡◌, refl, sym, subst}
use Prim.Native.Nat.{ℕ, zero, suc, ◌<◌}
use native.Mathlib.Omega.{arith}
use Rattle.rows.specs.Rows.{Connective, Row, decides, looked, LookedAt, now, later, Needed, itself, entry, value, need}
use Rattle.rows.proofs.Systems.Systems.{Falling}
use Rattle.rows.proofs.Systems.Members.{each_at}
use Rattle.rows.proofs.Systems.Fuel.{need_row}

module _ {C : Type 0} (k : Connective) (v : C → Bool) where
  pub looked_entry : {d : C} {l : List C} → LookedAt k v d l → Memᴰ d l
  looked_entry now = Memᴰ.head refl
  looked_entry (later q h) = Memᴰ.tail (looked_entry h)

  module _ (n : C → List C) (d : C) where
    -- what is needed for an entry looked at
    pub looked_in : {e : C} {l : List C} → LookedAt k v e l → Memᴰ d (n e) → Memᴰ d (looked k v n l)
    unfolding looked
    looked_in {e} (now {ds = l}) m = Memᴰ.append_left _ m
    looked_in {e} (later {e = x} {ds = l} q h) m = Memᴰ.append_right (n x) (go (decides k (v x)) q (looked_in h m))
      where
        go : (b : Bool) → b ≡ false → Memᴰ d (looked k v n l) → Memᴰ d (elim b as (λ b. List C) [ true ↦ [] | false ↦ looked k v n l ])
        go true q m = absurd (true≢false q)
        go false q m = m

    -- a cell needed for the entries looked at is needed for one of them
    pub looked_find : (l : List C) → Memᴰ d (looked k v n l) → (e : C) × LookedAt k v e l × Memᴰ d (n e)
    unfolding looked
    looked_find [] m = absurd (Memᴰ.not-nil m)
    looked_find (x ∷ l) m = go (decides k (v x)) refl (Memᴰ.append_cases (n x) m) (looked_find l)
      where
        go : (b : Bool) → decides k (v x) ≡ b → Memᴰ d (n x) ⊎ Memᴰ d (elim b as (λ b. List C) [ true ↦ [] | false ↦ looked k v n l ])
            → (Memᴰ d (looked k v n l) → (e : C) × LookedAt k v e l × Memᴰ d (n e)) → (e : C) × LookedAt k v e (x ∷ l) × Memᴰ d (n e)
        go b q (inl m) rest = (x, now, m)
        go true q (inr m) rest = absurd (Memᴰ.not-nil m)
        go false q (inr m) rest = let r = rest m in (r.0, later q r.1, r.2)

-- an entry looked at in the row of a needed cell is needed
pub needed_on : {C : Type 0} (rows : C → Row C) (v : C → Bool) {c d e : C} → Needed rows v c d → LookedAt (rows d).connective v e (rows d).entries
    → Needed rows v c e
needed_on rows v itself h = entry h itself
needed_on rows v (entry g n) h = entry g (needed_on rows v n h)

module _ {C : Type 0} (rows : C → Row C) {Valid : C → Type 0} {rank : C → ℕ} (fall : Falling rows Valid rank) (F : ℕ) (fuelled : (c : C) → Valid c → rank c < F) where
  abbrev Lower : C → C → Type 0
  Lower c d = Valid d × (rank d < rank c)

  unfolded : (c d : C) → Valid c → Memᴰ d (need rows F c) → Memᴰ d (c ∷ looked (rows c).connective (value rows F) (need rows F) (rows c).entries)
  unfolded c d vc m = subst (Memᴰ d) (need_row rows fall F c vc (fuelled c vc)) m

  pub needed_mem : {c d : C} → Valid c → Needed rows (value rows F) c d → Memᴰ d (need rows F c)
  needed_mem {c} vc itself = subst (Memᴰ c) (sym (need_row rows fall F c vc (fuelled c vc))) (Memᴰ.head refl)
  needed_mem {c} {d} vc (entry {e = e} h n) =
      let ve = each_at (Lower c) (rows c).entries (fall.falls c vc) e (looked_entry (rows c).connective (value rows F) h) in
      subst (Memᴰ d) (sym (need_row rows fall F c vc (fuelled c vc)))
      (Memᴰ.tail (looked_in (rows c).connective (value rows F) (need rows F) d h (needed_mem ve.0 n)))

  pub mem_needed : (c d : C) → Valid c → Memᴰ d (need rows F c) → Needed rows (value rows F) c d
  mem_needed c d vc m = go (suc (rank c)) c vc (omega arith) m
    where
      go : (b : ℕ) (c : C) → Valid c → rank c < b → Memᴰ d (need rows F c) → Needed rows (value rows F) c d
      go zero c vc h m = absurd (omega arith)
      go (suc b) c vc h m = found (Memᴰ.cases_cons (unfolded c d vc m)) (go b)
        where
          found : (d ≡ c) ⊎ Memᴰ d (looked (rows c).connective (value rows F) (need rows F) (rows c).entries)
              → ((e : C) → Valid e → rank e < b → Memᴰ d (need rows F e) → Needed rows (value rows F) e d) → Needed rows (value rows F) c d
          found (inl q) rest = subst (Needed rows (value rows F) c) (sym q) itself
          found (inr m) rest =
              let r = looked_find (rows c).connective (value rows F) (need rows F) d (rows c).entries m in
              let ve = each_at (Lower c) (rows c).entries (fall.falls c vc) r.0 (looked_entry (rows c).connective (value rows F) r.1) in
              entry r.1 (rest r.0 ve.0 (omega (arith, ve.1)) r.2)
