-- Solution and need do not depend on fuel above the rank, and satisfy the rows; there is one solution only.
use mathlib.Core.Bool.{Bool, true, false}
use mathlib.Core.List.{List, [], ◌∷◌, ◌++◌}
use mathlib.Core.Path.{◌≡◌, refl, ap, ◌∙◌}
use Prim.Native.Nat.{ℕ, zero, suc, ◌<◌}
use native.Mathlib.Omega.{arith}
use Rattle.rows.specs.Rows.{Connective, Row, decides, deciding, joined, looked, value, need}
use Rattle.rows.proofs.Systems.Systems.{Each, Falling}

module _ {C : Type 0} where
  pub each_map : {P Q : C → Type 0} → ((d : C) → P d → Q d) → (l : List C) → Each P l → Each Q l
  each_map h [] e = tt
  each_map h (d ∷ ds) e = (h d e.0, each_map h ds e.1)

  -- entries of one value join to one value, and with one need they need the same
  pub joined_cong : (k : Connective) (v w : C → Bool) (l : List C) → Each (λ d. v d ≡ w d) l → joined k v l ≡ joined k w l
  unfolding joined
  joined_cong k v w [] e = refl
  joined_cong k v w (d ∷ ds) e = λ i. elim (decides k (e.0 i)) as (λ b. Bool) [ true ↦ deciding k | false ↦ joined_cong k v w ds e.1 i ]

  pub looked_cong : (k : Connective) (v w : C → Bool) (n m : C → List C) (l : List C) → Each (λ d. (v d ≡ w d) × (n d ≡ m d)) l → looked k v n l ≡ looked k w m l
  unfolding looked
  looked_cong k v w n m [] e = refl
  looked_cong k v w n m (d ∷ ds) e = λ i. e.0.1 i ++ elim (decides k (e.0.0 i)) as (λ b. List C) [ true ↦ [] | false ↦ looked_cong k v w n m ds e.1 i ]

module _ {C : Type 0} (rows : C → Row C) {Valid : C → Type 0} {rank : C → ℕ} (fall : Falling rows Valid rank) where
  pub value_fuel : (f g : ℕ) (c : C) → Valid c → rank c < f → rank c < g → value rows f c ≡ value rows g c
  unfolding value
  value_fuel zero g c vc hf hg = absurd (omega arith)
  value_fuel (suc f) zero c vc hf hg = absurd (omega arith)
  value_fuel (suc f) (suc g) c vc hf hg =
      joined_cong (rows c).connective _ _ (rows c).entries
      (each_map (λ d (h : Valid d × (rank d < rank c)). value_fuel f g d h.0 (omega arith) (omega arith)) (rows c).entries (fall.falls c vc))

  pub need_fuel : (f g : ℕ) (c : C) → Valid c → rank c < f → rank c < g → need rows f c ≡ need rows g c
  unfolding need
  need_fuel zero g c vc hf hg = absurd (omega arith)
  need_fuel (suc f) zero c vc hf hg = absurd (omega arith)
  need_fuel (suc f) (suc g) c vc hf hg =
      ap {B = List C} (λ l. c ∷ l) (looked_cong (rows c).connective _ _ _ _ (rows c).entries
      (each_map (λ d (h : Valid d × (rank d < rank c)). (value_fuel f g d h.0 (omega arith) (omega arith), need_fuel f g d h.0 (omega arith) (omega arith)))
      (rows c).entries (fall.falls c vc)))

  -- the row's equation at every cell
  pub value_row : (f : ℕ) (c : C) → Valid c → rank c < f → value rows f c ≡ joined (rows c).connective (value rows f) (rows c).entries
  unfolding value
  value_row zero c vc hf = absurd (omega arith)
  value_row (suc f) c vc hf =
      joined_cong (rows c).connective _ _ (rows c).entries
      (each_map (λ d (h : Valid d × (rank d < rank c)). value_fuel f (suc f) d h.0 (omega arith) (omega arith)) (rows c).entries (fall.falls c vc))

  pub need_row : (f : ℕ) (c : C) → Valid c → rank c < f → need rows f c ≡ c ∷ looked (rows c).connective (value rows f) (need rows f) (rows c).entries
  unfolding need
  need_row zero c vc hf = absurd (omega arith)
  need_row (suc f) c vc hf =
      ap {B = List C} (λ l. c ∷ l) (looked_cong (rows c).connective _ _ _ _ (rows c).entries
      (each_map (λ d (h : Valid d × (rank d < rank c)). (value_fuel f (suc f) d h.0 (omega arith) (omega arith), need_fuel f (suc f) d h.0 (omega arith) (omega arith)))
      (rows c).entries (fall.falls c vc)))

  -- one solution only: what satisfies the rows is the value
  pub value_unique : (v : C → Bool) → ((c : C) → Valid c → v c ≡ joined (rows c).connective v (rows c).entries) → (f : ℕ) (c : C) → Valid c → rank c < f → v c ≡ value rows f c
  unfolding value
  value_unique v eqs zero c vc hf = absurd (omega arith)
  value_unique v eqs (suc f) c vc hf =
      eqs c vc ∙ joined_cong (rows c).connective _ _ (rows c).entries
      (each_map (λ d (h : Valid d × (rank d < rank c)). value_unique v eqs f d h.0 (omega arith)) (rows c).entries (fall.falls c vc))

  -- other rows that agree at the valid cells have the same solution and need
  module _ (other : C → Row C) (same : (c : C) → Valid c → rows c ≡ other c) where
    pub value_agree : (f : ℕ) (c : C) → Valid c → value rows f c ≡ value other f c
    unfolding value
    value_agree zero c vc = refl
    value_agree (suc f) c vc =
        joined_cong (rows c).connective _ _ (rows c).entries (each_map (λ d (h : Valid d × (rank d < rank c)). value_agree f d h.0) (rows c).entries (fall.falls c vc))
        ∙ ap (λ (r : Row C). joined r.connective (λ d. value other f d) r.entries) (same c vc)

    pub need_agree : (f : ℕ) (c : C) → Valid c → need rows f c ≡ need other f c
    unfolding need
    need_agree zero c vc = refl
    need_agree (suc f) c vc =
        ap {B = List C} (λ l. c ∷ l) (looked_cong (rows c).connective _ _ _ _ (rows c).entries
        (each_map (λ d (h : Valid d × (rank d < rank c)). (value_agree f d h.0, need_agree f d h.0)) (rows c).entries (fall.falls c vc)))
        ∙ ap (λ (r : Row C). c ∷ looked r.connective (λ d. value other f d) (λ d. need other f d) r.entries) (same c vc)
