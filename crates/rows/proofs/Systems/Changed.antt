-- The rows as a table changes them: an empty cell keeps its row, a filled cell has a constant, and ranks still fall.
use mathlib.Core.Bool.{Bool, true, false}
use mathlib.Core.List.{List}
use mathlib.Core.Path.{◌≡◌, refl, ap, ◌∙◌}
use Prim.Native.Nat.{ℕ, ◌≤◌, ◌<◌}
use native.Mathlib.Omega.{arith}
use Rattle.rows.specs.Rows.{Row, joined}
use Rattle.rows.specs.Tables.{byte_at, empty, filled, known, byte_of, constant, changed}
use Rattle.rows.proofs.Systems.Systems.{Each, Falling}

pub known_byte : (b : Bool) → known (byte_of b) ≡ b
known_byte true = refl
known_byte false = refl

pub empty_byte : (b : Bool) → empty (byte_of b) ≡ false
empty_byte true = refl
empty_byte false = refl

pub filled_byte : (b : Bool) → filled (byte_of b) ≡ true
filled_byte true = refl
filled_byte false = refl

pub byte_small : (b : Bool) → byte_of b ≤ 2
byte_small true = omega arith
byte_small false = omega arith

-- a constant row has its constant for value, whatever the cells' values
pub joined_constant : {C : Type 0} (b : Bool) (v : C → Bool) → joined (constant {C = C} b).connective v (constant {C = C} b).entries ≡ b
unfolding joined
joined_constant true v = refl
joined_constant false v = refl

constant_each : {C : Type 0} (P : C → Type 0) (b : Bool) → Each P (constant {C = C} b).entries
constant_each P true = tt
constant_each P false = tt

module _ {C : Type 0} (position : C → ℕ) (rows : C → Row C) where
  pub changed_empty : (t : List ℕ) (c : C) → empty (byte_at t (position c)) ≡ true → changed position rows t c ≡ rows c
  unfolding changed
  changed_empty t c e = rw (e, changed)

  pub changed_filled : (t : List ℕ) (c : C) → empty (byte_at t (position c)) ≡ false → changed position rows t c ≡ constant (known (byte_at t (position c)))
  unfolding changed
  changed_filled t c e = rw (e, changed)

  pub changed_byte : (t : List ℕ) (c : C) (b : Bool) → byte_at t (position c) ≡ byte_of b → changed position rows t c ≡ constant b
  changed_byte t c b e = changed_filled t c (ap empty e ∙ empty_byte b) ∙ ap constant (ap known e ∙ known_byte b)

  -- the byte of the cell alone counts
  pub changed_same : (t u : List ℕ) (c : C) → byte_at u (position c) ≡ byte_at t (position c) → changed position rows u c ≡ changed position rows t c
  unfolding changed
  changed_same t u c e = λ i. elim (empty (e i)) as (λ b. Row C) [ true ↦ rows c | false ↦ constant (known (e i)) ]

  pub changed_falling : {Valid : C → Type 0} {rank : C → ℕ} → Falling rows Valid rank → (t : List ℕ) → Falling (changed position rows t) Valid rank
  changed_falling {Valid} {rank} fall t = record { falls = λ c vc. go c vc (empty (byte_at t (position c))) refl }
    where
      Less : C → C → Type 0
      Less c d = Valid d × (rank d < rank c)

      go : (c : C) → Valid c → (b : Bool) → empty (byte_at t (position c)) ≡ b → Each (Less c) (changed position rows t c).entries
      go c vc true e = rw (changed_empty t c e) (fall.falls c vc)
      go c vc false e = rw (changed_filled t c e) (constant_each (Less c) (known (byte_at t (position c))))
