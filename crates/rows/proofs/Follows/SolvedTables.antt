-- Where every filled cell of a table has the rows' solution, it is also the solution of the rows as the table changes them.
use mathlib.Core.Bool.{Bool, true, false}
use mathlib.Core.List.{List}
use mathlib.Core.Path.{◌≡◌, refl, sym, subst}
use Prim.Native.Nat.{ℕ, ◌≤◌}
use native.Mathlib.Decide.{ℕ_discrete}
use native.Mathlib.Omega.{arith}
use lib.Dec.{eqb}
use borrow.Author.Tests.{eqb-false, eq-eqb}
use Rattle.rows.specs.Rows.{Row, joined, Solution}
use Rattle.rows.specs.Tables.{byte_at, empty, filled, byte_of, changed}
use Rattle.rows.proofs.Systems.Changed.{joined_constant, changed_empty, changed_byte}
use Rattle.rows.proofs.Tables.Among.{or_left, or_right}

-- of the bytes up to 2 those that are not empty are filled
pub small_filled : (b : ℕ) → b ≤ 2 → empty b ≡ false → filled b ≡ true
small_filled b h e = elim (ℕ_discrete b 1) [
  | yes q ↦ or_left (eqb b 1) (eqb b 2) (eq-eqb b 1 q)
  | no q ↦ or_right (eqb b 1) (eqb b 2) (eq-eqb b 2 (omega (arith, eqb-false b 0 e)))
]

module _ {C : Type 0} (position : C → ℕ) (rows : C → Row C) (t : List ℕ) {Counts : C → Type 0} (v : C → Bool) (solves : Solution rows Counts v)
    (solved : (c : C) → Counts c → empty (byte_at t (position c)) ≡ false → byte_at t (position c) ≡ byte_of (v c)) where
  pub changed_solves : Solution (changed position rows t) Counts v
  changed_solves = record { row = λ c g. go c g (empty (byte_at t (position c))) refl }
    where
      Obeys : C → Row C → Type 0
      Obeys c r = v c ≡ joined r.connective v r.entries

      go : (c : C) → Counts c → (b : Bool) → empty (byte_at t (position c)) ≡ b → Obeys c (changed position rows t c)
      go c g true e = subst (Obeys c) (sym (changed_empty position rows t c e)) (solves.row c g)
      go c g false e = subst (Obeys c) (sym (changed_byte position rows t c (v c) (solved c g e))) (sym (joined_constant (v c) v))
