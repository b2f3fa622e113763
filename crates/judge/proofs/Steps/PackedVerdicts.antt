-- The arithmetic of a verdict packed with its visits, and of what a cell's byte says.
use Rattle.std.proofs.Common.{◌≡◌, ℕ, ◌+◌, ◌*◌, ◌/◌, ◌%◌, true, false, eqb, refl, ap, arith}
use Rattle.rows.specs.Tables.{byte_of}
use Rattle.judge.specs.Internal.Packed.{verdict_in, Added, OneVisitMore}

same_parity : (a b : ℕ) → a % 2 ≡ b % 2 → verdict_in a ≡ verdict_in b
same_parity a b e = ap (λ (k : ℕ). eqb k 1) e

pub visits_added : (first second : ℕ) → Added first second (first / 2 * 2 + second)
visits_added first second = record {
  verdict_is = same_parity (first / 2 * 2 + second) second (omega arith);
  visits_are = omega arith;
  small = omega arith;
}

pub cell_filled : (w : ℕ) → OneVisitMore w (w + 2)
cell_filled w = record { verdict_is = same_parity (w + 2) w (omega arith); visits_are = omega arith; small = refl }

pub true_byte : (w : ℕ) → verdict_in w ≡ true → 2 ≡ byte_of (verdict_in w)
true_byte w e = rw e

pub false_byte : (w : ℕ) → verdict_in w ≡ false → 1 ≡ byte_of (verdict_in w)
false_byte w e = rw e
