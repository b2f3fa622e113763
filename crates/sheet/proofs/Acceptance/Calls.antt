-- What the calls of `read` and `write` say of the sheet and of the bodies, by their contracts; and that they accept exactly what keeps the rules.
use Prim.Native.Nat.{ℕ, ◌≤◌}
use mathlib.Core.Path.{◌≡◌, refl, sym, ◌∙◌}
use mathlib.Core.List.{List}
use native.Mathlib.Omega.{arith}
use lib.ListN.{length}
use borrow.Author.Tests.{le-leb}
use Rattle.sheet.specs.Acceptance.{AcceptedExactly}
use Rattle.sheet.specs.Reading.{bodies_check, sheet_check, bodies_of, answer_read, read_of}
use Rattle.sheet.specs.Writing.{sheet_length, write_check, answer_written, written_of}
use Rattle.sheet.specs.declared.Bodies.{Bodies}
use Rattle.std.specs.Prelude.{Err, Ok}
use Rattle.sheet.specs.Refusals.{Check}
use Rattle.sheet.proofs.Checks.Checks.{passed_then}
use Rattle.sheet.proofs.Acceptance.Sheet.{bodies_iff, accepted_iff, read_accepts}

-- a sheet that `read` accepted passed every check, and the offsets and lengths are those of its table of contents
pub was_accepted : (s : List ℕ) (b : Bodies) → Ok b ≡ read_of s → (sheet_check s ≡ Ok tt) × (b ≡ bodies_of s)
unfolding read_of
was_accepted s b e = go (sheet_check s) e
  where
    go : (c : Check) → Ok b ≡ answer_read (bodies_of s) c → (c ≡ Ok tt) × (b ≡ bodies_of s)
    go (Ok tt) f = (refl, cc)
    go (Err x) f = absurd (let z : ◌≡◌ {A = ℕ} 0 1 = cc in omega arith)

module _ (p a r out : List ℕ) where
  -- bodies that `write` wrote passed every check, and the length is that of the sheet
  pub was_written : (n : ℕ) → Ok n ≡ written_of p a r (length out) → (write_check p a r (length out) ≡ Ok tt) × (n ≡ sheet_length p a r)
  unfolding written_of
  was_written n e = go (write_check p a r (length out)) e
    where
      go : (c : Check) → Ok n ≡ answer_written (sheet_length p a r) c → (c ≡ Ok tt) × (n ≡ sheet_length p a r)
      go (Ok tt) f = (refl, cc)
      go (Err x) f = absurd (let z : ◌≡◌ {A = ℕ} 0 1 = cc in omega arith)

  pub written_bodies : write_check p a r (length out) ≡ Ok tt → bodies_check p a r ≡ Ok tt
  unfolding write_check
  written_bodies e = (passed_then (bodies_check p a r) _ e).0

  pub writes : bodies_check p a r ≡ Ok tt → sheet_length p a r ≤ length out → written_of p a r (length out) ≡ Ok (sheet_length p a r)
  unfolding written_of write_check
  writes e h = rw (e, le-leb (sheet_length p a r) (length out) h)

pub accepted_exactly : AcceptedExactly
accepted_exactly = record {
  sheets = accepted_iff;
  bodies = bodies_iff;
  reads = λ s answer c. (λ e. (read_accepts s).0 (sym c.0 ∙ e), λ k. c.0 ∙ (read_accepts s).1 k);
  writes = λ p a r out answer out' c h. (
    λ e. (bodies_iff p a r).0 (written_bodies p a r out (was_written p a r out (sheet_length p a r) (sym e ∙ c.0)).0),
    λ k. c.0 ∙ writes p a r out ((bodies_iff p a r).1 k) h,
  );
}
