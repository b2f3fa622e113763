-- What every call of `read` and of `write` reports and leaves, by its contract.
use Prim.Native.Nat.{ℕ, ◌<◌, ◌≤◌}
use mathlib.Core.Path.{◌≡◌, refl, sym, ap, subst, ◌∙◌}
use mathlib.Core.Bool.{Bool, true, false}
use mathlib.Core.List.{List, ◌++◌}
use mathlib.Core.Logic.{◌↔◌}
use native.Mathlib.Omega.{arith}
use lib.ListN.{length, drop}
use lib.Dec.{leb}
use borrow.Author.Tests.{leb-true, leb-false}
use Rattle.sheet.specs.WellFormed.{WellFormedBodies, WellFormedSheet}
use Rattle.sheet.specs.Refusals.{require, and_then}
use Rattle.sheet.specs.Reading.{bodies_check, sheet_check, bodies_of, answer_read, read_of}
use Rattle.sheet.specs.Writing.{sheet_of, sheet_length, write_check, answer_written, written_of, leaves, output_after}
use Rattle.sheet.specs.AnsweredCalls.{ReadAnswered, WriteAnswered, AnsweredCalls}
use Rattle.sheet.specs.declared.Refusal.{Refusal}
use Rattle.sheet.specs.declared.Refusal.TheVariants.{OutputShort}
use Rattle.std.specs.Prelude.{Result, Err, Ok}
use Rattle.sheet.specs.Refusals.{Check}
use Rattle.sheet.proofs.Acceptance.Sheet.{bodies_iff, accepted_iff}
use Rattle.sheet.proofs.Acceptance.Numbers.{refused_number, low_bodies}
use Rattle.sheet.proofs.Roundtrip.RoundTrip.{written_length}

not_passed : (x : Refusal) → ◌≡◌ {A = Check} (Err x) (Ok tt) → ⊥
not_passed x e = let z : ◌≡◌ {A = ℕ} 0 1 = cc in omega arith

read_answered : (s : List ℕ) (c : Check) → (c ≡ Ok tt) ↔ WellFormedSheet s → ReadAnswered s (answer_read (bodies_of s) c)
read_answered s (Ok tt) iff = record {
  exactly = (λ q. iff.0 refl, λ k. refl);
  accepted = λ q. (refl, refl);
  refused = λ q. absurd (q refl);
}
read_answered s (Err x) iff = record {
  exactly = (λ q. absurd (omega (arith, refused_number x)), λ k. absurd (not_passed x (iff.1 k)));
  accepted = λ q. absurd (omega (arith, refused_number x));
  refused = λ q. refl;
}

read-of : (s : List ℕ) → ReadAnswered s (read_of s)
unfolding read_of
read-of s = read_answered s (sheet_check s) (accepted_iff s)

module _ (p a r out : List ℕ) where
  abbrev After : Check → Type 0
  After c = WriteAnswered p a r out (answer_written (sheet_length p a r) c) (leaves (sheet_of p a r) out c)

  roomy : (b : Bool) → leb (sheet_length p a r) (length out) ≡ b → WellFormedBodies p a r → After (require b OutputShort)
  roomy true e k =
      let fits : sheet_length p a r ≤ length out = leb-true (sheet_length p a r) (length out) e in
      record {
        exactly = (λ q. (k, fits), λ q. refl);
        short = (λ q. absurd (omega arith), λ q. absurd (omega (arith, q.1)));
        accepted = λ q. (refl, refl);
        written = λ q. ap (λ (n : ℕ). sheet_of p a r ++ drop n out) (written_length p a r);
        refused = λ q. absurd (q refl);
      }
  roomy false e k =
      let over : length out < sheet_length p a r = leb-false (sheet_length p a r) (length out) e in
      record {
        exactly = (λ q. absurd (omega arith), λ q. absurd (omega (arith, q.1)));
        short = (λ q. (k, over), λ q. refl);
        accepted = λ q. absurd (omega arith);
        written = λ q. absurd (omega arith);
        refused = λ q. (refl, refl);
      }

  write_answered : (c : Check) → bodies_check p a r ≡ c → After (and_then c (require (leb (sheet_length p a r) (length out)) OutputShort))
  write_answered (Ok tt) e = roomy (leb (sheet_length p a r) (length out)) refl ((bodies_iff p a r).0 e)
  write_answered (Err x) e = record {
    exactly = (λ q. absurd (omega (arith, refused_number x)), λ q. absurd (not_passed x (sym e ∙ (bodies_iff p a r).1 q.0)));
    short = (λ q. absurd (omega (arith, low_bodies p a r e)), λ q. absurd (not_passed x (sym e ∙ (bodies_iff p a r).1 q.0)));
    accepted = λ q. absurd (omega (arith, refused_number x));
    written = λ q. absurd (omega (arith, refused_number x));
    refused = λ q. (refl, refl);
  }

  written-of : WriteAnswered p a r out (written_of p a r (length out)) (output_after p a r out)
  unfolding written_of output_after write_check
  written-of = write_answered (bodies_check p a r) refl

  answered_write : (answer : Result ℕ Refusal) (out' : List ℕ) → answer ≡ written_of p a r (length out) → out' ≡ output_after p a r out → WriteAnswered p a r out answer out'
  answered_write answer out' e f =
      subst (λ (w : Result ℕ Refusal). WriteAnswered p a r out w out') (sym e)
      (subst (WriteAnswered p a r out (written_of p a r (length out))) (sym f) written-of)

pub answered_calls : AnsweredCalls
answered_calls = record {
  reads = λ s answer c. subst (ReadAnswered s) (sym c.0) (read-of s);
  writes = λ p a r out answer out' c. answered_write p a r out answer out' c.0 c.1.1;
}
