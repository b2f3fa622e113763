-- Sheet and bodies turn into each other without change, said of every call of the reader and of the writer. The statement is RoundTrip of
-- specs/RoundTrip.antt.
use Prim.Native.Nat.{ℕ, ◌≤◌}
use mathlib.Core.Path.{◌≡◌, refl, sym, ap, subst, ◌∙◌}
use mathlib.Core.List.{List, ◌++◌}
use lib.ListN.{length, take, drop}
use lib.Seq.{take_at, drop_at}
use native.Mathlib.Omega.{arith}
use borrow.Author.Tests.{le-leb}
use Rattle.sheet.specs.Contents.{plan_body, actions_body, rule_body}
use Rattle.sheet.specs.Reading.{sheet_check, bodies_check, read_of}
use Rattle.sheet.specs.Writing.{sheet_of, sheet_length, write_check, leaves, output_after}
use Rattle.sheet.specs.RunningCalls.{AllBytes, Reads, Writes}
use Rattle.sheet.specs.RoundTrip.{bytes_of, spans_of, ReadBack, WrittenBack, RoundTrip}
use Rattle.sheet.specs.declared.Bodies.{Bodies}
use Rattle.std.specs.Prelude.{Result, Ok}
use Rattle.sheet.specs.declared.Refusal.{Refusal}
use Rattle.sheet.specs.Refusals.{Check}
use Rattle.sheet.proofs.Acceptance.Sheet.{bodies_iff}
use Rattle.sheet.proofs.Acceptance.Calls.{was_accepted, was_written, written_bodies, writes}
use Rattle.sheet.proofs.Acceptance.Parts.{bodies_kept}
use Rattle.sheet.proofs.Roundtrip.RoundTrip.{plan_there, actions_there, rule_there, written_answer, written_read, written_length}

-- reading what the writer wrote gives back the three bodies
pub write_then_read : (p a r out : List ℕ) (n : ℕ) (out' : List ℕ) → Writes p a r out (Ok n) out'
    → (answer : Result Bodies Refusal) → Reads (take n out') answer → ReadBack p a r (take n out') answer
unfolding output_after
write_then_read p a r out n out' w answer c =
    let q = was_written p a r out n w.0 in
    let e : take n out' ≡ sheet_of p a r =
    ap (take n) w.1.1 ∙ (ap (λ (x : Check). take n (leaves (sheet_of p a r) out x)) q.0 ∙
    take_at (sheet_of p a r) (drop (length (sheet_of p a r)) out) n (written_length p a r ∙ sym q.1)) in
    record {
      bodies = spans_of p a r;
      accepted = c.0 ∙ (ap read_of e ∙ written_answer p a r (written_bodies p a r out q.0));
      placed = refl;
      plan_back = ap (λ (s : List ℕ). bytes_of s (spans_of p a r).plan) e ∙ plan_there p a r;
      actions_back = ap (λ (s : List ℕ). bytes_of s (spans_of p a r).actions) e ∙ actions_there p a r;
      rule_back = ap (λ (s : List ℕ). bytes_of s (spans_of p a r).rule) e ∙ rule_there p a r;
    }

-- writing the bodies of an accepted sheet gives back its bytes
module _ (s : List ℕ) (bytes : AllBytes s) (e : sheet_check s ≡ Ok tt) (out : List ℕ) (room : length s ≤ length out) where
  same : sheet_of (plan_body s) (actions_body s) (rule_body s) ≡ s
  same = written_read s bytes e

  checked : bodies_check (plan_body s) (actions_body s) (rule_body s) ≡ Ok tt
  checked = (bodies_iff (plan_body s) (actions_body s) (rule_body s)).1 (bodies_kept s e)

  size : sheet_length (plan_body s) (actions_body s) (rule_body s) ≡ length s
  size = sym (written_length (plan_body s) (actions_body s) (rule_body s)) ∙ ap length same

  leaves_sheet : output_after (plan_body s) (actions_body s) (rule_body s) out ≡ s ++ drop (length s) out
  unfolding output_after write_check
  leaves_sheet =
      rw (checked, le-leb (sheet_length (plan_body s) (actions_body s) (rule_body s)) (length out) (omega (arith, size)))
      (ap (λ (x : List ℕ). x ++ drop (length x) out) same)

  back : (answer : Result ℕ Refusal) (out' : List ℕ) → Writes (plan_body s) (actions_body s) (rule_body s) out answer out' → WrittenBack s out answer out'
  back answer out' w =
      let left : out' ≡ s ++ drop (length s) out = w.1.1 ∙ leaves_sheet in
      record {
        wrote = w.0 ∙ (writes (plan_body s) (actions_body s) (rule_body s) out checked (omega (arith, size)) ∙ ap Ok size);
        sheet_back = ap (take (length s)) left ∙ take_at s (drop (length s) out) (length s) refl;
        rest_kept = ap (drop (length s)) left ∙ drop_at s (drop (length s) out) (length s) refl;
      }

pub read_then_write : (s : List ℕ) (b : Bodies) → Reads s (Ok b) → (out : List ℕ) (answer : Result ℕ Refusal) (out' : List ℕ)
    → Writes (bytes_of s b.plan) (bytes_of s b.actions) (bytes_of s b.rule) out answer out'
    → length s ≤ length out → WrittenBack s out answer out'
read_then_write s b c out answer out' w room =
    let q = was_accepted s b c.0 in
    back s c.1.1 q.0 out room answer out'
    (subst (λ (x : Bodies). Writes (bytes_of s x.plan) (bytes_of s x.actions) (bytes_of s x.rule) out answer out') q.1 w)

pub round_trip : RoundTrip
round_trip = record { bodies_back = write_then_read; sheet_back = read_then_write }
