-- Reading what the writer wrote gives back the three bodies, and writing an accepted sheet's bodies gives back its bytes.
use Prim.Native.Nat.{ℕ, zero, suc, ◌+◌, ◌*◌, ◌/◌, ◌%◌, ◌<◌, ◌≤◌}
use mathlib.Core.Path.{◌≡◌, refl, sym, ap, subst₃, ◌∙◌}
use mathlib.Core.List.{List, [], ◌∷◌, ◌++◌}
use native.Mathlib.Omega.{arith}
use native.Mathlib.Nat.{le_of_suc-le-suc, not-suc-le-zero}
use lib.ListN.{length, take, drop, length-append, length-drop, take-append-drop}
use lib.Seq.{take_at, drop_at, take_all, take-length, drop-drop}
use Rattle.sheet.specs.Bytes.{byte, word, slice}
use Rattle.sheet.specs.Contents.{head_length, plan_length, actions_length, rule_length, actions_offset, rule_offset, plan_body, actions_body, rule_body}
use Rattle.sheet.specs.Reading.{bodies_check, sheet_check, read_of}
use Rattle.sheet.specs.Writing.{head, sheet_of, sheet_length}
use Rattle.sheet.specs.WellFormed.{WellFormedBodies, WellFormedSheet}
use Rattle.sheet.specs.RunningCalls.{AllBytes}
use Rattle.sheet.specs.RoundTrip.{bytes_of, spans_of}
use Rattle.std.specs.Prelude.{Ok}
use Rattle.sheet.proofs.Acceptance.Sheet.{BodyLengths, body_lengths, bodies_iff, accepted_iff, read_accepts, plan_length_lem, actions_length_lem, rule_length_lem}

-- a number below 65,536 is read from the two bytes that hold it
two_bytes_lem : (n : ℕ) → n < 65536 → n % 256 + 256 * (n / 256 % 256) ≡ n
two_bytes_lem n h = omega arith

-- where the three bodies lie in the sheet that the writer makes of them, and that they stand there
module _ (p a r : List ℕ) where
  pub written_length : length (sheet_of p a r) ≡ sheet_length p a r
  unfolding sheet_of
  written_length = simp length-append (omega arith)

  pub plan_there : bytes_of (sheet_of p a r) (spans_of p a r).plan ≡ p
  unfolding sheet_of
  plan_there = take_at p (a ++ r) (length p) refl

  after_plan_lem : drop (head_length + length p) (sheet_of p a r) ≡ a ++ r
  unfolding sheet_of
  after_plan_lem = sym (drop-drop (length p) head_length (sheet_of p a r)) ∙ drop_at p (a ++ r) (length p) refl

  pub actions_there : bytes_of (sheet_of p a r) (spans_of p a r).actions ≡ a
  actions_there = ap (take (length a)) after_plan_lem ∙ take_at a r (length a) refl

  pub rule_there : bytes_of (sheet_of p a r) (spans_of p a r).rule ≡ r
  rule_there =
      ap (take (length r)) (sym (drop-drop (length a) (head_length + length p) (sheet_of p a r)) ∙ ap (drop (length a)) after_plan_lem ∙ drop_at a r (length a) refl) ∙
      take-length r

module _ (p a r : List ℕ) (k : WellFormedBodies p a r) where
  short : BodyLengths p a r
  short = body_lengths k

  abbrev s : List ℕ
  s = sheet_of p a r

  plan_stated : plan_length s ≡ length p
  unfolding sheet_of
  plan_stated = two_bytes_lem (length p) (omega (arith, short))

  actions_stated : actions_length s ≡ length a
  unfolding sheet_of
  actions_stated = two_bytes_lem (length a) (omega (arith, short))

  rule_stated : rule_length s ≡ length r
  unfolding sheet_of
  rule_stated = two_bytes_lem (length r) (omega (arith, short))

  pub plan_back : plan_body s ≡ p
  plan_back = ap (slice s head_length) plan_stated ∙ plan_there p a r

  pub actions_back : actions_body s ≡ a
  actions_back = (λ i. slice s (head_length + plan_stated i) (actions_stated i)) ∙ actions_there p a r

  pub rule_back : rule_body s ≡ r
  rule_back = (λ i. slice s (head_length + plan_stated i + actions_stated i) (rule_stated i)) ∙ rule_there p a r

  kept : WellFormedSheet s
  unfolding sheet_of
  kept =
      record {
        headed = omega (arith, written_length p a r);
        edition = refl;
        entries = refl;
        plan_kind = refl;
        actions_kind = refl;
        rule_kind = refl;
        plan_offset = refl;
        actions_follow = two_bytes_lem (head_length + length p) (omega (arith, short)) ∙ ap (λ (n : ℕ). head_length + n) (sym plan_stated);
        rule_follows = two_bytes_lem (head_length + length p + length a) (omega (arith, short)) ∙ (λ i. head_length + sym plan_stated i + sym actions_stated i);
        ends = written_length p a r ∙ (λ i. head_length + sym plan_stated i + sym actions_stated i + sym rule_stated i);
        bodies_kept = subst₃ WellFormedBodies (sym plan_back) (sym actions_back) (sym rule_back) k;
      }

-- the sheet of accepted bodies is accepted, and the reader gives their offsets and lengths
pub written_accepted : (p a r : List ℕ) → bodies_check p a r ≡ Ok tt → sheet_check (sheet_of p a r) ≡ Ok tt
written_accepted p a r q = (accepted_iff (sheet_of p a r)).1 (kept p a r ((bodies_iff p a r).0 q))

pub written_answer : (p a r : List ℕ) → bodies_check p a r ≡ Ok tt → read_of (sheet_of p a r) ≡ Ok (spans_of p a r)
written_answer p a r q =
    let k = (bodies_iff p a r).0 q in
    (read_accepts (sheet_of p a r)).1 (kept p a r k) ∙
    (λ i. Ok (record {
      plan = record { offset = 17; length = plan_stated p a r k i };
      actions = record { offset = 17 + plan_stated p a r k i; length = actions_stated p a r k i };
      rule = record { offset = 17 + plan_stated p a r k i + actions_stated p a r k i; length = rule_stated p a r k i };
    }))

-- ---- the other way

-- the first n bytes, each read from its place
firsts : ℕ → (ℕ → ℕ) → List ℕ
firsts zero f = []
firsts (suc n) f = f 0 ∷ firsts n (λ i. f (suc i))

firsts_are : (n : ℕ) (l : List ℕ) → n ≤ length l → take n l ≡ firsts n (byte l)
unfolding firsts
firsts_are zero l h = refl
firsts_are (suc n) [] h = absurd (not-suc-le-zero h)
firsts_are (suc n) (x ∷ l) h = ap (λ (t : List ℕ). x ∷ t) (firsts_are n l (le_of_suc-le-suc h))

module _ (s : List ℕ) (bytes : AllBytes s) (k : WellFormedSheet s) where
  low : (i n : ℕ) → word s i ≡ n → byte s i ≡ n % 256
  low i n q = omega (arith, bytes.at i, bytes.at (i + 1))

  high : (i n : ℕ) → word s i ≡ n → byte s (i + 1) ≡ n / 256 % 256
  high i n q = omega (arith, bytes.at i, bytes.at (i + 1))

  head_back : take head_length s ≡ head (plan_length s) (actions_length s) (rule_length s)
  unfolding firsts
  head_back =
      firsts_are 17 s k.headed ∙
      (λ i. k.edition i ∷ k.entries i ∷
      k.plan_kind i ∷ low 3 17 k.plan_offset i ∷ high 3 17 k.plan_offset i ∷ low 5 (plan_length s) refl i ∷ high 5 (plan_length s) refl i ∷
      k.actions_kind i ∷ low 8 (actions_offset s) k.actions_follow i ∷ high 8 (actions_offset s) k.actions_follow i ∷ low 10 (actions_length s) refl i ∷ high 10 (actions_length s) refl i ∷
      k.rule_kind i ∷ low 13 (rule_offset s) k.rule_follows i ∷ high 13 (rule_offset s) k.rule_follows i ∷ low 15 (rule_length s) refl i ∷ high 15 (rule_length s) refl i ∷ [])

  rule_last : rule_body s ≡ drop (rule_offset s) s
  rule_last = take_all (rule_length s) (drop (rule_offset s) s) (simp length-drop (omega (arith, k.ends)))

  bodies_back : plan_body s ++ (actions_body s ++ rule_body s) ≡ drop head_length s
  bodies_back =
      ap (λ (t : List ℕ). plan_body s ++ (actions_body s ++ t)) (rule_last ∙ sym (drop-drop (actions_length s) (actions_offset s) s)) ∙
      ap (λ (t : List ℕ). plan_body s ++ t) (take-append-drop (actions_length s) (drop (actions_offset s) s) ∙ sym (drop-drop (plan_length s) head_length s)) ∙
      take-append-drop (plan_length s) (drop head_length s)

-- writing an accepted sheet's bodies gives back its bytes, byte for byte
pub written_read : (s : List ℕ) → AllBytes s → sheet_check s ≡ Ok tt → sheet_of (plan_body s) (actions_body s) (rule_body s) ≡ s
unfolding sheet_of
written_read s bytes q =
    let k = (accepted_iff s).0 q in
    (λ i. head (plan_length_lem s k.ends i) (actions_length_lem s k.ends i) (rule_length_lem s k.ends i) ++ (plan_body s ++ (actions_body s ++ rule_body s))) ∙
    (λ i. sym (head_back s bytes k) i ++ bodies_back s bytes k i) ∙ take-append-drop head_length s
