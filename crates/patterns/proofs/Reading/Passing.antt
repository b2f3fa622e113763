-- One pass over the bytes of a pattern: what the byte in front does to the number of parts missing.
use Prim.Native.Nat.{ℕ, zero, suc, ◌+◌, ◌-◌, ◌<◌, ◌≤◌}
use mathlib.Core.Path.{◌≡◌, refl, sym, ◌∙◌, ap}
use mathlib.Core.Bool.{Bool, true, false, false≢true}
use mathlib.Core.List.{List, [], ◌∷◌}
use native.Mathlib.Numerals.{add-one}
use native.Mathlib.Omega.{arith}
use lib.Dec.{eqb, ltb, eqb-zero-suc, eqb-suc-zero, eqb-suc-suc}
use lib.ListN.{length}
use borrow.Author.Tests.{lt-ltb, le-ltb, ne_eqb}
use Rattle.sheet.specs.Bytes.{pick}
use Rattle.patterns.specs.Patterns.{
  Pattern,
  sequence,
  choice,
  repetition,
  Parts,
  broken,
  parts,
  with_action,
  with_two,
  with_one,
  parts_of,
  Reading,
  malformed,
  readable,
  one_part,
  reading_of,
}
use Rattle.patterns.specs.Internal.Passing.{has_parts, is_readable}

-- an action is one part
has_action : (e missing : ℕ) → 1 ≤ missing → (P : Parts) → has_parts missing (with_action e P) ≡ has_parts (missing - 1) P
has_action e missing h broken = refl
has_action e missing h (parts Rs) =
    let q : missing ≡ suc (missing - 1) = omega arith in
    ap (eqb (suc (length Rs))) q ∙ eqb-suc-suc (length Rs) (missing - 1)

-- two parts are one
has_two : (op : Pattern → Pattern → Pattern) (missing : ℕ) → 1 ≤ missing → (P : Parts) → has_parts missing (with_two op P) ≡ has_parts (missing + 1) P
has_two op missing h broken = refl
has_two op missing h (parts []) = sym (ne_eqb 0 (missing + 1) (λ q. omega arith))
has_two op missing h (parts (R ∷ [])) = sym (ne_eqb 1 (missing + 1) (λ q. omega arith))
has_two op missing h (parts (R ∷ Q ∷ Rs)) = rw add-one (sym (eqb-suc-suc (suc (length Rs)) missing))

-- one part is one
has_one : (op : Pattern → Pattern) (missing : ℕ) → 1 ≤ missing → (P : Parts) → has_parts missing (with_one op P) ≡ has_parts missing P
has_one op missing h broken = refl
has_one op missing h (parts []) = sym (ne_eqb 0 missing (λ q. omega arith))
has_one op missing h (parts (R ∷ Rs)) = refl

-- none of these is no part
no_action_lem : (e : ℕ) (P : Parts) → has_parts 0 (with_action e P) ≡ false
no_action_lem e broken = refl
no_action_lem e (parts Rs) = eqb-suc-zero (length Rs)

no_entry : (b : Bool) (e : ℕ) (P : Parts) → has_parts 0 (pick b (with_action e P) broken) ≡ false
no_entry true e P = no_action_lem e P
no_entry false e P = refl

no_two : (op : Pattern → Pattern → Pattern) (P : Parts) → has_parts 0 (with_two op P) ≡ false
no_two op broken = refl
no_two op (parts []) = refl
no_two op (parts (R ∷ [])) = refl
no_two op (parts (R ∷ Q ∷ Rs)) = eqb-suc-zero (length Rs)

no_one : (op : Pattern → Pattern) (P : Parts) → has_parts 0 (with_one op P) ≡ false
no_one op broken = refl
no_one op (parts []) = refl
no_one op (parts (R ∷ Rs)) = eqb-suc-zero (length Rs)

-- no bytes are no parts
none_missing : (missing : ℕ) → eqb 0 missing ≡ eqb missing 0
none_missing zero = refl
none_missing (suc missing) = eqb-zero-suc missing ∙ sym (eqb-suc-zero missing)

-- the whole is readable where one part is missing and there is one
whole : (every : Bool) (P : Parts) → is_readable (one_part every P) ≡ has_parts 1 P
whole every broken = refl
whole every (parts []) = refl
whole every (parts (R ∷ [])) = refl
whole every (parts (R ∷ Q ∷ Rs)) = sym (ne_eqb (suc (suc (length Rs))) 1 (λ q. omega arith))

pub readable_bytes : (r : Reading) → is_readable r ≡ true → (every : Bool) × (R : Pattern) × (r ≡ readable every R)
readable_bytes malformed h = absurd (false≢true h)
readable_bytes (readable every R) h = (every, R, refl)

module _ (entries : ℕ) where
  byte_two : (missing b : ℕ) (rest : List ℕ) → 1 ≤ b → b ≤ 2 → 1 ≤ missing
      → has_parts missing (parts_of entries (b ∷ rest)) ≡ has_parts (missing + 1) (parts_of entries rest)
  unfolding parts_of
  byte_two missing zero rest low high h = absurd (omega arith)
  byte_two missing (suc zero) rest low high h = has_two sequence missing h (parts_of entries rest)
  byte_two missing (suc (suc zero)) rest low high h = has_two choice missing h (parts_of entries rest)
  byte_two missing (suc (suc (suc b))) rest low high h = absurd (omega arith)

  byte_unknown : (missing b : ℕ) (rest : List ℕ) → 4 ≤ b → has_parts missing (parts_of entries (b ∷ rest)) ≡ false
  unfolding parts_of
  byte_unknown missing zero rest h = absurd (omega arith)
  byte_unknown missing (suc zero) rest h = absurd (omega arith)
  byte_unknown missing (suc (suc zero)) rest h = absurd (omega arith)
  byte_unknown missing (suc (suc (suc zero))) rest h = absurd (omega arith)
  byte_unknown missing (suc (suc (suc (suc b)))) rest h = refl

  byte_left_over : (b : ℕ) (rest : List ℕ) → has_parts 0 (parts_of entries (b ∷ rest)) ≡ false
  unfolding parts_of
  byte_left_over zero [] = refl
  byte_left_over zero (e ∷ rest) = no_entry (ltb e entries) e (parts_of entries rest)
  byte_left_over (suc zero) rest = no_two sequence (parts_of entries rest)
  byte_left_over (suc (suc zero)) rest = no_two choice (parts_of entries rest)
  byte_left_over (suc (suc (suc zero))) rest = no_one repetition (parts_of entries rest)
  byte_left_over (suc (suc (suc (suc b)))) rest = refl

  -- the leading byte
  pub reading_passes : {p bytes : List ℕ} {b : ℕ} → p ≡ b ∷ bytes → b ≤ 1 → is_readable (reading_of entries p) ≡ has_parts 1 (parts_of entries bytes)
  unfolding reading_of
  reading_passes {bytes = bytes} {b} q low = rw q (by b low)
    where
      by : (b : ℕ) → b ≤ 1 → is_readable (reading_of entries (b ∷ bytes)) ≡ has_parts 1 (parts_of entries bytes)
      by zero low = whole false (parts_of entries bytes)
      by (suc zero) low = whole true (parts_of entries bytes)
      by (suc (suc b)) low = absurd (omega arith)

  pub reading_empty : (p : List ℕ) → length p < 1 → is_readable (reading_of entries p) ≡ false
  unfolding reading_of
  reading_empty [] none = refl
  reading_empty (b ∷ bytes) none = absurd (omega arith)

  pub reading_unknown : {p bytes : List ℕ} {b : ℕ} → p ≡ b ∷ bytes → 1 < b → is_readable (reading_of entries p) ≡ false
  unfolding reading_of
  reading_unknown {bytes = bytes} {b} q high = rw q (by b high)
    where
      by : (b : ℕ) → 1 < b → is_readable (reading_of entries (b ∷ bytes)) ≡ false
      by zero high = absurd (omega arith)
      by (suc zero) high = absurd (omega arith)
      by (suc (suc b)) high = refl

  -- of the bytes in front of others, with so many parts missing
  module _ (rest : List ℕ) where
    pub passes_left_over : (b : ℕ) (bytes : List ℕ) → rest ≡ b ∷ bytes → has_parts 0 (parts_of entries rest) ≡ false
    passes_left_over b bytes q = rw q (byte_left_over b bytes)

    module _ (missing : ℕ) (bytes : List ℕ) where
      pub passes_action : (e : ℕ) → rest ≡ 0 ∷ e ∷ bytes → e < entries → 1 ≤ missing
          → has_parts missing (parts_of entries rest) ≡ has_parts (missing - 1) (parts_of entries bytes)
      unfolding parts_of
      passes_action e q below due = rw (q, lt-ltb e entries below) (has_action e missing due (parts_of entries bytes))

      pub passes_high_entry : (e : ℕ) → rest ≡ 0 ∷ e ∷ bytes → entries ≤ e → has_parts missing (parts_of entries rest) ≡ false
      unfolding parts_of
      passes_high_entry e q high = rw (q, le-ltb e entries high)

      pub passes_two : (b : ℕ) → rest ≡ b ∷ bytes → 1 ≤ b → b ≤ 2 → 1 ≤ missing
          → has_parts missing (parts_of entries rest) ≡ has_parts (missing + 1) (parts_of entries bytes)
      passes_two b q low high due = rw q (byte_two missing b bytes low high due)

      pub passes_one : rest ≡ 3 ∷ bytes → 1 ≤ missing → has_parts missing (parts_of entries rest) ≡ has_parts missing (parts_of entries bytes)
      unfolding parts_of
      passes_one q due = rw q (has_one repetition missing due (parts_of entries bytes))

      pub passes_unknown : (b : ℕ) → rest ≡ b ∷ bytes → 4 ≤ b → has_parts missing (parts_of entries rest) ≡ false
      passes_unknown b q high = rw q (byte_unknown missing b bytes high)

    pub passes_cut : (missing : ℕ) → rest ≡ 0 ∷ [] → has_parts missing (parts_of entries rest) ≡ false
    unfolding parts_of
    passes_cut missing q = rw q refl

    pub passes_end : (missing : ℕ) → length rest ≤ 0 → has_parts missing (parts_of entries rest) ≡ eqb missing 0
    unfolding parts_of
    passes_end missing end = by rest end
      where
        by : (rest : List ℕ) → length rest ≤ 0 → has_parts missing (parts_of entries rest) ≡ eqb missing 0
        by [] end = none_missing missing
        by (b ∷ rest) end = absurd (omega arith)
