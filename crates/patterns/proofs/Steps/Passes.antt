-- The turns of the pass over a pattern's bytes.
use Prim.Native.Nat.{ℕ, ◌+◌, ◌-◌, ◌<◌, ◌≤◌}
use mathlib.Core.Path.{◌≡◌, refl, sym, ◌∙◌, ap, ap₂}
use mathlib.Core.Bool.{false}
use mathlib.Core.List.{List, [], ◌∷◌}
use native.Mathlib.Omega.{arith}
use lib.Dec.{eqb}
use lib.ListN.{length}
use Rattle.patterns.specs.Patterns.{parts_of, reading_of}
use Rattle.patterns.specs.Internal.Passing.{has_parts, is_readable}
use Rattle.patterns.proofs.Reading.Passing.{reading_passes, passes_left_over, passes_action, passes_two, passes_one, passes_end}
use Rattle.patterns.proofs.Reading.Passing.{passes_cut, passes_high_entry, passes_unknown}

-- what the pass holds: the bytes left hold the parts missing exactly where the whole is readable
pub record Passing (entries : ℕ) (p : List ℕ) (missing : ℕ) (rest : List ℕ) : Type 0 where
  pub few : missing + length rest ≤ length p
  pub left : has_parts missing (parts_of entries rest) ≡ is_readable (reading_of entries p)

pub pass_start : (entries : ℕ) {p bytes : List ℕ} {b : ℕ} → p ≡ b ∷ bytes → b ≤ 1 → Passing entries p 1 bytes
pass_start entries q low = record { few = omega (arith, ap length q); left = sym (reading_passes entries q low) }

-- an action and its entry in front
pub action_first : {rest bytes behind : List ℕ} {o e : ℕ} → rest ≡ o ∷ bytes → o ≡ 0 → bytes ≡ e ∷ behind → rest ≡ 0 ∷ e ∷ behind
action_first q z r = q ∙ ap₂ ◌∷◌ z r

module _ {entries : ℕ} {p : List ℕ} {missing : ℕ} {rest : List ℕ} (h : Passing entries p missing rest) where
  -- the turns that go on
  pub pass_action : {e : ℕ} {bytes : List ℕ} → rest ≡ 0 ∷ e ∷ bytes → e < entries → 1 ≤ missing → Passing entries p (missing - 1) bytes
  pass_action {e} {bytes} q l w = record { few = omega (arith, h.few, ap length q); left = sym (passes_action entries rest missing bytes e q l w) ∙ h.left }

  pub pass_two : {b : ℕ} {bytes : List ℕ} → rest ≡ b ∷ bytes → 1 ≤ b → b ≤ 2 → 1 ≤ missing → Passing entries p (missing + 1) bytes
  pass_two {b} {bytes} q o u w = record { few = omega (arith, h.few, ap length q); left = sym (passes_two entries rest missing bytes b q o u w) ∙ h.left }

  pub pass_one : {bytes : List ℕ} → rest ≡ 3 ∷ bytes → 1 ≤ missing → Passing entries p missing bytes
  pass_one {bytes} q w = record { few = omega (arith, h.few, ap length q); left = sym (passes_one entries rest missing bytes q w) ∙ h.left }

  -- those that end it
  pub pass_fails : has_parts missing (parts_of entries rest) ≡ false → false ≡ is_readable (reading_of entries p)
  pass_fails q = sym q ∙ h.left

  pub pass_cut : {o : ℕ} {bytes : List ℕ} → rest ≡ o ∷ bytes → o ≡ 0 → length bytes ≡ 0 → false ≡ is_readable (reading_of entries p)
  pass_cut {o} {bytes} q z none = pass_fails (passes_cut entries rest missing (q ∙ ap₂ ◌∷◌ z (empty bytes none)))
    where
      empty : (bytes : List ℕ) → length bytes ≡ 0 → bytes ≡ []
      empty [] e = refl
      empty (b ∷ bytes) e = absurd (omega arith)

  pub pass_high_entry : {e : ℕ} {bytes : List ℕ} → rest ≡ 0 ∷ e ∷ bytes → entries ≤ e → false ≡ is_readable (reading_of entries p)
  pass_high_entry {e} {bytes} q l = pass_fails (passes_high_entry entries rest missing bytes e q l)

  pub pass_unknown : {b : ℕ} {bytes : List ℕ} → rest ≡ b ∷ bytes → 4 ≤ b → false ≡ is_readable (reading_of entries p)
  pass_unknown {b} {bytes} q l = pass_fails (passes_unknown entries rest missing bytes b q l)

  pub pass_left_over : {b : ℕ} {bytes : List ℕ} → rest ≡ b ∷ bytes → missing ≡ 0 → false ≡ is_readable (reading_of entries p)
  pass_left_over {b} {bytes} q z = pass_fails (ap (λ (n : ℕ). has_parts n (parts_of entries rest)) z ∙ passes_left_over entries rest b bytes q)

  pub pass_end : length rest ≤ 0 → eqb missing 0 ≡ is_readable (reading_of entries p)
  pass_end l = sym (passes_end entries rest missing l) ∙ h.left
