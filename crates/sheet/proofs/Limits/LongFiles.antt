-- A file over the longest sheet is refused alike where it is cut after one byte more, or later.
use Prim.Native.Nat.{ℕ, ◌<◌, ◌≤◌}
use mathlib.Core.Path.{◌≡◌, refl, sym, ap, ap₂, ◌∙◌}
use mathlib.Core.Bool.{Bool, true, false, ◌&&◌, and-false}
use mathlib.Core.List.{List}
use native.Mathlib.Omega.{arith}
use native.Mathlib.Decide.{dec_lt}
use lib.Dec.{eqb}
use lib.ListN.{length, take, length-take}
use lib.Seq.{take_all, get_or-take}
use borrow.Author.Tests.{le-leb, lt-leb}
use Rattle.sheet.specs.Contents.{head_length, longest, heading_right, contents_right}
use Rattle.sheet.specs.Refusals.{require, and_then}
use Rattle.sheet.specs.Reading.{sheet_check}
use Rattle.sheet.specs.declared.Refusal.{Refusal}
use Rattle.sheet.specs.declared.Refusal.TheVariants.{Heading, Contents}
use Rattle.std.specs.Prelude.{Err, Ok}
use Rattle.sheet.specs.Refusals.{Check}
use Rattle.sheet.proofs.Limits.Lengths.{accepted_lengths}

-- the refusal of a file over the longest sheet, by whether its heading is right
abbrev too_long : Bool → Refusal
too_long true = Contents
too_long false = Heading

module _ (s : List ℕ) (long : longest < length s) where
  contents_wrong : contents_right s ≡ false
  unfolding contents_right
  contents_wrong = simp (lt-leb (length s) longest long, and-false)

  fails : sheet_check s ≡ Err (too_long (heading_right s))
  unfolding sheet_check
  fails = rw (le-leb head_length (length s) (omega arith), contents_wrong) (go (heading_right s))
    where
      go : (b : Bool) → and_then (require b Heading) (Err Contents) ≡ Err (too_long b)
      go true = refl
      go false = refl

-- the heading is read from the first two bytes
same_heading : (n : ℕ) (s : List ℕ) → 2 ≤ n → heading_right (take n s) ≡ heading_right s
unfolding heading_right
same_heading n s h = ap₂ (λ (a b : ℕ). eqb a 1 && eqb b 3) (get_or-take n s 0 0 (omega arith)) (get_or-take n s 1 0 (omega arith))

module _ (n : ℕ) (s : List ℕ) (cut : longest < n) where
  pub cut_checked : sheet_check (take n s) ≡ sheet_check s
  cut_checked = elim (dec_lt longest (length s)) [
    | yes h ↦
        fails (take n s) (omega (arith, length-take n s))
        ∙ ap (λ (b : Bool). Err (too_long b)) (same_heading n s (omega arith))
        ∙ sym (fails s h)
    | no h ↦ ap sheet_check (take_all n s (omega arith))
  ]

  -- so is any answer that goes by the refusal alone where a file is refused
  pub cut_answered : {A : Type 0} (answer : List ℕ → A) (refused : Refusal → A)
      → ((l : List ℕ) (x : Refusal) → sheet_check l ≡ Err x → answer l ≡ refused x) → answer (take n s) ≡ answer s
  cut_answered {A} answer refused refuses = go (sheet_check s) refl
    where
      go : (c : Check) → sheet_check s ≡ c → answer (take n s) ≡ answer s
      go (Ok tt) e = ap answer (take_all n s (omega (arith, accepted_lengths s e)))
      go (Err x) e = refuses (take n s) x (cut_checked ∙ e) ∙ sym (refuses s x e)
