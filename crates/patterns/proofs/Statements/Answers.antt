-- What `translate` answers and leaves, by what the sheet, the pattern and the output are.
use Prim.Native.Nat.{ℕ, ◌<◌, ◌≤◌}
use mathlib.Core.Path.{◌≡◌, refl, ◌∙◌, ap}
use mathlib.Core.Bool.{Bool, true, false, ◌&&◌}
use mathlib.Core.List.{List, ◌++◌}
use mathlib.Core.Logic.{◌⊎◌, inl, inr, ◌≢◌}
use lib.ListN.{length, drop}
use lib.Dec.{leb}
use borrow.Author.Tests.{le-leb, lt-leb}
use Rattle.sheet.specs.Contents.{actions_body}
use Rattle.sheet.specs.Actions.{entry_count}
use Rattle.sheet.specs.Reading.{sheet_check}
use Rattle.std.specs.Prelude.{Err, Ok}
use Rattle.sheet.specs.Refusals.{Check}
use Rattle.sheet.specs.declared.Refusal.{Refusal}
use Rattle.sheet.specs.declared.Refusal.TheVariants.{OutputShort}
use Rattle.calculus.specs.Trees.{Tree, tree_size, binders, encode}
use Rattle.patterns.specs.Patterns.{Pattern, Reading, malformed, readable, reading_of}
use Rattle.patterns.specs.Translating.{
  tree_for,
  small_enough,
  answer_tree,
  answer_reading,
  answer_sheet,
  translated_of,
  body_of,
  leaves,
  output_after,
  reported_translation,
  Translated,
}
use Rattle.patterns.specs.declared.TranslateError.TheVariants.{Malformed, TooLarge, Refused}

too_large : (t : Tree) → (64 < tree_size t) ⊎ (6 < binders t) → small_enough t ≡ false
too_large t (inl h) = ap (λ (b : Bool). b && leb (binders t) 6) (lt-leb (tree_size t) 64 h)
too_large t (inr h) = rw (lt-leb (binders t) 6 h) (none (leb (tree_size t) 64))
  where
    none : (b : Bool) → (b && false) ≡ false
    none true = refl
    none false = refl

small-enough : (t : Tree) → tree_size t ≤ 64 → binders t ≤ 6 → small_enough t ≡ true
small-enough t n b = rw (le-leb (tree_size t) 64 n, le-leb (binders t) 6 b)

-- what a tree that does not fit, or has no room, or has it is answered with
module _ (t : Tree) (room : ℕ) where
  pub tree_large : (64 < tree_size t) ⊎ (6 < binders t) → answer_tree t room ≡ Err TooLarge
  tree_large over = rw (too_large t over)

  module _ (nodes : tree_size t ≤ 64) (bound : binders t ≤ 6) where
    pub tree_short : room < length (encode t) → answer_tree t room ≡ Err (Refused OutputShort)
    tree_short less = rw (small-enough t nodes bound, lt-leb (length (encode t)) room less)

    pub tree_wrote : length (encode t) ≤ room → answer_tree t room ≡ Ok (length (encode t))
    tree_wrote enough = rw (small-enough t nodes bound, le-leb (length (encode t)) room enough)

-- a refused call leaves the output as it was
unchanged : (body out : List ℕ) (answer : Translated) → (reported_translation answer).number ≢ 0
    → ((reported_translation answer).size ≡ 0) × (leaves body out answer ≡ out)
unchanged body out (Ok n) h = absurd (h refl)
unchanged body out (Err Malformed) h = (refl, refl)
unchanged body out (Err TooLarge) h = (refl, refl)
unchanged body out (Err (Refused x)) h = (refl, refl)

module _ (s p : List ℕ) where
  -- what the pattern says on the sheet
  abbrev pub reading_on : Reading
  reading_on = reading_of (entry_count (actions_body s)) p

  module _ (room : ℕ) where
    sheet_answer : (c : Check) → sheet_check s ≡ c → translated_of s p room ≡ answer_sheet s p c room
    unfolding translated_of
    sheet_answer c e = ap (λ (x : Check). answer_sheet s p x room) e

    pub answers_refused : {x : Refusal} → sheet_check s ≡ Err x → translated_of s p room ≡ Err (Refused x)
    answers_refused {x} e = sheet_answer (Err x) e

    module _ (passed : sheet_check s ≡ Ok tt) where
      reading_answer : (r : Reading) → reading_on ≡ r → translated_of s p room ≡ answer_reading s r room
      reading_answer r q = sheet_answer (Ok tt) passed ∙ ap (λ (x : Reading). answer_reading s x room) q

      pub answers_malformed : reading_on ≡ malformed → translated_of s p room ≡ Err Malformed
      answers_malformed q = reading_answer malformed q

      module _ {every : Bool} {R : Pattern} (read : reading_on ≡ readable every R) where
        pub tree_answer : translated_of s p room ≡ answer_tree (tree_for s every R) room
        tree_answer = reading_answer (readable every R) read

        pub answers_large : (64 < tree_size (tree_for s every R)) ⊎ (6 < binders (tree_for s every R)) → translated_of s p room ≡ Err TooLarge
        answers_large over = tree_answer ∙ tree_large (tree_for s every R) room over

        module _ (nodes : tree_size (tree_for s every R) ≤ 64) (bound : binders (tree_for s every R) ≤ 6) where
          pub answers_short : room < length (encode (tree_for s every R)) → translated_of s p room ≡ Err (Refused OutputShort)
          answers_short less = tree_answer ∙ tree_short (tree_for s every R) room nodes bound less

          pub answers_wrote : length (encode (tree_for s every R)) ≤ room
              → translated_of s p room ≡ Ok (length (encode (tree_for s every R)))
          answers_wrote enough = tree_answer ∙ tree_wrote (tree_for s every R) room nodes bound enough

  module _ (out : List ℕ) where
    pub leaves_written : {every : Bool} {R : Pattern} → reading_on ≡ readable every R → (n : ℕ) → translated_of s p (length out) ≡ Ok n
        → output_after s p out ≡ encode (tree_for s every R) ++ drop n out
    unfolding output_after
    leaves_written read n wrote = rw (read, wrote)

    pub leaves_unchanged : (reported_translation (translated_of s p (length out))).number ≢ 0
        → ((reported_translation (translated_of s p (length out))).size ≡ 0) × (output_after s p out ≡ out)
    unfolding output_after
    leaves_unchanged h = unchanged (body_of s reading_on) out (translated_of s p (length out)) h
