-- What the tests of the reader's code say of an entry of the table of contents and of the checks of a whole sheet.
use Prim.Native.Nat.{ℕ, ◌+◌, ◌<◌}
use mathlib.Core.Path.{◌≡◌}
use mathlib.Core.Bool.{true}
use mathlib.Core.List.{List}
use lib.ListN.{length}
use lib.Dec.{eqb}
use borrow.Author.Tests.{lt-leb, eqb-true}
use Rattle.sheet.specs.Bytes.{byte, word}
use Rattle.sheet.specs.Contents.{head_length, entry_is}
use Rattle.sheet.specs.Reading.{sheet_check}
use Rattle.sheet.specs.declared.Refusal.TheVariants.{TooShort}
use Rattle.std.specs.Prelude.{Err}
use Rattle.sheet.proofs.Checks.Checks.{and_parts}

module _ (s : List ℕ) where
  pub entry_is_lem : (at kind offset : ℕ) → entry_is s at kind offset ≡ true → (byte s at ≡ kind) × (word s (at + 1) ≡ offset)
  unfolding entry_is
  entry_is_lem at kind offset q =
      let b = and_parts (eqb (byte s at) kind) (eqb (word s (at + 1)) offset) q in
      (eqb-true (byte s at) kind b.0, eqb-true (word s (at + 1)) offset b.1)

  pub sheet_short : length s < head_length → Err TooShort ≡ sheet_check s
  unfolding sheet_check
  sheet_short h = rw (lt-leb head_length (length s) h)
