-- Document 02 (c), "Rules with repetition": patterns, which are regular expressions over the action entries of a sheet, and their bytes.
use Rattle.std.specs.Prelude.{ℕ, zero, suc, ◌<◌, ◌≡◌, Bool, true, false, List, [], ◌∷◌, ◌++◌, ◌↔◌, ltb}
use Rattle.sheet.specs.Bytes.{pick}
use Rattle.sheet.specs.Rule.{one_if}

-- "0 and an action entry's number; 1, one part after another; 2, a choice of two; 3, any number of times"
pub data Pattern : Type 0 where
  -- by the number of its entry in the action table, which is not an action number
  action : ℕ → Pattern
  sequence : Pattern → Pattern → Pattern
  choice : Pattern → Pattern → Pattern
  repetition : Pattern → Pattern

-- "A pattern is bytes in prefix order"
unfoldable pub written : Pattern → List ℕ
written (action e) = 0 ∷ e ∷ []
written (sequence R Q) = 1 ∷ (written R ++ written Q)
written (choice R Q) = 2 ∷ (written R ++ written Q)
written (repetition R) = 3 ∷ written R

-- "A leading byte says 0 for some run, 1 for every run.": false for some, true for every
abbrev pub pattern_bytes : Bool → Pattern → List ℕ
pattern_bytes every R = one_if every ∷ written R

-- no entry "not below the count"
unfoldable pub EntriesBelow : ℕ → Pattern → Type 0
EntriesBelow entries (action e) = e < entries
EntriesBelow entries (sequence R Q) = EntriesBelow entries R × EntriesBelow entries Q
EntriesBelow entries (choice R Q) = EntriesBelow entries R × EntriesBelow entries Q
EntriesBelow entries (repetition R) = EntriesBelow entries R

-- ---- reading: what bytes say is worked out from their end; ReadingsExactly below says it by the bytes of patterns

-- what bytes hold: patterns one after another, or `broken`, where there is an unknown byte, an entry not below the count or a pattern cut
-- short
pub data Parts : Type 0 where
  broken : Parts
  parts : List Pattern → Parts

-- an action in front of the parts after it
abbrev pub with_action : ℕ → Parts → Parts
with_action e broken = broken
with_action e (parts Rs) = parts (action e ∷ Rs)

-- "one part after another" and "a choice of two" take the next two parts
abbrev pub with_two : (Pattern → Pattern → Pattern) → Parts → Parts
with_two op broken = broken
with_two op (parts []) = broken
with_two op (parts (R ∷ [])) = broken
with_two op (parts (R ∷ Q ∷ Rs)) = parts (op R Q ∷ Rs)

-- "any number of times" takes the next part
abbrev pub with_one : (Pattern → Pattern) → Parts → Parts
with_one op broken = broken
with_one op (parts []) = broken
with_one op (parts (R ∷ Rs)) = parts (op R ∷ Rs)

-- the parts that bytes hold, over so many action entries
unfoldable pub parts_of : ℕ → List ℕ → Parts
parts_of entries [] = parts []
parts_of entries (zero ∷ []) = broken
parts_of entries (zero ∷ e ∷ bytes) = pick (ltb e entries) (with_action e (parts_of entries bytes)) broken
parts_of entries (suc zero ∷ bytes) = with_two sequence (parts_of entries bytes)
parts_of entries (suc (suc zero) ∷ bytes) = with_two choice (parts_of entries bytes)
parts_of entries (suc (suc (suc zero)) ∷ bytes) = with_one repetition (parts_of entries bytes)
parts_of entries (suc (suc (suc (suc unknown))) ∷ bytes) = broken

-- what a pattern says, or "a malformed pattern (an entry not below the count and bytes left over included)"
pub data Reading : Type 0 where
  malformed : Reading
  readable : Bool → Pattern → Reading

-- the whole is one part, with no "bytes left over"
abbrev pub one_part : Bool → Parts → Reading
one_part every broken = malformed
one_part every (parts []) = malformed
one_part every (parts (R ∷ [])) = readable every R
one_part every (parts (R ∷ Q ∷ Rs)) = malformed

-- the reading of every list of bytes
unfoldable pub reading_of : ℕ → List ℕ → Reading
reading_of entries [] = malformed
reading_of entries (zero ∷ bytes) = one_part false (parts_of entries bytes)
reading_of entries (suc zero ∷ bytes) = one_part true (parts_of entries bytes)
reading_of entries (suc (suc unknown) ∷ bytes) = malformed

-- Bytes are read as a pattern exactly where they are its bytes, and its entries are below the count; so they have one reading at most.
-- Shown by readings_exactly of proofs/Reading/Readings.antt.
abbrev pub ReadingsExactly : Type 0
ReadingsExactly =
    (entries : ℕ) (bytes : List ℕ) (every : Bool) (R : Pattern)
    → (reading_of entries bytes ≡ readable every R) ↔ ((bytes ≡ pattern_bytes every R) × EntriesBelow entries R)
