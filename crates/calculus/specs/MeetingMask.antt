-- Which action formulas of a sheet an action meets, as one number. Document 01: "a transition whose action meets the formula".
use Rattle.std.specs.Prelude.{ℕ, zero, suc, ◌+◌, ◌/◌, ◌%◌, ◌^◌, ◌<◌, ◌≤◌, min, ◌≡◌, Bool, List, eqb}
use Rattle.sheet.specs.Bytes.{pick}
use Rattle.sheet.specs.Actions.{entry_count}
use Rattle.calculus.specs.Meaning.{meets}
use Rattle.calculus.specs.Decode.{action_formula}

-- bit e of w, as in "bit s is set"
unfoldable pub bit : ℕ → ℕ → Bool
bit w e = eqb (w / 2 ^ e % 2) 1

-- For each of the first count entries whose formula the action meets among the A actions, 2 ^ its number.
unfoldable pub mask_up_to : ℕ → ℕ → List ℕ → ℕ → ℕ
mask_up_to zero A a action = 0
mask_up_to (suc e) A a action = mask_up_to e A a action + pick (meets A (action_formula a e) action) (2 ^ e) 0

-- for all entries of an accepted sheet, "Count (1 byte, 0 to 32)"; of any other body for the first 32 at most
unfoldable pub meeting_mask : ℕ → List ℕ → ℕ → ℕ
meeting_mask A a action = mask_up_to (min (entry_count a) 32) A a action

-- of an action table of at most 32 entries, bit e of the mask says whether the action meets the formula of entry e (`meeting_bits` of
-- proofs/Masks/MeetingMask.antt)
abbrev pub MeetingBits : Type 0
MeetingBits =
    (A : ℕ) (a : List ℕ) (action e : ℕ) → entry_count a ≤ 32 → e < entry_count a
    → bit (meeting_mask A a action) e ≡ meets A (action_formula a e) action
