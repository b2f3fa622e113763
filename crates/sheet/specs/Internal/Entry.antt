-- What the reader takes from a sheet, and how it is judged. Contracts of private functions cite these; no promise of a public call does.
use Rattle.std.specs.Prelude.{ℕ, ◌+◌, Bool, ◌&&◌, List, length, drop, eqb, leb}
use Rattle.sheet.specs.Bytes.{byte, word, slice}
use Rattle.sheet.specs.Contents.{head_length, longest}
use Rattle.sheet.specs.Refusals.{require, and_then}
use Rattle.sheet.specs.Reading.{bodies_check}
use Rattle.sheet.specs.declared.contents.Entry.{Entry}
use Rattle.sheet.specs.declared.Refusal.TheVariants.{Heading, Contents}
use Rattle.sheet.specs.Refusals.{Check}

-- "1 (edition)" and "3 (entries)" at a byte and the next
unfoldable pub heading_at : List ℕ → ℕ → Bool
heading_at s at = eqb (byte s at) 1 && eqb (byte s (at + 1)) 3

-- the entry at a byte: "kind (1 byte), offset (16 bits), length (16 bits)"
abbrev pub entry_at : List ℕ → ℕ → Entry
entry_at s at = record { kind = byte s at; offset = word s (at + 1); length = word s (at + 3) }

-- an entry of this kind, whose body starts at this offset
unfoldable pub entry_fits : Entry → ℕ → ℕ → Bool
entry_fits e kind offset = eqb e.kind kind && eqb e.offset offset

-- "Their kinds are 1, 2, 3 in that order. The first body starts at 17, each next one where the one before ends, and the file ends with
-- the last"; no file is longer than the longest sheet
unfoldable pub entries_fit : Entry → Entry → Entry → ℕ → Bool
entries_fit plan actions rule end =
    entry_fits plan 1 head_length &&
    (entry_fits actions 2 (head_length + plan.length) &&
    (entry_fits rule 3 (head_length + plan.length + actions.length) &&
    (eqb end (head_length + plan.length + actions.length + rule.length) && leb end longest)))

-- refusals 2 to 10, of what was taken: after the table of contents the bodies follow one another, to the end of the file
unfoldable pub check_taken : Bool → Entry → Entry → Entry → List ℕ → Check
check_taken heading plan actions rule bodies =
    and_then (require heading Heading)
    (and_then (require (entries_fit plan actions rule (head_length + length bodies)) Contents)
    (bodies_check (slice bodies 0 plan.length) (slice bodies plan.length actions.length)
    (slice bodies (plan.length + actions.length) rule.length)))

-- refusals 2 to 10, of what is taken from a sheet front to back
abbrev pub check_in_order : List ℕ → Check
check_in_order s = check_taken (heading_at s 0) (entry_at s 2) (entry_at s 7) (entry_at s 12) (drop head_length s)
