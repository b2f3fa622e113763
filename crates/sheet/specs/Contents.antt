-- Document 01, "The sheet": the table of contents and the three bodies.
-- A sheet is the input file: a header (document 01's table of contents) and three sections (its bodies).
use Rattle.std.specs.Prelude.{ℕ, ◌+◌, Bool, ◌&&◌, List, length, eqb, leb}
use Rattle.sheet.specs.Bytes.{byte, word, slice}

-- "Byte 0 is 1 (edition), byte 1 is 3 (entries)."
unfoldable pub heading_right : List ℕ → Bool
heading_right s = eqb (byte s 0) 1 && eqb (byte s 1) 3

-- the bytes before the first body: two, then "three entries of 5 bytes"
abbrev pub head_length : ℕ
head_length = 17

-- "the longest sheet"
abbrev pub longest : ℕ
longest = 6455

-- "length (16 bits)", the last two of an entry's 5 bytes: of the first entry, from byte 2 on
abbrev pub plan_length : List ℕ → ℕ
plan_length s = word s 5

-- of the second entry, from byte 7 on
abbrev pub actions_length : List ℕ → ℕ
actions_length s = word s 10

-- of the third entry, from byte 12 on
abbrev pub rule_length : List ℕ → ℕ
rule_length s = word s 15

-- "The first body starts at 17, each next one where the one before ends": the actions start where the plan ends
abbrev pub actions_offset : List ℕ → ℕ
actions_offset s = head_length + plan_length s

-- and the rule where the actions end
abbrev pub rule_offset : List ℕ → ℕ
rule_offset s = actions_offset s + actions_length s

-- "kind (1 byte), offset (16 bits)" of the entry at a byte
unfoldable pub entry_is : List ℕ → ℕ → ℕ → ℕ → Bool
entry_is s at kind offset = eqb (byte s at) kind && eqb (word s (at + 1)) offset

-- "Their kinds are 1, 2, 3 in that order", the bodies follow one another, "and the file ends with the last"; no file is longer than the
-- longest sheet
unfoldable pub contents_right : List ℕ → Bool
contents_right s =
    entry_is s 2 1 head_length &&
    (entry_is s 7 2 (actions_offset s) &&
    (entry_is s 12 3 (rule_offset s) && (eqb (length s) (rule_offset s + rule_length s) && leb (length s) longest)))

-- the body of "Kind 1, plan"
abbrev pub plan_body : List ℕ → List ℕ
plan_body s = slice s head_length (plan_length s)

-- of "Kind 2, action formulas"
abbrev pub actions_body : List ℕ → List ℕ
actions_body s = slice s (actions_offset s) (actions_length s)

-- of "Kind 3, rule"
abbrev pub rule_body : List ℕ → List ℕ
rule_body s = slice s (rule_offset s) (rule_length s)
