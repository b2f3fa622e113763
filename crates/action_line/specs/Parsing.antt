-- The call of document 02 (e): "Read such a line for a given A (one byte)". What it answers and what it leaves in the output buffer, for
-- every A, every list of bytes as line and every output.
use Rattle.std.specs.Prelude.{ℕ, ◌≡◌, Bool, true, ◌&&◌, List, [], ◌++◌, length, drop, ltb, leb, Result, Ok, Err}
use Rattle.sheet.specs.Bytes.{pick}
use Rattle.sheet.specs.Refusals.{number_of, place_of}
use Rattle.sheet.specs.declared.Refusal.TheVariants as SheetRefusal
use Rattle.action_line.specs.Grammar.{Tree, false_tree, true_tree, action_tree, or_tree, and_tree, not_tree}
use Rattle.action_line.specs.Entries.{entry_total, body_of}
use Rattle.action_line.specs.Reading.{LineReading, unreadable, readable, reading_of}
use Rattle.action_line.specs.declared.ParseError.{ParseError}
use Rattle.action_line.specs.declared.ParseError.TheVariants.{Unreadable, UnknownAction, TooManyEntries, OutputShort}

-- the length of the body that it wrote, or why it turned its input down
abbrev pub Parsed : Type 0
Parsed = Result ℕ ParseError

-- no "action not below A"
unfoldable pub actions_below : ℕ → Tree → Bool
actions_below A false_tree = true
actions_below A true_tree = true
actions_below A (action_tree n) = ltb n A
actions_below A (or_tree t u) = actions_below A t && actions_below A u
actions_below A (and_tree t u) = actions_below A t && actions_below A u
actions_below A (not_tree t) = actions_below A t

-- "an action not below A with 33, and more than 32 entries with 34, in that order, before a short output"; else the length of the body
abbrev pub answer_tree : ℕ → Tree → ℕ → Parsed
answer_tree A t room =
    pick (actions_below A t)
    (pick (leb (entry_total t) 32) (pick (leb (length (body_of t)) room) (Ok (length (body_of t))) (Err OutputShort)) (Err TooManyEntries))
    (Err UnknownAction)

-- "It refuses an unreadable line, the empty one included, with 32"
abbrev pub answer_reading : ℕ → LineReading → ℕ → Parsed
answer_reading A unreadable room = Err Unreadable
answer_reading A (readable t) room = answer_tree A t room

-- what the call answers for every A, line and output of so many bytes
unfoldable pub parsed_of : ℕ → List ℕ → ℕ → Parsed
parsed_of A line room = answer_reading A (reading_of line) room

-- the body of a readable line; of another, which is refused, nothing
abbrev pub line_body : LineReading → List ℕ
line_body unreadable = []
line_body (readable t) = body_of t

-- the body at the front of the output; document 02 (c), "Here and in later requests": "output bytes past what is written stay unchanged";
-- document 01: a refused call "changes no buffer"
abbrev pub leaves : List ℕ → List ℕ → Parsed → List ℕ
leaves body out (Ok n) = body ++ drop n out
leaves body out (Err x) = out

-- the output buffer after the call
unfoldable pub output_after : ℕ → List ℕ → List ℕ → List ℕ
output_after A line out = leaves (line_body (reading_of line)) out (parsed_of A line (length out))

-- what the call reports: number, place and the length of the body written
pub record ParseReport : Type 0 where
  pub number : ℕ
  pub place : ℕ
  pub size : ℕ

-- document 01: "An accepted call gives number 0 and place 0."; on a refusal its number, "Other places are 0.", and "lengths and any further
-- result number 0"
abbrev pub reported_parse : Parsed → ParseReport
reported_parse (Ok n) = record { number = 0; place = 0; size = n }
reported_parse (Err Unreadable) = record { number = 32; place = 0; size = 0 }
reported_parse (Err UnknownAction) = record { number = 33; place = 0; size = 0 }
reported_parse (Err TooManyEntries) = record { number = 34; place = 0; size = 0 }
-- document 01: "22: output buffer too short (calls that write a sheet or a body)."
reported_parse (Err OutputShort) = record { number = number_of SheetRefusal.OutputShort; place = place_of SheetRefusal.OutputShort; size = 0 }

-- what the call reports for every A, line and output
abbrev pub parse_report_of : ℕ → List ℕ → ℕ → ParseReport
parse_report_of A line room = reported_parse (parsed_of A line room)

-- The contract of `parse`: a call on A, a line and an output answered r and left out'. The theorem of specs/ParseCorrect.antt speaks of it.
abbrev pub Parses : ℕ → List ℕ → List ℕ → Parsed → List ℕ → Type 0
Parses A line out r out' =
    (r ≡ parsed_of A line (length out))
    × ((reported_parse r ≡ parse_report_of A line (length out)) × (out' ≡ output_after A line out))
