-- The writer: the sheet that three bodies make, and what the writer answers and leaves in the output buffer.
use Rattle.std.specs.Prelude.{ℕ, ◌+◌, ◌/◌, ◌%◌, List, [], ◌∷◌, ◌++◌, length, drop, leb, Result, Err, Ok}
use Rattle.sheet.specs.Refusals.{number_of, place_of, require, and_then}
use Rattle.sheet.specs.Contents.{head_length}
use Rattle.sheet.specs.Reading.{bodies_check}
use Rattle.sheet.specs.declared.Refusal.TheVariants.{OutputShort}
use Rattle.sheet.specs.declared.Refusal.{Refusal}
use Rattle.sheet.specs.Refusals.{Check}

-- a number below 65,536 as two bytes, "the low byte first"; of a larger one its remainder by 65,536
abbrev pub two_bytes : ℕ → List ℕ → List ℕ
two_bytes n rest = n % 256 ∷ n / 256 % 256 ∷ rest

-- "three entries of 5 bytes: kind (1 byte), offset (16 bits), length (16 bits)"
abbrev pub contents_entry : ℕ → ℕ → ℕ → List ℕ → List ℕ
contents_entry kind offset size rest = kind ∷ two_bytes offset (two_bytes size rest)

-- edition, number of entries and the table of contents for bodies of these lengths
abbrev pub head : ℕ → ℕ → ℕ → List ℕ
head p a r =
    1 ∷ 3 ∷ contents_entry 1 head_length p (contents_entry 2 (head_length + p) a (contents_entry 3 (head_length + p + a) r []))

-- "The writer takes the three bodies": the sheet they make
unfoldable pub sheet_of : List ℕ → List ℕ → List ℕ → List ℕ
sheet_of p a r = head (length p) (length a) (length r) ++ (p ++ (a ++ r))

-- "gives the length"
abbrev pub sheet_length : List ℕ → List ℕ → List ℕ → ℕ
sheet_length p a r = head_length + length p + length a + length r

-- "the writer 4 to 10, then 22"
unfoldable pub write_check : List ℕ → List ℕ → List ℕ → ℕ → Check
write_check p a r room = and_then (bodies_check p a r) (require (leb (sheet_length p a r) room) OutputShort)

-- "gives the length", or the refusal
abbrev pub answer_written : ℕ → Check → Result ℕ Refusal
answer_written size (Ok _) = Ok size
answer_written size (Err r) = Err r

-- what the writer answers for every three bodies and every room
unfoldable pub written_of : List ℕ → List ℕ → List ℕ → ℕ → Result ℕ Refusal
written_of p a r room = answer_written (sheet_length p a r) (write_check p a r room)

-- the sheet at the front of the output, and "bytes past it are unchanged"; a refused call "changes no buffer"
abbrev pub leaves : List ℕ → List ℕ → Check → List ℕ
leaves sheet out (Ok _) = sheet ++ drop (length sheet) out
leaves sheet out (Err r) = out

-- the output buffer after the call
unfoldable pub output_after : List ℕ → List ℕ → List ℕ → List ℕ → List ℕ
output_after p a r out = leaves (sheet_of p a r) out (write_check p a r (length out))

-- what the writer reports: number, place and the length of the sheet written
pub record WriteReport : Type 0 where
  pub number : ℕ
  pub place : ℕ
  pub size : ℕ

-- "An accepted call gives number 0 and place 0."; on a refusal its number and place, and "any further result number 0"
abbrev pub reported_write : (Result ℕ Refusal) → WriteReport
reported_write (Ok n) = record { number = 0; place = 0; size = n }
reported_write (Err r) = record { number = number_of r; place = place_of r; size = 0 }

-- what the writer reports for every three bodies and every output
abbrev pub write_report_of : List ℕ → List ℕ → List ℕ → ℕ → WriteReport
write_report_of p a r room = reported_write (written_of p a r room)
