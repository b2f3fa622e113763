-- Document 02 (h): "Turn one into a plan body." What the call answers and leaves, for every text and every output.
use Rattle.std.specs.Prelude.{ℕ, ◌≡◌, Bool, true, ◌&&◌, List, [], ◌∷◌, ◌++◌, eqb, ltb, leb, length, drop, Result, Ok, Err}
use Rattle.sheet.specs.Bytes.{pick}
use Rattle.sheet.specs.Refusals.{number_of, place_of}
use Rattle.sheet.specs.declared.Refusal.TheVariants as SheetRefusal
use Rattle.aut.specs.Texts.{FirstLine, TransitionLine}
use Rattle.aut.specs.Reading.{TextReading, unreadable, readable, reading_of}
use Rattle.aut.specs.Plans.{labels_of, transitions_of, body_of}
use Rattle.aut.specs.declared.ConvertError.{ConvertError}
use Rattle.aut.specs.declared.ConvertError.TheVariants.{Malformed, StateOutOfRange, OverLimits, OutputShort}

-- what the converter answers: the length of the plan body that it wrote, or why it turned its input down
abbrev pub Converted : Type 0
Converted = Result ℕ ConvertError

-- no "transition count other than the number of lines after the first, or a first state other than 0"
abbrev pub first_line_right : FirstLine → List TransitionLine → Bool
first_line_right h xs = eqb h.first 0 && eqb h.transitions (length xs)

-- the states of lines are below the number
unfoldable pub states_below : ℕ → List TransitionLine → Bool
states_below states [] = true
states_below states (x ∷ xs) = ltb x.from states && ltb x.to states && states_below states xs

-- no "state, the first included, not below the stated number"
abbrev pub states_in_range : FirstLine → List TransitionLine → Bool
states_in_range h xs = ltb h.first h.states && states_below h.states xs

-- nothing "over the plan limits"; document 01: "1 to 128 states", "0 to 255 actions", T "0 to 2,048". "the plan limits count after
-- merging"
abbrev pub within_limits : FirstLine → List TransitionLine → Bool
within_limits h xs = leb h.states 128 && (leb (length (labels_of xs)) 255 && leb (length (transitions_of xs)) 2048)

-- "37, a state .. with 38, and anything over the plan limits with 39, in that order, before a short output"; else the length of the body
abbrev pub answer_text : FirstLine → List TransitionLine → ℕ → Converted
answer_text h xs room =
    pick (first_line_right h xs)
    (pick (states_in_range h xs)
    (pick (within_limits h xs)
    (pick (leb (length (body_of h.states xs)) room) (Ok (length (body_of h.states xs))) (Err OutputShort)) (Err OverLimits))
    (Err StateOutOfRange))
    (Err Malformed)

-- "It refuses unreadable text .. with 37"
abbrev pub answer_reading : TextReading → ℕ → Converted
answer_reading unreadable room = Err Malformed
answer_reading (readable h xs) room = answer_text h xs room

-- what the call answers for every text and output of so many bytes
unfoldable pub converted_of : List ℕ → ℕ → Converted
converted_of text room = answer_reading (reading_of text) room

-- the body of a readable text; of another, which is refused, nothing
abbrev pub text_body : TextReading → List ℕ
text_body unreadable = []
text_body (readable h xs) = body_of h.states xs

-- the body at the front of the output; document 02 (c), "Here and in later requests": "output bytes past what is written stay unchanged";
-- document 01: a refused call "changes no buffer"
abbrev pub leaves : List ℕ → List ℕ → Converted → List ℕ
leaves body out (Ok n) = body ++ drop n out
leaves body out (Err x) = out

-- the output buffer after the call
unfoldable pub output_after : List ℕ → List ℕ → List ℕ
output_after text out = leaves (text_body (reading_of text)) out (converted_of text (length out))

-- what the call reports: number, place and the length of the body written
pub record ConversionReport : Type 0 where
  pub number : ℕ
  pub place : ℕ
  pub size : ℕ

-- document 01: "An accepted call gives number 0 and place 0."; on a refusal its number, "Other places are 0.", and "lengths and any further
-- result number 0"
abbrev pub reported_conversion : Converted → ConversionReport
reported_conversion (Ok n) = record { number = 0; place = 0; size = n }
reported_conversion (Err Malformed) = record { number = 37; place = 0; size = 0 }
reported_conversion (Err StateOutOfRange) = record { number = 38; place = 0; size = 0 }
reported_conversion (Err OverLimits) = record { number = 39; place = 0; size = 0 }
-- document 01: "22: output buffer too short (calls that write a sheet or a body)."
reported_conversion (Err OutputShort) =
    record { number = number_of SheetRefusal.OutputShort; place = place_of SheetRefusal.OutputShort; size = 0 }

-- what the call reports for every text and output
abbrev pub conversion_report_of : List ℕ → ℕ → ConversionReport
conversion_report_of text room = reported_conversion (converted_of text room)

-- The contract of `convert`: a call on a text and an output answered r and left out'. The theorem of specs/ConversionCorrect.antt speaks of
-- it.
abbrev pub Converts : List ℕ → List ℕ → Converted → List ℕ → Type 0
Converts text out r out' =
    (r ≡ converted_of text (length out))
    × ((reported_conversion r ≡ conversion_report_of text (length out)) × (out' ≡ output_after text out))
