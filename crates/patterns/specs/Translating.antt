-- The call of document 02 (c): "Translate a pattern, with p the sheet's rule, into a rule body." What it answers and what it leaves in the
-- output buffer, for every list of bytes as sheet and as pattern, and every output.
use Rattle.std.specs.Prelude.{ℕ, ◌≡◌, Bool, ◌&&◌, List, [], ◌++◌, length, drop, leb, Result, Ok, Err}
use Rattle.sheet.specs.Bytes.{pick}
use Rattle.sheet.specs.Refusals.{number_of, place_of}
use Rattle.sheet.specs.Contents.{actions_body, rule_body}
use Rattle.sheet.specs.Actions.{entry_count}
use Rattle.sheet.specs.Reading.{sheet_check}
use Rattle.sheet.specs.Refusals.{Check}
use Rattle.sheet.specs.declared.Refusal.TheVariants.{OutputShort}
use Rattle.calculus.specs.Trees.{Tree, tree_size, binders, encode, tree_of}
use Rattle.patterns.specs.Patterns.{Pattern, Reading, malformed, readable, reading_of}
use Rattle.patterns.specs.Translation.{translation}
use Rattle.patterns.specs.declared.TranslateError.{TranslateError}
use Rattle.patterns.specs.declared.TranslateError.TheVariants.{Malformed, TooLarge, Refused}

-- the length of the rule body that it wrote, or why it turned its input down
abbrev pub Translated : Type 0
Translated = Result ℕ TranslateError

-- what the pattern R becomes with the rule of the sheet s
abbrev pub tree_for : List ℕ → Bool → Pattern → Tree
tree_for s every R = translation every R (tree_of (rule_body s))

-- not "a result over 64 nodes or 6 binders"
abbrev pub small_enough : Tree → Bool
small_enough t = leb (tree_size t) 64 && leb (binders t) 6

-- The refusals of a pattern that is readable: a result that is too large; then, since 31 comes "before 22", an output that has no room for
-- its rule body. Else the length of the body.
abbrev pub answer_tree : Tree → ℕ → Translated
answer_tree t room = pick (small_enough t) (pick (leb (length (encode t)) room) (Ok (length (encode t))) (Err (Refused OutputShort))) (Err TooLarge)

-- "It refuses a malformed pattern .. with 30 and a result over 64 nodes or 6 binders with 31, in that order"
abbrev pub answer_reading : List ℕ → Reading → ℕ → Translated
answer_reading s malformed room = Err Malformed
answer_reading s (readable every R) room = answer_tree (tree_for s every R) room

-- "after the sheet's refusals"
abbrev pub answer_sheet : List ℕ → List ℕ → Check → ℕ → Translated
answer_sheet s pattern (Ok tt) room = answer_reading s (reading_of (entry_count (actions_body s)) pattern) room
answer_sheet s pattern (Err r) room = Err (Refused r)

-- what the call answers for every sheet, pattern and output of so many bytes
unfoldable pub translated_of : List ℕ → List ℕ → ℕ → Translated
translated_of s pattern room = answer_sheet s pattern (sheet_check s) room

-- the rule body of a readable pattern; of another, which is refused, nothing
abbrev pub body_of : List ℕ → Reading → List ℕ
body_of s malformed = []
body_of s (readable every R) = encode (tree_for s every R)

-- the rule body at the front of the output; "output bytes past what is written stay unchanged"; a refused call "changes no buffer"
abbrev pub leaves : List ℕ → List ℕ → Translated → List ℕ
leaves body out (Ok n) = body ++ drop n out
leaves body out (Err x) = out

-- the output buffer after the call
unfoldable pub output_after : List ℕ → List ℕ → List ℕ → List ℕ
output_after s pattern out =
    leaves (body_of s (reading_of (entry_count (actions_body s)) pattern)) out (translated_of s pattern (length out))

-- what the call reports: number, place and the length of the rule body written
pub record TranslationReport : Type 0 where
  pub number : ℕ
  pub place : ℕ
  pub size : ℕ

-- "An accepted call gives number 0 and place 0."; on a refusal its number and place, and "any further result number 0"
abbrev pub reported_translation : Translated → TranslationReport
reported_translation (Ok n) = record { number = 0; place = 0; size = n }
reported_translation (Err Malformed) = record { number = 30; place = 0; size = 0 }
reported_translation (Err TooLarge) = record { number = 31; place = 0; size = 0 }
reported_translation (Err (Refused r)) = record { number = number_of r; place = place_of r; size = 0 }

-- what the call reports for every sheet, pattern and output
abbrev pub translation_report_of : List ℕ → List ℕ → ℕ → TranslationReport
translation_report_of s pattern room = reported_translation (translated_of s pattern room)

-- The contract of `translate`: a call on the sheet s, a pattern and an output answered r and left out'. The theorem of
-- specs/TranslationCorrect.antt speaks of it.
abbrev pub Translates : List ℕ → List ℕ → List ℕ → Translated → List ℕ → Type 0
Translates s pattern out r out' =
    (r ≡ translated_of s pattern (length out))
    × ((reported_translation r ≡ translation_report_of s pattern (length out)) × (out' ≡ output_after s pattern out))
