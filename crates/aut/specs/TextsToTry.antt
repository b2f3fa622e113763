-- Texts worked through: what a call reports and leaves, on an output of 12 bytes of 7. Shown by texts_to_try of
-- proofs/Statements/TextsToTry.antt.
use Rattle.std.specs.Prelude.{ℕ, ◌≡◌, List, [], ◌∷◌, ◌++◌, length, replicate}
use Rattle.aut.specs.Texts.{open_parenthesis, close_parenthesis, comma, quote_mark, space_byte, line_feed_byte, des_text}
use Rattle.aut.specs.Converting.{output_after, ConversionReport, conversion_report_of}

-- a first line with every shown space, and no other line; the digits of its numbers
abbrev pub first_line : List ℕ → List ℕ → List ℕ → List ℕ
first_line ds₁ ds₂ ds₃ =
    des_text
    ++ (space_byte ∷ open_parenthesis
    ∷ (ds₁ ++ comma ∷ space_byte ∷ (ds₂ ++ comma ∷ space_byte ∷ (ds₃ ++ close_parenthesis ∷ line_feed_byte ∷ []))))

-- a line with no space, whose label is one byte
abbrev pub short_line : List ℕ → ℕ → List ℕ → List ℕ
short_line ds₁ label ds₂ =
    open_parenthesis
    ∷ (ds₁ ++ comma ∷ quote_mark ∷ label ∷ quote_mark ∷ comma ∷ (ds₂ ++ close_parenthesis ∷ line_feed_byte ∷ []))

-- a number of one digit, by its byte
abbrev pub digit : ℕ → List ℕ
digit b = b ∷ []

-- 10 to the 20
abbrev pub large : List ℕ
large = 49 ∷ replicate 20 48

-- the number before it
abbrev pub before_large : List ℕ
before_large = replicate 20 57

-- 2 to the 64 and 1
abbrev pub wrapping : List ℕ
wrapping = 49 ∷ 56 ∷ 52 ∷ 52 ∷ 54 ∷ 55 ∷ 52 ∷ 52 ∷ 48 ∷ 55 ∷ 51 ∷ 55 ∷ 48 ∷ 57 ∷ 53 ∷ 53 ∷ 49 ∷ 54 ∷ 49 ∷ 55 ∷ []

-- the output
abbrev pub out : List ℕ
out = replicate 12 7

-- two states, three lines: `b` comes first and is action 0, `a` is action 1, and the last line says what the first does
abbrev pub small : List ℕ
small =
    first_line (digit 48) (digit 51) (digit 50)
    ++ (short_line (digit 49) 98 (digit 48) ++ (short_line (digit 48) 97 (digit 49) ++ short_line (digit 49) 98 (digit 48)))

-- a refusal with this number
abbrev pub refused_by : ℕ → ConversionReport
refused_by k = record { number = k; place = 0; size = 0 }

pub record TextsToTry : Type 0 where
  -- no byte, and no state
  pub empty : conversion_report_of [] (length out) ≡ refused_by 37
  pub no_states : conversion_report_of (first_line (digit 48) (digit 48) (digit 48)) (length out) ≡ refused_by 38
  -- S, A, T, then (0, 1, 1) and (1, 0, 0); the last two bytes are as they were
  pub small_reported : conversion_report_of small (length out) ≡ record { number = 0; place = 0; size = 10 }
  pub small_left : output_after small out ≡ 2 ∷ 2 ∷ 2 ∷ 0 ∷ 0 ∷ 1 ∷ 1 ∷ 1 ∷ 0 ∷ 0 ∷ 7 ∷ 7 ∷ []
  -- numbers are compared exactly
  pub below_large :
      conversion_report_of (first_line (digit 48) (digit 49) large ++ short_line before_large 97 (digit 48)) (length out) ≡ refused_by 39
  pub is_large :
      conversion_report_of (first_line (digit 48) (digit 49) large ++ short_line large 97 (digit 48)) (length out) ≡ refused_by 38
  pub wraps :
      conversion_report_of (first_line (digit 48) wrapping (digit 50) ++ short_line (digit 48) 97 (digit 49)) (length out) ≡ refused_by 37
