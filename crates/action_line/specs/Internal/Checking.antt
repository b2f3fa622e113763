-- What the pass over a line finds out. Contracts of private functions cite these; no promise of a public call does.
use Rattle.std.specs.Prelude.{ℕ, Bool, true, ◌&&◌, List, [], ◌∷◌, ltb, Option, Some, None, Ok, Err}
use Rattle.sheet.specs.Bytes.{pick}
use Rattle.action_line.specs.Tokens.{Token, number, true_word, false_word, not_word, and_word, or_word, open_parenthesis, close_parenthesis}
use Rattle.action_line.specs.Tokens.{invalid}
use Rattle.action_line.specs.Entries.{word_total}
use Rattle.action_line.specs.Reading.{Expected, operand, operator, failed, complete, scan}
use Rattle.action_line.specs.Parsing.{Parsed}
use Rattle.action_line.specs.declared.ParseError.TheVariants.{Unreadable, UnknownAction}
use Rattle.action_line.specs.declared.checker.Expected as code
use Rattle.action_line.specs.declared.checker.Expected.TheVariants.{Operand, Operator}

-- what the code's value says
abbrev pub expected_by : code.Expected → Expected
expected_by (Operand d) = operand d
expected_by (Operator d) = operator d

abbrev pub expected_or_failed : Option code.Expected → Expected
expected_or_failed (Some e) = expected_by e
expected_or_failed None = failed

-- how many parentheses are open
abbrev pub depth_of : Expected → ℕ
depth_of (operand d) = d
depth_of (operator d) = d
depth_of failed = 0

-- the token is no action from A on
abbrev pub known : ℕ → Token → Bool
known A (number n) = ltb n A
known A true_word = true
known A false_word = true
known A not_word = true
known A and_word = true
known A or_word = true
known A open_parenthesis = true
known A close_parenthesis = true
known A invalid = true

unfoldable pub all_known : ℕ → List Token → Bool
all_known A [] = true
all_known A (t ∷ ts) = known A t && all_known A ts

-- what the first pass answers, by what it has found out at the end of the line
abbrev pub outcome_of : Expected → Bool → ℕ → Parsed
outcome_of expected b entries = pick (complete expected) (pick b (Ok entries) (Err UnknownAction)) (Err Unreadable)

abbrev pub outline_of : ℕ → List Token → Parsed
outline_of A ts = outcome_of (scan ts (operand 0)) (all_known A ts) (word_total ts)
