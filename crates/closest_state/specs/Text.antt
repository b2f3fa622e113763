-- What the program prints of an answer: `fails`, the state, its steps and the visits, and then a line for each transition of the way to
-- it; or `holds` and the visits; or, document 01, "`refused`, a space, the number, a space, the place". One space between, and a line feed
-- ends each line.
use Rattle.std.specs.Prelude.{ℕ, ◌+◌, ◌*◌, Option, None, Some, Ok, Err, List, [], ◌∷◌, ◌++◌}
use Rattle.text.specs.Decimal.{decimal_of}
use Rattle.text.specs.RefusalLine.{refusal_line}
use Rattle.text.specs.Words.{space, line_feed}
use Rattle.sheet.specs.Contents.{plan_body}
use Rattle.sheet.specs.TransitionSystem.{LabelledTransition}
use Rattle.graph.specs.Search.{most_states}
use Rattle.judge.specs.declared.QueryError.TheVariants.{WrongCount, Refused}
use Rattle.closest.specs.Finding.{ClosestAnswer, reported_closest}
use Rattle.closest.specs.Tracing.{way_to}
use Rattle.closest.specs.declared.Failing.{Failing}

-- `fails`, as the bytes of its letters in ASCII
abbrev pub fails : List ℕ
fails = 102 ∷ 97 ∷ 105 ∷ 108 ∷ 115 ∷ []

-- `holds`
abbrev pub holds : List ℕ
holds = 104 ∷ 111 ∷ 108 ∷ 100 ∷ 115 ∷ []

-- the state that breaks the rule, its steps and the visits
unfoldable pub fails_line : ℕ → ℕ → ℕ → List ℕ
fails_line state steps visits = fails ++ space ++ decimal_of state ++ space ++ decimal_of steps ++ space ++ decimal_of visits ++ line_feed

-- no state that can be reached breaks it; the visits
unfoldable pub holds_line : ℕ → List ℕ
holds_line visits = holds ++ space ++ decimal_of visits ++ line_feed

-- "from, action, to"
unfoldable pub transition_line : ℕ → ℕ → ℕ → List ℕ
transition_line from action to = decimal_of from ++ space ++ decimal_of action ++ space ++ decimal_of to ++ line_feed

-- a line for each transition of a way, in order
unfoldable pub way_lines : List LabelledTransition → List ℕ
way_lines [] = []
way_lines (x ∷ l) = transition_line x.origin x.action x.target ++ way_lines l

-- the text on the sheet s of a state that breaks the rule, if there is one
abbrev pub text_found : List ℕ → Option Failing → ℕ → List ℕ
text_found s (Some f) visits = fails_line f.state.0 f.steps visits ++ way_lines (way_to (plan_body s) f.steps f.state.0)
text_found s None visits = holds_line visits

-- the text of an answer on the sheet s
unfoldable pub text_of : List ℕ → ClosestAnswer → List ℕ
text_of s (Ok c) = text_found s c.first c.visits
text_of s (Err WrongCount) = refusal_line (reported_closest (Err WrongCount)).number (reported_closest (Err WrongCount)).place
text_of s (Err (Refused r)) = refusal_line (reported_closest (Err (Refused r))).number (reported_closest (Err (Refused r))).place

-- room for a first line, whatever its numbers: `fails`, three numbers of at most 20 digits, three spaces and the line feed
abbrev pub first_length : ℕ
first_length = 69

-- room for the line of a transition: three numbers of at most 20 digits, two spaces and the line feed
abbrev pub line_length : ℕ
line_length = 63

-- room for every text: no state has more than S steps
abbrev pub text_length : ℕ
text_length = first_length + most_states * line_length
