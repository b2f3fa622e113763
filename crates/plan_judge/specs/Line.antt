-- "prints one line, ended by a line feed: `true` or `false`, a space, the visits; or `refused`, a space, the number, a space, the place"
use Rattle.std.specs.Prelude.{ℕ, ◌≤◌, Ok, Err, List, ◌++◌, length}
use Rattle.text.specs.Decimal.{decimal_of}
use Rattle.text.specs.RefusalLine.{refusal_line, refusal_length}
use Rattle.text.specs.Words.{space, line_feed, bool_text}
use Rattle.judge.specs.Querying.{Queried, reported_query}
use Rattle.judge.specs.declared.QueryError.TheVariants.{WrongCount, Refused}

-- the line of an answer
unfoldable pub line_of : Queried → List ℕ
line_of (Ok j) = bool_text j.verdict ++ space ++ decimal_of j.visits ++ line_feed
line_of (Err WrongCount) = refusal_line (reported_query (Err WrongCount)).number (reported_query (Err WrongCount)).place
line_of (Err (Refused r)) = refusal_line (reported_query (Err (Refused r))).number (reported_query (Err (Refused r))).place

-- room for the line of a refusal
abbrev pub line_length : ℕ
line_length = refusal_length

-- no line is longer
abbrev pub EveryLineFits : Type 0
EveryLineFits = (answer : Queried) → length (line_of answer) ≤ line_length
