-- Document 02 (g): the text of a report, from the states of its queries and what each of them reports.
use Rattle.std.specs.Prelude.{ℕ, ◌+◌, List, [], ◌∷◌, ◌++◌, eqb}
use Rattle.sheet.specs.Bytes.{pick}
use Rattle.text.specs.Decimal.{decimal_of}
use Rattle.text.specs.Words.{space, line_feed, bool_text, refused}
use Rattle.judge.specs.Querying.{QueryReport}

-- "state, then `true`, `false` or `refused`, then visits, one space between; a line feed ends each line": a state, a word and a number
unfoldable pub line_with : ℕ → List ℕ → ℕ → List ℕ
line_with state word visits = decimal_of state ++ space ++ word ++ space ++ decimal_of visits ++ line_feed

-- "`true`, `false` or `refused`": a query is refused when its number isn't 0
abbrev pub answer_word : QueryReport → List ℕ
answer_word q = pick (eqb q.number 0) (bool_text q.verdict) refused

-- the line of a query. "Refused queries print 0": a refused query reports 0 visits
abbrev pub line_of : ℕ → QueryReport → List ℕ
line_of state q = line_with state (answer_word q) q.visits

-- "writes a line for each", in order
unfoldable pub lines_of : List ℕ → List QueryReport → List ℕ
lines_of [] qs = []
lines_of (state ∷ states) [] = []
lines_of (state ∷ states) (q ∷ qs) = line_of state q ++ lines_of states qs

-- "The running tally is brought up to date after each query.": the tally is n, and then come these queries
unfoldable pub tally_from : ℕ → List QueryReport → ℕ
tally_from n [] = n
tally_from n (q ∷ qs) = tally_from (n + q.visits) qs

-- the tally after all of them
abbrev pub tally_of : List QueryReport → ℕ
tally_of qs = tally_from 0 qs

-- `total`
abbrev pub total : List ℕ
total = 116 ∷ 111 ∷ 116 ∷ 97 ∷ 108 ∷ []

-- "The last line prints `total` and the tally": "one space between; a line feed ends each line, the last too"
unfoldable pub total_line : ℕ → List ℕ
total_line n = total ++ space ++ decimal_of n ++ line_feed

-- the whole text
unfoldable pub text_of : List ℕ → List QueryReport → List ℕ
text_of states qs = lines_of states qs ++ total_line (tally_of qs)
