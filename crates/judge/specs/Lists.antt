-- Document 01, "Lists of queries": what the queries of a list report and leave, one after the other.
use Rattle.std.specs.Prelude.{◌≡◌, ℕ, ◌+◌, ◌↔◌, List, [], ◌∷◌, ◌==◌}
use Rattle.sheet.specs.Bytes.{pick}
use Rattle.judge.specs.Clearing.{clear_report_of}
use Rattle.judge.specs.Querying.{QueryReport, reported_query, queried_of, table_queried, Queries}
use Rattle.judge.specs.Querying.{Queried}

-- "The table is just cleared when clearing gave number 0 on it with that sheet": t is the buffer as it was lent to clearing
abbrev pub JustCleared : List ℕ → List ℕ → Type 0
JustCleared s t = (clear_report_of s t).number ≡ 0

-- "A list is any number of queries, of states below S or not, with one sheet and one table": what each reports, the table handed on from
-- query to query
unfoldable pub reports : List ℕ → List ℕ → List ℕ → List QueryReport
reports s t [] = []
reports s t (state ∷ states) = reported_query (queried_of s state t) ∷ reports s (table_queried s state t) states

-- the table that the list leaves
unfoldable pub table_after : List ℕ → List ℕ → List ℕ → List ℕ
table_after s t [] = t
table_after s t (state ∷ states) = table_after s (table_queried s state t) states

-- the same of the running calls: calls of `query` for a list of states, one after the other on one table, each of which keeps its contract;
-- what they reported, and the table in the end
pub data Calls (s : List ℕ) : List ℕ → List ℕ → List QueryReport → List ℕ → Type 0 where
  none : {t : List ℕ} → Calls s t [] [] t
  call :
      {t u v states : List ℕ} {state : ℕ} {answers : List QueryReport} (r : Queried)
      → Queries s state t r u → Calls s u states answers v → Calls s t (state ∷ states) (reported_query r ∷ answers) v

-- such calls report and leave what is defined, and calls that do so there are (`calls_exactly` of proofs/Lists/Called.antt)
abbrev pub CallsExactly : Type 0
CallsExactly =
    (s t states : List ℕ) (answers : List QueryReport) (left : List ℕ)
    → Calls s t states answers left ↔ ((answers ≡ reports s t states) × (left ≡ table_after s t states))

-- what holds of each query of a list and its report
abbrev pub Reported : (ℕ → QueryReport → Type 0) → List ℕ → List QueryReport → Type 0
Reported P [] [] = Unit {0}
Reported P [] (q ∷ qs) = ⊥
Reported P (state ∷ states) [] = ⊥
Reported P (state ∷ states) (q ∷ qs) = P state q × Reported P states qs

-- the same queries are refused, and the others have the same verdicts
abbrev pub SameAnswers : List QueryReport → List QueryReport → Type 0
SameAnswers [] [] = Unit {0}
SameAnswers [] (q ∷ qs) = ⊥
SameAnswers (q ∷ qs) [] = ⊥
SameAnswers (q ∷ qs) (q' ∷ qs') = ((q.number ≡ q'.number) × (q.verdict ≡ q'.verdict)) × SameAnswers qs qs'

-- the sum of the visits
unfoldable pub visits_of : List QueryReport → ℕ
visits_of [] = 0
visits_of (q ∷ qs) = q.visits + visits_of qs

-- "A query is refused when its number isn't 0.": the states of the queries that are not refused
unfoldable pub judged_states : List ℕ → List QueryReport → List ℕ
judged_states [] qs = []
judged_states (state ∷ states) [] = []
judged_states (state ∷ states) (q ∷ qs) = pick (q.number == 0) (state ∷ judged_states states qs) (judged_states states qs)
