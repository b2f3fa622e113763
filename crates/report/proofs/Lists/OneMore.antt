-- A list of queries and one more: what they report, the table, the lines and the tally.
use Prim.Native.Nat.{ℕ, suc, ◌+◌}
use mathlib.Core.Path.{◌≡◌, refl, sym, ap, ◌∙◌}
use mathlib.Core.List.{List, [], ◌∷◌, ◌++◌, append-nil, append_assoc}
use native.Mathlib.Omega.{arith}
use lib.ListN.{length}
use Rattle.judge.specs.Querying.{QueryReport, query_report_of, table_queried}
use Rattle.judge.specs.Lists.{reports, table_after, visits_of}
use Rattle.report.specs.Text.{line_of, lines_of, tally_from, tally_of}

module _ (s : List ℕ) where
  pub reports_more : (t states : List ℕ) (state : ℕ) → reports s t (states ++ (state ∷ [])) ≡ reports s t states ++ (query_report_of s state (table_after s t states) ∷ [])
  unfolding reports table_after
  reports_more t [] state = refl
  reports_more t (x ∷ states) state = ap (λ (l : List QueryReport). query_report_of s x t ∷ l) (reports_more (table_queried s x t) states state)

  pub table_more : (t states : List ℕ) (state : ℕ) → table_after s t (states ++ (state ∷ [])) ≡ table_queried s state (table_after s t states)
  unfolding table_after
  table_more t [] state = refl
  table_more t (x ∷ states) state = table_more (table_queried s x t) states state

  pub as_many : (t states : List ℕ) → length (reports s t states) ≡ length states
  unfolding reports
  as_many t [] = refl
  as_many t (x ∷ states) = ap suc (as_many (table_queried s x t) states)

pub lines_more : (states : List ℕ) (qs : List QueryReport) (state : ℕ) (q : QueryReport) → length qs ≡ length states
    → lines_of (states ++ (state ∷ [])) (qs ++ (q ∷ [])) ≡ lines_of states qs ++ line_of state q
unfolding lines_of
lines_more [] [] state q e = append-nil (line_of state q)
lines_more [] (p ∷ qs) state q e = absurd (omega (arith, e))
lines_more (x ∷ states) [] state q e = absurd (omega (arith, e))
lines_more (x ∷ states) (p ∷ qs) state q e =
    ap (λ (l : List ℕ). line_of x p ++ l) (lines_more states qs state q (omega (arith, e))) ∙ sym (append_assoc (line_of x p) (lines_of states qs) (line_of state q))

tally_from_more : (n : ℕ) (qs : List QueryReport) (q : QueryReport) → tally_from n (qs ++ (q ∷ [])) ≡ tally_from n qs + q.visits
unfolding tally_from
tally_from_more n [] q = refl
tally_from_more n (p ∷ qs) q = tally_from_more (n + p.visits) qs q

pub tally_more : (qs : List QueryReport) (q : QueryReport) → tally_of (qs ++ (q ∷ [])) ≡ tally_of qs + q.visits
tally_more qs q = tally_from_more 0 qs q

tally_from_sum : (n : ℕ) (qs : List QueryReport) → tally_from n qs ≡ n + visits_of qs
unfolding tally_from visits_of
tally_from_sum n [] = omega arith
tally_from_sum n (q ∷ qs) = tally_from_sum (n + q.visits) qs ∙ omega arith

-- the tally is the sum of the visits
pub tally_sum : (qs : List QueryReport) → tally_of qs ≡ visits_of qs
tally_sum qs = tally_from_sum 0 qs ∙ omega arith
