-- A list of calls, each of which keeps its contract, reports and leaves what the definitions say.
use Rattle.std.proofs.Common.{◌≡◌, ℕ, List, [], ◌∷◌, sym, refl, ap, ◌∙◌, subst₂}
use Rattle.judge.specs.Clearing.{table_cleared, ClearReport, reported_clear, Clears}
use Rattle.judge.specs.Querying.{queried_of, table_queried, QueryReport, reported_query}
use Rattle.judge.specs.Lists.{JustCleared, reports, table_after, Calls, none, call, CallsExactly}
use Rattle.judge.specs.Clearing.{Cleared}

calls_report : (s : List ℕ) {t states v : List ℕ} {answers : List QueryReport} → Calls s t states answers v → answers ≡ reports s t states
unfolding reports
calls_report s none = refl
calls_report s (call {t = t} {states = states} {state = state} {answers = answers} r q rest) =
    ap (λ (x : QueryReport). x ∷ answers) (ap reported_query q.0) ∙
    ap (λ (l : List QueryReport). reported_query (queried_of s state t) ∷ l) (calls_report s rest ∙ ap (λ (u : List ℕ). reports s u states) q.1.1)

calls_leave : (s : List ℕ) {t states v : List ℕ} {answers : List QueryReport} → Calls s t states answers v → v ≡ table_after s t states
unfolding table_after
calls_leave s none = refl
calls_leave s (call {states = states} r q rest) = calls_leave s rest ∙ ap (λ (u : List ℕ). table_after s u states) q.1.1

defined_calls : (s t states : List ℕ) → Calls s t states (reports s t states) (table_after s t states)
unfolding reports table_after
defined_calls s t [] = none
defined_calls s t (state ∷ states) = call (queried_of s state t) (refl, (refl, refl)) (defined_calls s (table_queried s state t) states)

pub calls_exactly : CallsExactly
calls_exactly s t states answers left = (
  λ c. (calls_report s c, calls_leave s c),
  λ e. subst₂ (Calls s t states) (sym e.0) (sym e.1) (defined_calls s t states),
)

-- clearing, then the calls, from the table that clearing left
module _ (s t states : List ℕ) (r : Cleared) (u : List ℕ) (answers : List QueryReport) (left : List ℕ) (c : Clears s t r u) (q : Calls s u states answers left) where
  pub cleared_report : answers ≡ reports s (table_cleared s t) states
  cleared_report = calls_report s q ∙ ap (λ (x : List ℕ). reports s x states) c.1.1

  pub cleared_leave : left ≡ table_after s (table_cleared s t) states
  cleared_leave = calls_leave s q ∙ ap (λ (x : List ℕ). table_after s x states) c.1.1

-- the number that `clear` gave is the one that is defined
pub gave_none : (s t : List ℕ) (r : Cleared) (u : List ℕ) → Clears s t r u → (reported_clear r).number ≡ 0 → JustCleared s t
gave_none s t r u c just = sym (ap (λ (x : ClearReport). x.number) c.1.0) ∙ just
