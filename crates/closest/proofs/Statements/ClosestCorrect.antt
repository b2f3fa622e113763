-- Every call of `find_closest`: its number, what a refused call gives, what is found, filled and left, and that it is by Table 1.
use Prim.Native.Nat.{ℕ, ◌≤◌}
use mathlib.Core.Path.{◌≡◌, refl, sym, ap, ap₂, subst, subst₂, ◌∙◌}
use mathlib.Core.Bool.{Bool, true, false, ◌&&◌}
use mathlib.Core.List.{List, []}
use mathlib.Core.Logic.{◌↔◌, ◌≢◌, inl, inr}
use native.Mathlib.Omega.{arith}
use native.Mathlib.Decide.{ℕ_discrete}
use borrow.Author.Tests.{lt-ltb}
use Rattle.sheet.specs.Contents.{plan_body}
use Rattle.sheet.specs.Plan.{state_count}
use Rattle.sheet.specs.Reading.{sheet_check}
use Rattle.sheet.specs.RefusalOrder.{GivenInOrder}
use Rattle.std.specs.Prelude.{Err, Ok}
use Rattle.sheet.specs.Refusals.{Check}
use Rattle.sheet.proofs.Acceptance.Numbers.{refused_number}
use Rattle.sheet.proofs.Acceptance.Parts.{bodies_kept}
use Rattle.sheet.proofs.Acceptance.Sheet.{accepted_iff}
use Rattle.graph.specs.Loops.{LoopReachable}
use Rattle.graph.specs.Successors.{successors}
use Rattle.graph.proofs.Looptest.LoopFree.{free_exactly_at}
use Rattle.rows.specs.Tables.{query, verdict, visits}
use Rattle.calculus.specs.Verdict.{Verdict}
use Rattle.judge.specs.Querying.{query_check, count_right, result_of, answer_queried, queried_of, QueryReport, reported_query, query_report_of, left_by, table_queried, Queries}
use Rattle.judge.specs.InTurn.{holds_by}
use Rattle.judge.specs.Lists.{Calls, none as no-calls}
use Rattle.judge.specs.Demand3.{RefusedState}
use Rattle.judge.specs.Auditing.{AuditReport, reported_audit, audited_of, Audits}
use Rattle.judge.specs.AuditCorrect.{TableSolved}
use Rattle.judge.specs.Auditing.{Audited}
use Rattle.judge.specs.Querying.{Queried}
use Rattle.judge.proofs.Lists.SheetLists.{Takes, Fine, judged_report}
use Rattle.judge.proofs.Statements.AuditCorrect.{audits_correct}
use Rattle.judge.proofs.Statements.CallNumbers.{call_numbers}
use Rattle.closest.specs.Finding.{ClosestAnswer, Found, everywhere, fails_at, closest_found, searched, answer_closest, closest_of, table_searched, ClosestReport, reported_closest, refused_report, Finds}
use Rattle.closest.specs.ClosestCorrect.{ReachableState, RightlyFound, ClosestCorrect, AsQueries, ByTable1, SearchesCorrect}
use Rattle.closest.proofs.Statements.SearchCorrect.{report_of, reached_taken, rightly_found, correct, as_queries}

-- the query of state 0, as defined
defined : (s : List ℕ) (state : ℕ) (t : List ℕ) → Queries s state t (queried_of s state t) (table_queried s state t)
defined s state t = (refl, (refl, refl))

-- ---- by the check and the count

module _ (s t : List ℕ) where
  abbrev answer : Check → Bool → ClosestAnswer
  answer c b = answer_closest (closest_found s t) (visits (searched s t)) c b

  answered_by : (c : Check) (b : Bool) → query_check s 0 t ≡ c → count_right s t ≡ b → closest_of s t ≡ answer c b
  unfolding closest_of
  answered_by c b e f = ap₂ answer e f

  left_by_lem : (c : Check) (b : Bool) → query_check s 0 t ≡ c → count_right s t ≡ b → table_searched s t ≡ left_by s (searched s t) t c b
  unfolding table_searched
  left_by_lem c b e f = ap₂ (left_by s (searched s t) t) e f

  queried_by : (c : Check) (b : Bool) → query_check s 0 t ≡ c → count_right s t ≡ b → queried_of s 0 t ≡ answer_queried (result_of s 0 t) c b
  unfolding queried_of
  queried_by c b e f = ap₂ (answer_queried (result_of s 0 t)) e f

  number_0 : (f : Found) (n : ℕ) → ((report_of f n).number ≡ 0) × ((report_of f n).place ≡ 0)
  number_0 everywhere n = (refl, refl)
  number_0 (fails_at x) n = (refl, refl)

  abbrev Same : ClosestReport → QueryReport → Type 0
  Same a b = (a.number ≡ b.number) × (a.place ≡ b.place)

  same_numbers : Same (reported_closest (closest_of s t)) (query_report_of s 0 t)
  same_numbers = go (query_check s 0 t) (count_right s t) refl refl
    where
      go : (c : Check) (b : Bool) → query_check s 0 t ≡ c → count_right s t ≡ b → Same (reported_closest (closest_of s t)) (query_report_of s 0 t)
      go (Ok tt) true e f = rw (answered_by (Ok tt) true e f, queried_by (Ok tt) true e f) (number_0 (closest_found s t) (visits (searched s t)))
      go (Ok tt) false e f = rw (answered_by (Ok tt) false e f, queried_by (Ok tt) false e f) (refl, refl)
      go (Err x) b e f = rw (answered_by (Err x) b e f, queried_by (Err x) b e f) (refl, refl)

  -- refused, or not
  turned_down : (reported_closest (closest_of s t)).number ≢ 0
      → (reported_closest (closest_of s t) ≡ refused_report (reported_closest (closest_of s t)).number (reported_closest (closest_of s t)).place) × (table_searched s t ≡ t)
  turned_down n = go (query_check s 0 t) (count_right s t) refl refl
    where
      go : (c : Check) (b : Bool) → query_check s 0 t ≡ c → count_right s t ≡ b
          → (reported_closest (closest_of s t) ≡ refused_report (reported_closest (closest_of s t)).number (reported_closest (closest_of s t)).place) × (table_searched s t ≡ t)
      go (Ok tt) true e f = absurd (n (ap (λ (r : ClosestAnswer). (reported_closest r).number) (answered_by (Ok tt) true e f) ∙ (number_0 (closest_found s t) (visits (searched s t))).0))
      go (Ok tt) false e f = (rw (answered_by (Ok tt) false e f) refl, left_by_lem (Ok tt) false e f)
      go (Err x) b e f = (rw (answered_by (Err x) b e f) refl, left_by_lem (Err x) b e f)

  not_turned_down : (reported_closest (closest_of s t)).number ≡ 0 → reported_closest (closest_of s t) ≡ report_of (closest_found s t) (visits (searched s t))
  not_turned_down n = go (query_check s 0 t) (count_right s t) refl refl
    where
      told : (c : Check) (b : Bool) → query_check s 0 t ≡ c → count_right s t ≡ b → (reported_closest (answer c b)).number ≡ 0
      told c b e f = ap (λ (r : ClosestAnswer). (reported_closest r).number) (sym (answered_by c b e f)) ∙ n

      go : (c : Check) (b : Bool) → query_check s 0 t ≡ c → count_right s t ≡ b → reported_closest (closest_of s t) ≡ report_of (closest_found s t) (visits (searched s t))
      go (Ok tt) true e f = ap reported_closest (answered_by (Ok tt) true e f)
      go (Ok tt) false e f = absurd (omega (arith, told (Ok tt) false e f))
      go (Err x) b e f = absurd (omega (arith, refused_number x, told (Err x) b e f))

  -- ---- a sheet and a table that are not refused

  record Judgeable : Type 0 where
    pub accepted : sheet_check s ≡ Ok tt
    pub first : Takes s accepted 0
    pub fine : Fine s accepted t

  judgeable : (reported_closest (closest_of s t)).number ≡ 0 → Judgeable
  judgeable n =
      let r = (call_numbers.queries s 0 t (queried_of s 0 t) (table_queried s 0 t) (defined s 0 t)).none.0 (sym same_numbers.0 ∙ n) in
      let there = r.0.there.free in
      let accepted : sheet_check s ≡ Ok tt = (accepted_iff s).1 there.there.accepted in
      record {
        accepted = accepted;
        first =
            ap₂ ◌&&◌ (lt-ltb 0 (state_count (plan_body s)) there.there.below)
            ((free_exactly_at (plan_body s) (bodies_kept s accepted).plan_kept 0 there.there.below).1 there.none);
        fine = record { long = r.0.there.long; small = r.0.small; counted = r.1 };
      }

  -- ---- by Table 1

  verdict_is : (state : ℕ) → verdict (result_of s state t) ≡ holds_by s t state
  unfolding query
  verdict_is state = refl

  module _ (solved : TableSolved s t) where
    not_below : sheet_check s ≡ Ok tt → state_count (plan_body s) ≤ 0 → ⊥
    not_below accepted h = omega (arith, (bodies_kept s accepted).plan_kept.some_states)

    by_table1 : sheet_check s ≡ Ok tt → ByTable1 s (reported_closest (closest_of s t))
    by_table1 accepted = record {
      refused = (λ n. forth ((solved.refusals 0 (queried_of s 0 t) (table_queried s 0 t) (defined s 0 t)).0 (λ z. n (same_numbers.0 ∙ z))), λ loop z. (solved.refusals 0 (queried_of s 0 t) (table_queried s 0 t) (defined s 0 t)).1 (inr loop) (sym same_numbers.0 ∙ z));
      found = λ n.
          let j = judgeable n in
          subst (RightlyFound s (Verdict s)) (sym (not_turned_down n))
          (rightly_found s t j.accepted j.first j.fine (Verdict s) (meets j) (visits (searched s t)));
    }
      where
        forth : RefusedState s 0 → LoopReachable (successors (plan_body s)) 0
        forth (inl h) = absurd (not_below accepted h)
        forth (inr loop) = loop

        meets : (j : Judgeable) (state : ℕ) → ReachableState s state → (holds_by s t state ≡ true) ↔ Verdict s state
        meets j state r =
            let h = reached_taken s t j.accepted j.first j.fine state r in
            let told = judged_report s j.accepted t j.fine state h in
            let v = solved.verdicts state (queried_of s state t) (table_queried s state t) (defined s state t) (ap (λ (q : QueryReport). q.number) told) in
            let same : (query_report_of s state t).verdict ≡ holds_by s t state = ap (λ (q : QueryReport). q.verdict) told ∙ verdict_is state in
            (λ e. v.0 (same ∙ e), λ w. sym same ∙ v.1 w)

  accepted_audit : (a : Audited) → Audits s t a → (reported_audit a).answer ≡ true → sheet_check s ≡ Ok tt
  accepted_audit a audits yes-said = (accepted_iff s).1 ((audits_correct.answered s t a audits).yes_exactly.0 yes-said).0.bytes.there.accepted

-- ---- of every call

module _ (s t : List ℕ) (r : ClosestAnswer) (u : List ℕ) (f : Finds s t r u) where
  -- what holds of what is defined
  of_call : (P : ClosestReport → List ℕ → Type 0) → P (reported_closest (closest_of s t)) (table_searched s t) → P (reported_closest r) u
  of_call P h = subst₂ P (sym f.1.0) (sym f.1.1) h

  number_is : (reported_closest r).number ≡ (reported_closest (closest_of s t)).number
  number_is = ap (λ (q : ClosestReport). q.number) f.1.0

  call_numbered : (a : Queried) (w : List ℕ) → Queries s 0 t a w
      → ((reported_closest r).number ≡ (reported_query a).number) × ((reported_closest r).place ≡ (reported_query a).place)
  call_numbered a w call =
      let q : reported_query a ≡ query_report_of s 0 t = call.1.0 in (
        number_is ∙ (same_numbers s t).0 ∙ sym (ap (λ (x : QueryReport). x.number) q),
        ap (λ (x : ClosestReport). x.place) f.1.0 ∙ (same_numbers s t).1 ∙ sym (ap (λ (x : QueryReport). x.place) q),
      )

  call_in_order : GivenInOrder s (reported_closest r).number (reported_closest r).place
  call_in_order =
      let q = call_numbered (queried_of s 0 t) (table_queried s 0 t) (defined s 0 t) in
      subst₂ (GivenInOrder s) (sym q.0) (sym q.1) (call_numbers.queries s 0 t (queried_of s 0 t) (table_queried s 0 t) (defined s 0 t)).in_order

  call_not_eleven : (reported_closest r).number ≢ 11
  call_not_eleven e =
      let q = (call_numbers.queries s 0 t (queried_of s 0 t) (table_queried s 0 t) (defined s 0 t)).eleven.0 (sym (same_numbers s t).0 ∙ sym number_is ∙ e) in
      omega (arith, (bodies_kept s ((accepted_iff s).1 q.0)).plan_kept.some_states, q.1)

  call_refused : (reported_closest r).number ≢ 0
      → (reported_closest r ≡ refused_report (reported_closest r).number (reported_closest r).place) × (u ≡ t)
  call_refused n = of_call (λ q w. (q ≡ refused_report q.number q.place) × (w ≡ t)) (turned_down s t (λ z. n (number_is ∙ z)))

  module _ (n : (reported_closest r).number ≡ 0) where
    abbrev none : (reported_closest (closest_of s t)).number ≡ 0
    none = sym number_is ∙ n

    abbrev j : Judgeable s t
    j = judgeable s t none

    call_accepted : ClosestCorrect s t (reported_closest r) u
    call_accepted = of_call (λ q w. ClosestCorrect s t q w) (subst (λ (q : ClosestReport). ClosestCorrect s t q (table_searched s t)) (sym (not_turned_down s t none)) (correct s t j.accepted j.first j.fine))

    call_as_queries : AsQueries s t (reported_closest r) u
    call_as_queries = of_call (λ q w. AsQueries s t q w) (subst (λ (q : ClosestReport). AsQueries s t q (table_searched s t)) (sym (not_turned_down s t none)) (as_queries s t j.accepted j.first j.fine))

  module _ (a : Audited) (audits : Audits s t a) (says_yes : (reported_audit a).answer ≡ true) where
    call_audited : ByTable1 s (reported_closest r)
    call_audited = subst (ByTable1 s) (sym f.1.0) (by_table1 s t (audits_correct.sound s t a audits says_yes) (accepted_audit s t a audits says_yes))

    call_audited_again : (b : Audited) → Audits s u b → (reported_audit b).answer ≡ true
    call_audited_again b again = go (ℕ_discrete (reported_closest r).number 0)
      where
        go : Dec ((reported_closest r).number ≡ 0) → (reported_audit b).answer ≡ true
        go (yes n) = let q = call_as_queries n in ap (λ (x : AuditReport). x.answer) (audits_correct.stays s t q.states a q.answers u b audits says_yes q.calls again)
        go (no n) = ap (λ (x : AuditReport). x.answer) (audits_correct.stays s t [] a [] u b audits says_yes (subst (Calls s t [] []) (sym (call_refused n).1) no-calls) again)

pub closest_correct : SearchesCorrect
closest_correct = record {
  numbers = call_numbered;
  in_order = call_in_order;
  never_eleven = call_not_eleven;
  refused = call_refused;
  accepted = call_accepted;
  as_queries = call_as_queries;
  on_lists = λ s lent c cleared states answers t r u clears number_0 calls f.
      let a : Audited = audited_of s t in
      call_audited s t r u f a (refl, refl)
      (ap (λ (x : AuditReport). x.answer) (audits_correct.calls s lent states c cleared answers t a clears number_0 calls (refl, refl)));
  on_audited = λ s t a r u audits says_yes f. call_audited s t r u f a audits says_yes;
  audited_again = λ s t a r u b audits says_yes f again. call_audited_again s t r u f a audits says_yes b again;
}
