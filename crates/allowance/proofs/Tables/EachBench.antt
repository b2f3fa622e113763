-- What the call gives of one bench, by the judge's promises of its query.
use Prim.Native.Nat.{ℕ, ◌<◌, ◌≤◌}
use mathlib.Core.Path.{◌≡◌, refl, sym, ap, ◌∙◌}
use mathlib.Core.Bool.{Bool, true, false, ◌&&◌, true≢false}
use mathlib.Core.List.{List, [], ◌∷◌, ◌++◌}
use mathlib.Core.Logic.{◌↔◌}
use native.Mathlib.Omega.{arith}
use lib.Dec.{ltb}
use borrow.Author.Tests.{ltb-true, ltb-false}
use Rattle.sheet.specs.Bytes.{pick}
use Rattle.rows.specs.Tables.{byte_at, empty, filled, count}
use Rattle.calculus.specs.Verdict.{Verdict}
use Rattle.judge.specs.Cells.{cell_bytes}
use Rattle.judge.specs.Querying.{QueryReport, reported_query, queried_of, table_queried, query_report_of, Queries}
use Rattle.judge.specs.Lists.{Calls, none, call}
use Rattle.judge.specs.Auditing.{AuditReport, audited_of, reported_audit, Audits}
use Rattle.judge.specs.Auditing.{Audited}
use Rattle.judge.specs.Querying.{Queried}
use Rattle.judge.proofs.Statements.QueryCorrect.{queries_correct}
use Rattle.judge.proofs.Statements.AuditCorrect.{audits_correct}
use Rattle.allowance.specs.Granting.{queried_bench, short_bench}
use Rattle.allowance.specs.GrantsCorrect.{LeftByQueries, BenchRight}
use Rattle.allowance.specs.declared.Bench.{Bench}

-- one more query after a list of them
call_after : {s t u w states : List ℕ} {answers : List QueryReport} (state : ℕ) (r : Queried) → Calls s t states answers u
    → Queries s state u r w → Calls s t (states ++ (state ∷ [])) (answers ++ (reported_query r ∷ [])) w
call_after state r none q = call r q none
call_after state r (call r' q' rest) q = call r' q' (call_after state r rest q)

module _ (s : List ℕ) (state : ℕ) (before : List ℕ) where
  abbrev queried : Queried
  queried = queried_of s state before

  abbrev left : List ℕ
  left = table_queried s state before

  own_call : Queries s state before queried left
  own_call = (refl, (refl, refl))

  again_left : LeftByQueries s before → LeftByQueries s left
  again_left l = record {
    lent = l.lent;
    answer = l.answer;
    cleared = l.cleared;
    clears = l.clears;
    number_0 = l.number_0;
    states = l.states ++ (state ∷ []);
    answers = l.answers ++ (reported_query queried ∷ []);
    calls = call_after state queried l.calls own_call;
  }

  module _ (taken : (query_report_of s state before).number ≡ 0) where
    -- a table to which the audit says yes: Table 1's verdict
    audited_verdict : (a : Audited) → Audits s before a → (reported_audit a).answer ≡ true
        → ((query_report_of s state before).verdict ≡ true) ↔ Verdict s state
    audited_verdict a k y = (audits_correct.sound s before a k y).verdicts state queried left own_call taken

    left_verdict : LeftByQueries s before → ((query_report_of s state before).verdict ≡ true) ↔ Verdict s state
    left_verdict l =
        audited_verdict (audited_of s before) (refl, refl)
        (ap (λ (x : AuditReport). x.answer)
        (audits_correct.calls s l.lent l.states l.answer l.cleared l.answers before (audited_of s before) l.clears
        l.number_0 l.calls (refl, refl)))

    module _ (grant : ℕ) where
      abbrev need : ℕ
      need = (query_report_of s state before).visits

      abbrev result_by : Bool → Bench
      result_by short = pick short (short_bench need grant) (queried_bench need grant (query_report_of s state before))

      abbrev table_by : Bool → List ℕ
      table_by short = pick short before left

      visits_same : (q : Queried) (w : List ℕ) → Queries s state before q w → need ≡ (reported_query q).visits
      visits_same q w k = sym (ap (λ (x : QueryReport). x.visits) k.1.0)

      number_same : (q : Queried) (w : List ℕ) → Queries s state before q w → (reported_query q).number ≡ 0
      number_same q w k = ap (λ (x : QueryReport). x.number) k.1.0 ∙ taken

      cells_counted : (q : Queried) (w : List ℕ) → Queries s state before q w
          → need ≡ count (cell_bytes s) (λ i. empty (byte_at before i) && filled (byte_at w i))
      cells_counted q w k = visits_same q w k ∙ (queries_correct.judged s state before q w k (number_same q w k)).visits_are

      pub bench_right : grant ≤ need → (short : Bool) → ltb grant need ≡ short
          → BenchRight s state before (table_by short) need grant (result_by short)
      bench_right most true e =
          let less : grant < need = ltb-true grant need e in
          record {
            need_is = refl;
            grant_is = refl;
            need_cells = cells_counted;
            need_visits = visits_same;
            short_exactly = (λ z. less, λ z. refl);
            whole_exactly = (λ z. absurd (true≢false z), λ z. absurd (omega arith));
            queries = λ z. absurd (true≢false z);
            stays = λ z. (refl, (refl, refl));
            verdict_is = λ l z. absurd (true≢false z);
            again = λ l. l;
            audited = λ a k y z. absurd (true≢false z);
            audited_again = λ a k y c m. ap (λ (x : Audited). (reported_audit x).answer) (m.0 ∙ sym k.0) ∙ y;
          }
      bench_right most false e =
          let whole : grant ≡ need = omega (arith, ltb-false grant need e) in
          record {
            need_is = refl;
            grant_is = refl;
            need_cells = cells_counted;
            need_visits = visits_same;
            short_exactly = (λ z. absurd (true≢false (sym z)), λ z. absurd (omega arith));
            whole_exactly = (λ z. whole, λ z. refl);
            queries = λ z q w k.
                (sym (ap (λ (x : QueryReport). x.verdict) k.1.0), (visits_same q w k, sym k.1.1));
            stays = λ z. absurd (true≢false (sym z));
            verdict_is = λ l z. left_verdict l;
            again = again_left;
            audited = λ a k y z. audited_verdict a k y;
            audited_again = λ a k y c m. ap (λ (x : AuditReport). x.answer)
                (audits_correct.stays s before (state ∷ []) a (reported_query queried ∷ []) left c k y (call queried own_call none) m);
          }
