-- P1 to P11 of document 01, "Sheets to try", and a sheet for document 02 (b), shown by computing with the definitions.
use Rattle.std.proofs.Common.{◌≡◌, ℕ, zero, suc, ◌^◌, ◌<◌, true, false, List, [], ◌∷◌, replicate, sym, refl, ◌∙◌, subst, arith}
use mathlib.Core.Bool.{false≢true}
use native.Mathlib.Decide.{dec_lt}
use Rattle.sheet.specs.Bytes.{lowest_from}
use Rattle.sheet.specs.Contents.{heading_right, contents_right, entry_is, plan_body, actions_body, rule_body}
use Rattle.sheet.specs.Plan.{state_count, plan_sized, transition_faulty}
use Rattle.sheet.specs.Actions.{actions_sized, entry_faulty, entry_right}
use Rattle.sheet.specs.Rule.{rule_sized, extent, binders_before, binder_node, end_within, binding_faulty}
use Rattle.sheet.specs.Reading.{plan_check, actions_check, rule_check, bodies_check, sheet_check}
use Rattle.sheet.specs.Writing.{sheet_of}
use Rattle.std.specs.Prelude.{Ok}
use Rattle.sheet.proofs.Acceptance.Sheet.{accepted_iff}
use Rattle.sheet.specs.TransitionSystem.{transitions_from, plan_of}
use Rattle.calculus.specs.Decode.{action_within, formula_within, formula}
use Rattle.calculus.specs.Meaning.{meets}
use Rattle.calculus.specs.MeetingMask.{bit}
use Rattle.calculus.specs.Definition2.{guarded_in, guarded}
use Rattle.calculus.specs.Verdict.{empty_context, Verdict}
use Rattle.calculus.specs.Eval.{eval, rounds, tabulate, values_below, any_transition, departs}
use Rattle.calculus.proofs.Definition2.GuardCalls.{guard_exactly}
use Rattle.calculus.proofs.Masks.Bits.{bit_high}
use Rattle.calculus.proofs.Table1.Verdicts.{verdict_below, verdict_decided}
use Rattle.rows.specs.Rows.{joined, looked, value, need}
use Rattle.graph.specs.LoopTest.{all_pass, settled}
use Rattle.rows.specs.Tables.{count, rewritten, among, changed, fills, filling, query}
use Rattle.graph.specs.Successors.{targets}
use Rattle.judge.specs.Cells.{following, rows, table_bytes}
use Rattle.judge.specs.Querying.{bytes_right, query_check, count_right, queried_of, table_queried, QueryReport, reported_query}
use Rattle.judge.specs.Lists.{reports}
use Rattle.judge.specs.Demand3.{ListCorrect}
use Rattle.calculus.specs.KeySheet.{K}
use Rattle.judge.specs.SheetsToTry.{K_greatest, least_self, greatest_self, every_false, some_true, least_loop, greatest_loop, loops_elsewhere, judged, refused_by, Asked, AskedAnywhere, WordMeans, SheetsToTry}
use Rattle.judge.proofs.Lists.Called.{cleared_report}
use Rattle.judge.proofs.Statements.RunningCalls.{delivered}
use Rattle.judge.proofs.Lists.LongerTables.{reports_cleared}

-- on the cleared bytes alone: what is past them is not looked at
asked : (s : List ℕ) (states : List ℕ) (answers : List QueryReport) → sheet_check s ≡ Ok tt → reports s (replicate (table_bytes s) 0) states ≡ answers → Asked s (table_bytes s) states answers
asked s states answers accepted e = record {
  accepted = accepted;
  table_size_holds = refl;
  report = λ t fits r u reported left c q.
      let same : reported ≡ answers = cleared_report s t states r u reported left c q ∙ reports_cleared s accepted states t fits ∙ e in
      (same, subst (λ (x : List QueryReport). ListCorrect s t states x left) same (delivered.lists s t states r u reported left c (delivered.clears s t r u c accepted fits) q));
}

anywhere : (s : List ℕ) (answer : QueryReport) → ((t : List ℕ) → reported_query (queried_of s 0 t) ≡ answer) → AskedAnywhere s answer
anywhere s answer e t r u q = q.1.0 ∙ e t

-- Table 1's verdict, where the evaluator gives it
holds : (s : List ℕ) (state : ℕ) → sheet_check s ≡ Ok tt → state < state_count (plan_body s) → eval (plan_of (plan_body s)) (formula (actions_body s) (rule_body s) 0) empty_context state ≡ true → Verdict s state
holds s state accepted h e = (verdict_decided ((accepted_iff s).0 accepted) state h).1 e

fails : (s : List ℕ) (state : ℕ) → sheet_check s ≡ Ok tt → state < state_count (plan_body s) → eval (plan_of (plan_body s)) (formula (actions_body s) (rule_body s) 0) empty_context state ≡ false → Verdict s state → ⊥
fails s state accepted h e v = false≢true (sym e ∙ (verdict_decided ((accepted_iff s).0 accepted) state h).0 v)

-- where the evaluator says the same of every state
word : (s : List ℕ) (w : ℕ) → sheet_check s ≡ Ok tt → w < 2 ^ state_count (plan_body s)
    → ((state : ℕ) → state < state_count (plan_body s) → eval (plan_of (plan_body s)) (formula (actions_body s) (rule_body s) 0) empty_context state ≡ bit w state) → WordMeans s w
word s w accepted small same = record {
  bits = λ state. (
    λ b. elim (dec_lt state (state_count (plan_body s))) [
      | yes h ↦ (verdict_decided ((accepted_iff s).0 accepted) state h).1 (same state h ∙ b)
      | no h ↦ absurd (false≢true (sym (bit_high w (state_count (plan_body s)) state small (omega arith)) ∙ b))
    ],
    λ v. let h = verdict_below s state v in sym (same state h) ∙ (verdict_decided ((accepted_iff s).0 accepted) state h).0 v,
  );
}

pub sheets_to_try : SheetsToTry
unfolding bit sheet_of sheet_check heading_right contents_right entry_is bodies_check plan_check plan_sized lowest_from transition_faulty actions_check actions_sized entry_faulty entry_right rule_check rule_sized extent binders_before binder_node end_within binding_faulty transitions_from action_within formula_within meets guarded guarded_in eval rounds tabulate values_below any_transition departs joined looked value need all_pass settled count rewritten among changed fills filling query following rows targets bytes_right query_check count_right queried_of table_queried reports
sheets_to_try = record {
  key_length = refl;
  p1 = asked K (0 ∷ []) (judged true 17 ∷ []) refl refl;
  p1_table1 = holds K 0 refl (omega arith) refl;
  p2 = asked K (0 ∷ 1 ∷ []) (judged true 17 ∷ judged true 0 ∷ []) refl refl;
  p2_table1 = holds K 1 refl (omega arith) refl;
  p3 = asked K (0 ∷ 1 ∷ 2 ∷ []) (judged true 17 ∷ judged true 0 ∷ judged false 9 ∷ []) refl refl;
  p3_table1 = fails K 2 refl (omega arith) refl;
  p4 = asked K_greatest (2 ∷ []) (judged true 8 ∷ []) refl refl;
  p4_table1 = holds K_greatest 2 refl (omega arith) refl;
  p5 = word K 3 refl (omega arith) of_three;
  p6 = refl;
  p6_call = λ r g. (guard_exactly K r g).answered refl;
  p7 = asked least_self (0 ∷ []) (judged false 2 ∷ []) refl refl;
  p7_table1 = fails least_self 0 refl (omega arith) refl;
  p8 = asked greatest_self (0 ∷ []) (judged true 2 ∷ []) refl refl;
  p8_table1 = holds greatest_self 0 refl (omega arith) refl;
  p9 = asked every_false (2 ∷ []) (judged true 1 ∷ []) refl refl;
  p9_table1 = holds every_false 2 refl (omega arith) refl;
  p10 = asked some_true (2 ∷ []) (judged false 1 ∷ []) refl refl;
  p10_table1 = fails some_true 2 refl (omega arith) refl;
  p11_least = word least_loop 0 refl (omega arith) none;
  p11_greatest = word greatest_loop 1 refl (omega arith) one;
  p11_query = anywhere least_loop (refused_by 12) (λ t. refl);
  p11_query_greatest = anywhere greatest_loop (refused_by 12) (λ t. refl);
  b_loops = asked loops_elsewhere (0 ∷ 1 ∷ 2 ∷ 3 ∷ 4 ∷ 1 ∷ 5 ∷ []) (refused_by 12 ∷ judged false 2 ∷ refused_by 12 ∷ refused_by 12 ∷ judged true 1 ∷ judged false 0 ∷ refused_by 11 ∷ []) refl refl;
  b_one_table1 = fails loops_elsewhere 1 refl (omega arith) refl;
  b_four_table1 = holds loops_elsewhere 4 refl (omega arith) refl;
}
  where
    of_three : (state : ℕ) → state < 3 → eval (plan_of (plan_body K)) (formula (actions_body K) (rule_body K) 0) empty_context state ≡ bit 3 state
    of_three zero h = refl
    of_three (suc zero) h = refl
    of_three (suc (suc zero)) h = refl
    of_three (suc (suc (suc state))) h = absurd (omega arith)

    none : (state : ℕ) → state < 1 → eval (plan_of (plan_body least_loop)) (formula (actions_body least_loop) (rule_body least_loop) 0) empty_context state ≡ bit 0 state
    none zero h = refl
    none (suc state) h = absurd (omega arith)

    one : (state : ℕ) → state < 1 → eval (plan_of (plan_body greatest_loop)) (formula (actions_body greatest_loop) (rule_body greatest_loop) 0) empty_context state ≡ bit 1 state
    one zero h = refl
    one (suc state) h = absurd (omega arith)
