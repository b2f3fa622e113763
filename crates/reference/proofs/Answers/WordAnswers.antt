-- The public call: what it asks of the evaluator, and what it makes of the evaluator's answer.
use Prim.Native.Nat.{ℕ, zero, suc, ◌-◌, ◌^◌, ◌<◌, ◌≤◌}
use mathlib.Core.Path.{◌≡◌, refl, sym, ap, subst, ◌∙◌}
use mathlib.Core.List.{List}
use mathlib.Core.Bool.{false≢true}
use mathlib.Core.Logic.Iff
use mathlib.Core.Logic.{◌⊎◌, inl, inr}
use native.Mathlib.Omega.{arith}
use lib.ListN.{get_or, replicate, length-replicate}
use lib.Pow.{pow_pos, ones_lt}
use Rattle.sheet.specs.Contents.{plan_body, actions_body, rule_body}
use Rattle.sheet.specs.Plan.{state_count, action_count}
use Rattle.sheet.specs.Rule.{node_count, node_kind, node_x}
use Rattle.sheet.specs.Reading.{sheet_check}
use Rattle.std.specs.Prelude.{Result, Err, Ok}
use Rattle.sheet.specs.declared.Refusal.{Refusal}
use Rattle.sheet.specs.declared.Refusal.TheVariants.{TooManyStates}
use Rattle.sheet.specs.WellFormed.{WellFormedSheet}
use Rattle.sheet.proofs.Acceptance.Parts.{sheet_kept}
use Rattle.calculus.specs.MeetingMask.{bit}
use Rattle.calculus.proofs.Table1.Verdicts.{verdict_context, verdict_decided}
use Rattle.reference.specs.Reference.{in_meaning, meaning_word, reference_of, reported_reference, References}
use Rattle.reference.specs.Internal.Evaluating.{ActionMasks, SixSets, context_of, Restartable, Restarted, Ready, Evaluating, Evaluated}
use Rattle.reference.proofs.Words.Words.{bit_zero, bit_ones}
use Rattle.reference.proofs.Words.Members.{members_word}
use Rattle.reference.proofs.Evaluation.Contexts.{bound_six, bound_one, restartable}
use Rattle.reference.proofs.Answers.Demand2.{promised_refused, promised_large, promised_word}

zeros : (n X : ℕ) → get_or (replicate {A = ℕ} n 0) X 0 ≡ 0
zeros zero X = refl
zeros (suc n) zero = refl
zeros (suc n) (suc X) = zeros n X

-- The context that fixed points begin with: the empty set for a least, the full set for a greatest.
module _ {s : List ℕ} (kept : WellFormedSheet s) (r : List ℕ) (rule : r ≡ rule_body s) (full : ℕ) (is : full ≡ 2 ^ state_count (plan_body s) - 1)
    (words : List ℕ) (re : Restarted r 0 (node_count r) 8 full (replicate 6 0) words) where
  begun : Restarted (rule_body s) 0 (node_count (rule_body s)) 8 full (replicate 6 0) words
  begun = subst (λ (x : List ℕ). Restarted x 0 (node_count x) 8 full (replicate 6 0) words) rule re

  each : (k : ℕ) → (get_or words k 0 ≡ full) ⊎ (get_or words k 0 ≡ 0)
  each k = go (begun.each k)
    where
      go : (get_or words k 0 ≡ full) ⊎ (get_or words k 0 ≡ get_or (replicate {A = ℕ} 6 0) k 0) → (get_or words k 0 ≡ full) ⊎ (get_or words k 0 ≡ 0)
      go (inl a) = inl a
      go (inr a) = inr (a ∙ zeros 6 k)

  first_sets : SixSets (state_count (plan_body s)) words
  first_sets = record { six = begun.sized ∙ length-replicate {A = ℕ} 6 0; below = λ k. go k (each k) }
    where
      go : (k : ℕ) → (get_or words k 0 ≡ full) ⊎ (get_or words k 0 ≡ 0) → get_or words k 0 < 2 ^ state_count (plan_body s)
      go k (inl q) = omega (arith, ones_lt (state_count (plan_body s)))
      go k (inr q) = omega (arith, pow_pos (state_count (plan_body s)))

  first_ready : Ready s 0 words
  first_ready = record {
    inside = λ b c l e t i q.
        let apart = begun.same (node_x (rule_body s) b) (λ d a k g x.
        omega (arith, ap (node_kind (rule_body s)) (bound_one kept d b k l (omega arith) (omega arith) (omega arith) (omega arith) x))) in
        absurd (false≢true (sym (bit_zero t) ∙ (sym (ap (λ (z : ℕ). bit z t) (apart ∙ zeros 6 (node_x (rule_body s) b))) ∙ q)));
    around = λ b c l e t i q. ap (λ (z : ℕ). bit z t) (begun.anew b (omega arith) l e (omega (arith, length-replicate {A = ℕ} 6 0, bound_six kept b l (omega arith) (omega arith))) ∙ is) ∙ bit_ones (state_count (plan_body s)) t i;
  }

module _ (s : List ℕ) where
  -- the three clauses of the promise, from the first
  promised : {r : Result ℕ Refusal} → r ≡ reference_of s → References s r
  promised q = (q, ap reported_reference q)

  pub answer_refused : (x : Refusal) → sheet_check s ≡ Err x → References s (Err x)
  answer_refused x e = promised (promised_refused s x e)

  pub start_asked : sheet_check s ≡ Ok tt → (r : List ℕ) → r ≡ rule_body s → Restartable r 0 8
  start_asked e r rule = restartable (sheet_kept s e) rule 0 8 (sheet_kept s e).bodies_kept.rule_kept.some_nodes (omega arith) (omega arith)

  module _ (e : sheet_check s ≡ Ok tt) (p : List ℕ) (plan : p ≡ plan_body s) (count : ℕ) (states : count ≡ state_count p) where
    count_is : count ≡ state_count (plan_body s)
    count_is = states ∙ ap state_count plan

    pub answer_large : 64 < count → References s (Err TooManyStates)
    answer_large h = promised (promised_large s e (omega (arith, count_is)))

    -- a judge can be made of the sheet
    pub judge_few : count ≤ 64 → state_count (plan_body s) ≤ 64
    judge_few few = omega (arith, count_is)

    pub judge_met : (a : List ℕ) → a ≡ actions_body s → (A : ℕ) → A ≡ action_count p → (masks : List ℕ) → ActionMasks a A masks
        → ActionMasks (actions_body s) (action_count (plan_body s)) masks
    judge_met a actions A labels masks met =
        subst (λ (b : List ℕ). ActionMasks b (action_count (plan_body s)) masks) actions (subst (λ (k : ℕ). ActionMasks a k masks) (labels ∙ ap action_count plan) met)

    pub judge_whole : (full : ℕ) → full ≡ 2 ^ count - 1 → full ≡ 2 ^ state_count (plan_body s) - 1
    judge_whole full q = q ∙ ap (λ (i : ℕ). 2 ^ i - 1) count_is

    module _ (few : count ≤ 64) (r : List ℕ) (rule : r ≡ rule_body s) (full : ℕ) (all : full ≡ 2 ^ count - 1)
        (none : List ℕ) (empty : none ≡ replicate 6 0) (words : List ℕ) (re' : Restarted r 0 (node_count r) 8 full none words) where
      re : Restarted r 0 (node_count r) 8 full (replicate 6 0) words
      re = subst (λ (o : List ℕ). Restarted r 0 (node_count r) 8 full o words) empty re'

      kept : WellFormedSheet s
      kept = sheet_kept s e

      pub start : Evaluating s 0 words
      start = record {
        among = kept.bodies_kept.rule_kept.some_nodes;
        sets = first_sets kept r rule full (judge_whole full all) words re;
        ready = first_ready kept r rule full (judge_whole full all) words re;
      }

      pub answer_word_lem : (words' : List ℕ) (w : ℕ) → Evaluated s 0 words words' w → References s (Ok w)
      unfolding meaning_word in_meaning
      answer_word_lem words' w m = promised (ap Ok is ∙ promised_word s e (omega (arith, count_is)))
        where
          is : w ≡ meaning_word s
          is = members_word (in_meaning s) m.are (λ t l. Iff.trans (verdict_context kept (context_of words) t l) (verdict_decided kept t l))
