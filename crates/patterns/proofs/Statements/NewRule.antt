-- The sheet with the translated rule in place of its own: it is accepted, and the rule holds where the sentence about runs does.
use Prim.Native.Nat.{ℕ, ◌<◌}
use mathlib.Core.Path.{◌≡◌, sym, ap, subst, subst₃, ◌∙◌}
use mathlib.Core.Bool.{Bool}
use mathlib.Core.List.{List}
use mathlib.Core.Logic.Iff
use mathlib.Core.Logic.{◌↔◌}
use Rattle.sheet.specs.Contents.{plan_body, actions_body, rule_body}
use Rattle.sheet.specs.Plan.{state_count}
use Rattle.sheet.specs.Actions.{entry_count}
use Rattle.sheet.specs.Reading.{bodies_of}
use Rattle.sheet.specs.Writing.{sheet_of}
use Rattle.sheet.specs.WellFormed.{WellFormedRule, WellFormedBodies, WellFormedSheet}
use Rattle.sheet.specs.RoundTrip.{bytes_of, spans_of}
use Rattle.sheet.specs.TransitionSystem.{TransitionsInRange, plan_of}
use Rattle.sheet.specs.declared.Bodies.{Bodies}
use Rattle.sheet.proofs.Acceptance.Sheet.{bodies_iff, accepted_iff}
use Rattle.sheet.proofs.Acceptance.Calls.{was_accepted}
use Rattle.sheet.proofs.Roundtrip.RoundTrip.{written_accepted, written_answer, plan_there, actions_there, rule_there}
use Rattle.calculus.specs.Formulas.{Formula}
use Rattle.calculus.specs.Meaning.{Holds}
use Rattle.calculus.specs.Decode.{formula}
use Rattle.calculus.specs.Trees.{encode, tree_of, formula_of}
use Rattle.calculus.specs.Verdict.{empty_context, Verdict}
use Rattle.calculus.proofs.Table1.Verdicts.{verdict_holds, sheet_in_range}
use Rattle.calculus.proofs.Trees.TreeOf.{formula_closed, trees_exactly}
use Rattle.patterns.specs.Patterns.{Pattern}
use Rattle.patterns.specs.Runs.{Sentence}
use Rattle.patterns.specs.Translating.{tree_for}
use Rattle.patterns.specs.TranslationCorrect.{Says, Fits, with_rule, MeansSentence}
use Rattle.patterns.proofs.Translation.WellFormed.{translation_well_formed}
use Rattle.patterns.proofs.Meaning.Sentences.{sentence_map}
use Rattle.patterns.proofs.Meaning.Meaning.{translation_means}

-- the sheet that three bodies make is accepted, and its bodies are these
module _ {p a r : List ℕ} (k : WellFormedBodies p a r) where
  placed : spans_of p a r ≡ bodies_of (sheet_of p a r)
  placed = (was_accepted (sheet_of p a r) (spans_of p a r) (sym (written_answer p a r ((bodies_iff p a r).1 k)))).1

  made_accepted : WellFormedSheet (sheet_of p a r)
  made_accepted = (accepted_iff (sheet_of p a r)).0 (written_accepted p a r ((bodies_iff p a r).1 k))

  made_plan : plan_body (sheet_of p a r) ≡ p
  made_plan = ap (λ (b : Bodies). bytes_of (sheet_of p a r) b.plan) (sym placed) ∙ plan_there p a r

  made_actions : actions_body (sheet_of p a r) ≡ a
  made_actions = ap (λ (b : Bodies). bytes_of (sheet_of p a r) b.actions) (sym placed) ∙ actions_there p a r

  made_rule : rule_body (sheet_of p a r) ≡ r
  made_rule = ap (λ (b : Bodies). bytes_of (sheet_of p a r) b.rule) (sym placed) ∙ rule_there p a r

module _ {s p : List ℕ} {every : Bool} {R : Pattern} (h : Says s p every R) (f : Fits s every R) where
  kept : WellFormedRule (entry_count (actions_body s)) (rule_body s)
  kept = h.accepted.bodies_kept.rule_kept

  bodies : WellFormedBodies (plan_body s) (actions_body s) (encode (tree_for s every R))
  bodies = record {
    plan_kept = h.accepted.bodies_kept.plan_kept;
    actions_kept = h.accepted.bodies_kept.actions_kept;
    rule_kept = translation_well_formed every kept R h.entries_below f.few_nodes f.few_binders;
  }

  in_range_lem : TransitionsInRange (plan_of (plan_body s))
  in_range_lem = sheet_in_range h.accepted

  -- where a run ends, the tree of the sheet's rule says what the rule does
  ends_alike : (u : ℕ) → u < state_count (plan_body s)
      → Holds (plan_of (plan_body s)) (formula_of (actions_body s) (tree_of (rule_body s))) empty_context u ↔ Verdict s u
  ends_alike u l =
      subst (λ (φ : Formula). Holds (plan_of (plan_body s)) φ empty_context u ↔ Verdict s u)
      (sym ((trees_exactly.of_rules (entry_count (actions_body s)) (rule_body s) kept).decoded (actions_body s))) (verdict_holds s u l)

  abbrev Said : ℕ → Type 0
  Said = Sentence every (plan_of (plan_body s)) (actions_body s) R (Verdict s)

  -- the bytes of the translated tree hold where the sentence does
  bytes_mean : (state : ℕ) → state < state_count (plan_body s)
      → Holds (plan_of (plan_body s)) (formula (actions_body s) (encode (tree_for s every R)) 0) empty_context state ↔ Said state
  bytes_mean state l =
      subst (λ (φ : Formula). Holds (plan_of (plan_body s)) φ empty_context state ↔ Said state)
      (sym ((trees_exactly.of_trees (tree_for s every R) f.few_nodes).decoded (actions_body s)))
      (Iff.trans (translation_means in_range_lem (actions_body s) every R (tree_of (rule_body s)) (formula_closed kept (actions_body s)) state l) (
        sentence_map in_range_lem (actions_body s) every R (λ u i. (ends_alike u i).0) state l,
        sentence_map in_range_lem (actions_body s) every R (λ u i. (ends_alike u i).1) state l,
      ))

  new_sheet_means : (state : ℕ) → state < state_count (plan_body s) → Verdict (with_rule s (encode (tree_for s every R))) state ↔ Said state
  new_sheet_means state l =
      Iff.trans
      (Iff.symm (verdict_holds (with_rule s (encode (tree_for s every R))) state
      (subst (λ (x : List ℕ). state < state_count x) (sym (made_plan bodies)) l)))
      (subst₃ (λ (x y z : List ℕ). Holds (plan_of x) (formula y z 0) empty_context state ↔ Said state)
      (sym (made_plan bodies)) (sym (made_actions bodies)) (sym (made_rule bodies)) (bytes_mean state l))

  pub means_sentence : MeansSentence s every R (encode (tree_for s every R))
  means_sentence = record {
    accepted = made_accepted bodies;
    plan_same = made_plan bodies;
    actions_same = made_actions bodies;
    rule_is = made_rule bodies;
    holds = new_sheet_means;
  }
