-- Document 01's sheets P5 and P11: what the reference judge reports, computed. The statement is ReferenceOfSheets of specs/SheetsToTry.antt.
use Prim.Native.Nat.{ℕ}
use mathlib.Core.Path.{◌≡◌, refl, ◌∙◌}
use mathlib.Core.List.{List}
use Rattle.sheet.specs.Bytes.{lowest_from}
use Rattle.sheet.specs.Contents.{heading_right, entry_is, contents_right}
use Rattle.sheet.specs.Plan.{plan_sized, transition_faulty}
use Rattle.sheet.specs.Actions.{actions_sized, entry_right, entry_faulty}
use Rattle.sheet.specs.Rule.{rule_sized, extent, binders_before, binder_node, end_within, binding_faulty}
use Rattle.sheet.specs.Reading.{plan_check, actions_check, rule_check, bodies_check, sheet_check}
use Rattle.sheet.specs.TransitionSystem.{transitions_from}
use Rattle.sheet.specs.Writing.{sheet_of}
use Rattle.calculus.specs.Meaning.{meets}
use Rattle.calculus.specs.Decode.{action_within, formula_within}
use Rattle.calculus.specs.Eval.{eval, rounds, tabulate, values_below, any_transition, departs}
use Rattle.calculus.specs.KeySheet.{K, looped}
use Rattle.reference.specs.Reference.{in_meaning, word_up_to, meaning_word, reference_of, reference_report_of}
use Rattle.reference.specs.SheetsToTry.{Gives, ReferenceOfSheets}

gives : (s : List ℕ) (word : ℕ) → reference_report_of s ≡ record { number = 0; place = 0; word = word } → Gives s word
gives s word e r c = c.1 ∙ e

pub sheets_reported : ReferenceOfSheets
unfolding sheet_of reference_of meaning_word in_meaning word_up_to eval rounds tabulate values_below any_transition departs meets transitions_from formula_within action_within sheet_check bodies_check plan_check actions_check rule_check heading_right contents_right entry_is plan_sized transition_faulty lowest_from actions_sized entry_faulty entry_right rule_sized extent binding_faulty binders_before binder_node end_within
sheets_reported = record { p5 = gives K 3 refl; p11_least = gives (looped 7) 0 refl; p11_greatest = gives (looped 8) 1 refl }
