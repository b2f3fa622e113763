-- Searches to try, shown by computing with the definitions.
use mathlib.Core.Path.{◌≡◌, refl, ◌∙◌}
use mathlib.Core.List.{List}
use Prim.Native.Nat.{ℕ}
use lib.ListN.{replicate}
use Rattle.sheet.specs.Bytes.{lowest_from}
use Rattle.sheet.specs.Contents.{heading_right, contents_right, entry_is}
use Rattle.sheet.specs.Plan.{plan_sized, transition_faulty}
use Rattle.sheet.specs.Actions.{actions_sized, entry_faulty, entry_right}
use Rattle.sheet.specs.Rule.{rule_sized, extent, binders_before, binder_node, end_within, binding_faulty}
use Rattle.sheet.specs.Reading.{plan_check, actions_check, rule_check, bodies_check, sheet_check}
use Rattle.sheet.specs.Writing.{sheet_of}
use Rattle.sheet.specs.TransitionSystem.{transitions_from}
use Rattle.calculus.specs.Decode.{action_within}
use Rattle.calculus.specs.Meaning.{meets}
use Rattle.calculus.specs.Eval.{any_transition}
use Rattle.rows.specs.Rows.{joined, looked, value, need}
use Rattle.rows.specs.Tables.{count, rewritten, among, changed, fills, filling}
use Rattle.graph.specs.LoopTest.{all_pass, settled}
use Rattle.graph.specs.Successors.{targets}
use Rattle.judge.specs.Cells.{following, rows, table_bytes}
use Rattle.judge.specs.Querying.{bytes_right, query_check, count_right}
use Rattle.closest.specs.Steps.{within, at_steps, passing, layers_from}
use Rattle.closest.specs.Finding.{first_failing, closest_of, ClosestReport, closest_report_of}
use Rattle.closest.specs.ClosestToTry.{Reports, ClosestToTry}

reports : (s : List ℕ) (q : ClosestReport) → closest_report_of s (replicate (table_bytes s) 0) ≡ q → Reports s q
reports s q e r u f = f.1.0 ∙ e

pub closest_to_try : ClosestToTry
unfolding sheet_of sheet_check heading_right contents_right entry_is bodies_check plan_check plan_sized lowest_from transition_faulty actions_check actions_sized entry_faulty entry_right rule_check rule_sized extent binders_before binder_node end_within binding_faulty transitions_from action_within meets any_transition joined looked value need all_pass settled count rewritten among changed fills filling following rows targets bytes_right query_check count_right within at_steps passing layers_from first_failing closest_of
closest_to_try = record {
  key = reports _ _ refl;
  at_once = reports _ _ refl;
  at_the_end = reports _ _ refl;
  everywhere = reports _ _ refl;
  nearer = reports _ _ refl;
  between_equals = reports _ _ refl;
  elsewhere = reports _ _ refl;
  loop = reports _ _ refl;
}
