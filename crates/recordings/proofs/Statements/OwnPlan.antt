-- The sheet's own plan does not matter.
use Prim.Native.Nat.{ℕ, suc}
use mathlib.Core.Path.{◌≡◌, sym, ap, ◌∙◌}
use mathlib.Core.Bool.{not, ◌&&◌, ◌||◌}
use mathlib.Core.List.{List}
use lib.ListN.{length, take}
use lib.Dec.{leb}
use Rattle.sheet.specs.Bytes.{lowest}
use Rattle.sheet.specs.Contents.{plan_body, actions_body, rule_body}
use Rattle.sheet.specs.Plan.{action_count}
use Rattle.sheet.specs.Reading.{sheet_check}
use Rattle.sheet.specs.WellFormed.{WellFormedSheet}
use Rattle.sheet.proofs.Acceptance.Sheet.{accepted_iff}
use Rattle.calculus.specs.Decode.{formula}
use Rattle.calculus.specs.Eval.{eval}
use Rattle.calculus.specs.Verdict.{empty_context}
use Rattle.recordings.specs.Runs.{chain, most_actions}
use Rattle.recordings.specs.Shortest.{holds_on, fails_at, runs_short, actions_below, fewest, answer_fewest, answer_runs, answer_sheet, shortest_of}
use Rattle.recordings.specs.Shortest.{part_for, reported_shortest}
use Rattle.recordings.specs.RecordingsCorrect.{OwnPlanUnused}

module _ (s t : List ℕ) (k : WellFormedSheet s) (l : WellFormedSheet t) (A : action_count (plan_body s) ≡ action_count (plan_body t))
    (a : actions_body s ≡ actions_body t) (r : rule_body s ≡ rule_body t) where
  same_holds : (run : List ℕ) → holds_on s run ≡ holds_on t run
  unfolding holds_on
  same_holds run = λ i. eval (chain (A i) run) (formula (a i) (r i) 0) empty_context 0

  same_fails : (recording : List ℕ) (n : ℕ) → fails_at s recording n ≡ fails_at t recording n
  unfolding fails_at
  same_fails recording n = λ i. leb n (length recording) && not (same_holds (take n recording) i)

  module _ (first second : List ℕ) where
    same_fewest : fewest s first second ≡ fewest t first second
    unfolding fewest
    same_fewest = λ i. lowest (λ n. same_fails first n i || same_fails second n i) (suc most_actions)

    same_first : fails_at s first (fewest s first second) ≡ fails_at t first (fewest t first second)
    same_first = λ i. same_fails first (same_fewest i) i

    same_check : sheet_check s ≡ sheet_check t
    same_check = (accepted_iff s).1 k ∙ sym ((accepted_iff t).1 l)

    same_answer : shortest_of s first second ≡ shortest_of t first second
    unfolding shortest_of
    same_answer = λ i.
        answer_sheet (same_check i)
        (answer_runs (runs_short first second) (actions_below (A i) first && actions_below (A i) second)
        (answer_fewest (same_fewest i) (same_first i)))

pub own_plan : OwnPlanUnused
own_plan s t k l A a r first second answer part h =
    let same = same_answer s t k l A a r first second in
    (h.0 ∙ same, (h.1.0 ∙ ap reported_shortest same, h.1.1 ∙ ap (part_for first second) same))
