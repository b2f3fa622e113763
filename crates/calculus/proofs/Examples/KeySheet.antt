-- Document 01's key sheet K, evaluated: its rule, the rule with the outer binder exchanged, and the formulas that an action meets.
use mathlib.Core.Path.{◌≡◌, refl}
use lib.Dec.{eqb}
use Rattle.sheet.specs.Contents.{actions_body, rule_body}
use Rattle.calculus.specs.Formulas.{Formula, one_action, true_formula, disj, some, var, least, greatest}
use Rattle.calculus.specs.Meaning.{meets}
use Rattle.calculus.specs.Decode.{action_within, formula_within, formula}
use Rattle.calculus.specs.Exchange.{exchanged}
use Rattle.calculus.specs.KindMap.{map_kinds_from, map_sheet_kinds}
use Rattle.calculus.specs.MeetingMask.{mask_up_to, meeting_mask}
use Rattle.calculus.specs.KeySheet.{K}

-- the body of the formula φ₁ of document 000, with c, a, b for the actions 2, 0, 1
abbrev body : Formula
body = disj (some (one_action 2) true_formula) (disj (some (one_action 0) (var 0)) (least 1 (disj (var 0) (some (one_action 1) (var 1)))))

K_rule : formula (actions_body K) (rule_body K) 0 ≡ least 0 body
unfolding formula_within action_within
K_rule = refl

-- node 0 alone is chosen
K_exchanged : formula (actions_body (exchanged (eqb 0) K)) (rule_body (exchanged (eqb 0) K)) 0 ≡ greatest 0 body
unfolding formula_within action_within exchanged map_sheet_kinds map_kinds_from
K_exchanged = refl

-- action 1 meets entry 1 alone
K_meeting : meeting_mask 3 (actions_body K) 1 ≡ 2
unfolding meeting_mask mask_up_to meets action_within
K_meeting = refl
