-- The range of document 02 (a) in the terms of Table 1: it means what the "or" of its actions means.
use Rattle.std.specs.Prelude.{ℕ, zero, suc, ◌+◌, ◌≡◌}
use Rattle.calculus.specs.Formulas.{ActionFormula, one_action, or_action, between}
use Rattle.calculus.specs.Meaning.{meets}

-- the actions x, x + 1 and so on up to x + more, joined by "or": as "a rule that lists twenty of them"
unfoldable pub enumerated : ℕ → ℕ → ActionFormula
enumerated x zero = one_action x
enumerated x (suc more) = or_action (one_action x) (enumerated (suc x) more)

-- "every action from x to y, both ends included": an action meets the range from x to x + more exactly when it meets the "or" of these
abbrev pub RangeEnumerated : Type 0
RangeEnumerated = (A x more a : ℕ) → meets A (between x (x + more)) a ≡ meets A (enumerated x more) a
