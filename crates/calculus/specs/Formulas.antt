-- The syntax of Table 1, and the range of actions of document 02 (a). Actions and variables are numbers.
use Rattle.std.specs.Prelude.{ℕ}

-- Action formulas α. Document 01: "Kinds: 0 false, 1 true, 2 action x .., 3 x or y, 4 x and y, 5 not x."
pub data ActionFormula : Type 0 where
  -- F
  no_action : ActionFormula
  -- T
  any_action : ActionFormula
  -- a
  one_action : ℕ → ActionFormula
  -- α₁ or α₂
  or_action : ActionFormula → ActionFormula → ActionFormula
  -- α₁ and α₂
  and_action : ActionFormula → ActionFormula → ActionFormula
  -- not α
  not_action : ActionFormula → ActionFormula
  -- not in Table 1. Document 02 (a), "Stretches of actions" (ranges): "every action from x to y, both ends included"
  between : ℕ → ℕ → ActionFormula

-- State formulas φ. "0 F, 1 T, 2 or, 3 and .., 4 some (diamond), 5 every (box) .., 6 variable x, 7 least, 8 greatest fixed point"
pub data Formula : Type 0 where
  -- F
  false_formula : Formula
  -- T
  true_formula : Formula
  -- φ₁ or φ₂
  disj : Formula → Formula → Formula
  -- φ₁ and φ₂
  conj : Formula → Formula → Formula
  -- ⟨α⟩ φ
  some : ActionFormula → Formula → Formula
  -- [α] φ
  every : ActionFormula → Formula → Formula
  -- X
  var : ℕ → Formula
  -- μ X. φ
  least : ℕ → Formula → Formula
  -- ν X. φ
  greatest : ℕ → Formula → Formula
