-- Evaluated examples of the definitions: action formulas, and Definition 2.
use Prim.Native.Nat.{ℕ}
use mathlib.Core.Path.{◌≡◌, refl}
use mathlib.Core.Bool.{true, false}
use mathlib.Core.List.{List, [], ◌∷◌}
use Rattle.calculus.specs.Formulas.{one_action, any_action, not_action, disj, some, every, var, least, greatest}
use Rattle.calculus.specs.Meaning.{meets}
use Rattle.calculus.specs.Definition2.{guarded, guarded_in}
use Rattle.calculus.specs.Decode.{action_within, action_formula}
use Rattle.calculus.specs.Eval.{values_below}

-- "Not" is taken among the actions: 5 is none of three.
not_outside : meets 3 (not_action (one_action 1)) 5 ≡ false
unfolding meets
not_outside = refl

-- Two entries: every action from 1 to 3, and its "not". Of the numbers 0 to 5, with five actions: both ends are included, and 5 is no action.
abbrev range_entries : List ℕ
range_entries = 2 ∷ 6 ∷ 1 ∷ 3 ∷ 5 ∷ 0 ∷ 0 ∷ []

range_example : values_below 6 (meets 5 (action_formula range_entries 0)) ≡ false ∷ true ∷ true ∷ true ∷ false ∷ false ∷ []
unfolding values_below meets action_within
range_example = refl

not_range_example : values_below 6 (meets 5 (action_formula range_entries 1)) ≡ true ∷ false ∷ false ∷ false ∷ true ∷ false ∷ []
unfolding values_below meets action_within
not_range_example = refl

-- Below a modality a variable is guarded, and beside it not.
under_some : guarded (least 0 (some any_action (var 0))) ≡ true
unfolding guarded guarded_in
under_some = refl

under_every : guarded (greatest 0 (every any_action (var 0))) ≡ true
unfolding guarded guarded_in
under_every = refl

beside : guarded (least 0 (disj (some any_action (var 0)) (var 0))) ≡ false
unfolding guarded guarded_in
beside = refl
