-- The semantics of Table 1, and of the range of actions of document 02 (a). A set of states or actions is a function to Bool, and a
-- context ρ gives a set of states to each variable.
use Rattle.std.specs.Prelude.{ℕ, ◌<◌, ◌≡◌, Bool, true, false, not, ◌&&◌, ◌||◌, cond, ◌⊎◌, ltb, leb, eqb}
use mathlib.Core.List.{Memᴰ}
use Rattle.calculus.specs.Formulas.{ActionFormula, no_action, any_action, one_action, or_action, and_action, not_action, between}
use Rattle.calculus.specs.Formulas.{Formula, false_formula, true_formula, disj, conj, some, every, var, least, greatest}
use Rattle.sheet.specs.TransitionSystem.{LabelledTransition, Plan}

-- The meaning of an action formula among the actions 0 to A - 1: what "whose action meets the formula" says.
unfoldable pub meets : ℕ → ActionFormula → ℕ → Bool
-- F: no action
meets A no_action a = false
-- T: A
meets A any_action a = ltb a A
-- a: {a}
meets A (one_action b) a = eqb a b
-- α₁ or α₂: the union
meets A (or_action α β) a = meets A α a || meets A β a
-- α₁ and α₂: the intersection
meets A (and_action α β) a = meets A α a && meets A β a
-- not α: A without α; '"Not" is taken among the A actions.'
meets A (not_action α) a = ltb a A && not (meets A α a)
-- document 02 (a): "every action from x to y, both ends included"; in an accepted sheet "y is below A", so these are among the A actions
meets A (between x y) a = leb x a && leb a y

-- ρ[U/X]: as ρ, but U for X. The "image" of a set U, in "sets that their own image lies inside", is the meaning in it.
abbrev pub bind : (ℕ → ℕ → Bool) → ℕ → (ℕ → Bool) → ℕ → ℕ → Bool
bind ρ X U Y = cond (eqb Y X) U (ρ Y)

-- The meaning of a state formula: `Holds P φ ρ s` says that the state s of P is in the meaning of φ in the context ρ.
-- It is read at states only, the numbers below S: a set U is one of states, whatever it holds from S on.
unfoldable pub Holds : Plan → Formula → (ℕ → ℕ → Bool) → ℕ → Type 0
-- F, T: "F no state, T all"
Holds P false_formula ρ s = ⊥
Holds P true_formula ρ s = Unit {0}
-- φ₁ or φ₂, φ₁ and φ₂: "or the union, and the intersection"
Holds P (disj φ ψ) ρ s = Holds P φ ρ s ⊎ Holds P ψ ρ s
Holds P (conj φ ψ) ρ s = Holds P φ ρ s × Holds P ψ ρ s
-- ⟨α⟩ φ: "some the states with a transition whose action meets the formula into the child's meaning"
Holds P (some α φ) ρ s =
    (t : LabelledTransition) × Memᴰ t P.transitions × (t.origin ≡ s) × (meets P.actions α t.action ≡ true)
    × Holds P φ ρ t.target
-- [α] φ: "every those whose every such transition leads into it"
Holds P (every α φ) ρ s =
    (t : LabelledTransition) → Memᴰ t P.transitions → t.origin ≡ s → meets P.actions α t.action ≡ true
    → Holds P φ ρ t.target
-- X: "a variable its set", ρ(X)
Holds P (var X) ρ s = ρ X s ≡ true
-- μ X. φ: "the intersection of all sets that their own image lies inside": the image of U is the meaning of φ in ρ[U/X]
Holds P (least X φ) ρ s = (U : ℕ → Bool) → ((t : ℕ) → t < P.states → Holds P φ (bind ρ X U) t → U t ≡ true) → U s ≡ true
-- ν X. φ: "the union of all sets that lie inside their own image"
Holds P (greatest X φ) ρ s = (U : ℕ → Bool) × ((t : ℕ) → t < P.states → U t ≡ true → Holds P φ (bind ρ X U) t) × (U s ≡ true)
