-- Table 1 computed: a least fixed point by S rounds from the empty set, a greatest by S rounds from the full set. It is Table 1's meaning
-- (holds_eval and eval_holds of proofs/Table1/Decide.antt), and each promise that speaks of it has one beside it that does not: ByTable1
-- of the crate reference.
use Rattle.std.specs.Prelude.{ℕ, zero, suc, ◌<◌, ◌≡◌, Bool, true, false, not, ◌&&◌, ◌||◌, List, [], ◌∷◌, ◌↔◌, eqb, get_or}
use Rattle.calculus.specs.Formulas.{ActionFormula, Formula, false_formula, true_formula, disj, conj, some, every, var, least, greatest}
use Rattle.sheet.specs.TransitionSystem.{LabelledTransition, Plan, TransitionsInRange}
use Rattle.calculus.specs.Meaning.{meets, bind, Holds}

-- no state
abbrev pub empty_set : ℕ → Bool
empty_set t = false

-- every state
abbrev pub full_set : ℕ → Bool
full_set t = true

-- whether 0, 1 and so on below S are in U
unfoldable pub values_below : ℕ → (ℕ → Bool) → List Bool
values_below zero U = []
values_below (suc S) U = U 0 ∷ values_below S (λ t. U (suc t))

-- U below S, nothing from there on, with each value computed once.
unfoldable pub tabulate : ℕ → (ℕ → Bool) → ℕ → Bool
tabulate S U = let l = values_below S U in λ t. get_or l t false

-- n rounds of F from U.
unfoldable pub rounds : ℕ → ((ℕ → Bool) → ℕ → Bool) → ℕ → (ℕ → Bool) → ℕ → Bool
rounds S F zero U = U
rounds S F (suc n) U = tabulate S (F (rounds S F n U))

-- Some transition of the list passes the test.
unfoldable pub any_transition : (LabelledTransition → Bool) → List LabelledTransition → Bool
any_transition p [] = false
any_transition p (t ∷ ts) = p t || any_transition p ts

-- The transition is from s and its action meets α.
unfoldable pub departs : Plan → ActionFormula → ℕ → LabelledTransition → Bool
departs P α s t = eqb t.origin s && meets P.actions α t.action

-- The meaning of φ in ρ as a set. What the parts mean stands in a `let` above the state, so that it is computed once for all states.
unfoldable pub eval : Plan → Formula → (ℕ → ℕ → Bool) → ℕ → Bool
eval P false_formula ρ = empty_set
eval P true_formula ρ = full_set
eval P (disj φ ψ) ρ = let a = eval P φ ρ in let b = eval P ψ ρ in λ s. a s || b s
eval P (conj φ ψ) ρ = let a = eval P φ ρ in let b = eval P ψ ρ in λ s. a s && b s
eval P (some α φ) ρ = let a = eval P φ ρ in λ s. any_transition (λ t. departs P α s t && a t.target) P.transitions
eval P (every α φ) ρ = let a = eval P φ ρ in λ s. not (any_transition (λ t. departs P α s t && not (a t.target)) P.transitions)
eval P (var X) ρ = ρ X
eval P (least X φ) ρ = rounds P.states (λ U. eval P φ (bind ρ X U)) P.states empty_set
eval P (greatest X φ) ρ = rounds P.states (λ U. eval P φ (bind ρ X U)) P.states full_set

-- What is computed is Table 1's meaning, at every state of every plan whose transitions are in range, as those of an accepted sheet are
-- (PlanInRange of the crate sheet). "Facts about sets are shown for any number of states, not per size." Shown by eval_meaning of
-- proofs/Table1/Decide.antt.
abbrev pub EvalMeaning : Type 0
EvalMeaning =
    (P : Plan) → TransitionsInRange P → (φ : Formula) (ρ : ℕ → ℕ → Bool) (s : ℕ) → s < P.states → (eval P φ ρ s ≡ true) ↔ Holds P φ ρ s
