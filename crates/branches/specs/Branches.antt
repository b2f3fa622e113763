-- Document 02 (i), "Parked branches": a branch is one more transition of a plan. Whether a plan takes it, at which place, and the plan and
-- the sheet with it.
use Rattle.std.specs.Prelude.{ℕ, suc, ◌+◌, ◌*◌, Bool, not, ◌&&◌, List, ◌∷◌, ◌++◌, drop, eqb, ltb}
use Rattle.sheet.specs.Bytes.{slice, lowest}
use Rattle.sheet.specs.Contents.{plan_body, actions_body, rule_body}
use Rattle.sheet.specs.Plan.{state_count, action_count, transition_count}
use Rattle.sheet.specs.TransitionSystem.{LabelledTransition, transition_of, precedes}
use Rattle.sheet.specs.Writing.{two_bytes, sheet_of}
use Rattle.sheet.specs.declared.Transition.{Transition}

-- a transition of a call, as the plan has transitions
abbrev pub labelled : Transition → LabelledTransition
labelled t = record { origin = t.from.0; action = t.action.0; target = t.to.0 }

-- ---- 40: "a transition out of range, present already, or beyond 2,048"

-- document 01: "States are 0 to S - 1, actions 0 to A - 1."
abbrev pub branch_in_range : List ℕ → LabelledTransition → Bool
branch_in_range p t = ltb t.origin (state_count p) && (ltb t.action (action_count p) && ltb t.target (state_count p))

-- t is u
abbrev pub same_transition : LabelledTransition → LabelledTransition → Bool
same_transition t u = eqb t.origin u.origin && (eqb t.action u.action && eqb t.target u.target)

-- "present already": one of the T transitions is t
unfoldable pub present : List ℕ → LabelledTransition → Bool
present p t = ltb (lowest (λ i. same_transition (transition_of p i) t) (transition_count p)) (transition_count p)

-- not "beyond 2,048": the plan has fewer
abbrev pub not_full : List ℕ → Bool
not_full p = ltb (transition_count p) 2048

-- no 40: the plan takes the branch
unfoldable pub branch_fits : List ℕ → LabelledTransition → Bool
branch_fits p t = branch_in_range p t && (not (present p t) && not_full p)

-- ---- the plan with the branch

-- "the insertion place (a transition number)": the lowest transition that doesn't come before the branch, or T where all do
unfoldable pub insertion_place : List ℕ → LabelledTransition → ℕ
insertion_place p t = lowest (λ i. not (precedes (transition_of p i) t)) (transition_count p)

-- the plan with t before its transition i: S, A, T one more, the transitions below i, t, and the rest
abbrev pub plan_with_at : List ℕ → LabelledTransition → ℕ → List ℕ
plan_with_at p t i =
    state_count p ∷ action_count p
    ∷ two_bytes (suc (transition_count p)) (slice p 4 (3 * i) ++ t.origin ∷ t.action ∷ t.target ∷ drop (4 + 3 * i) p)

-- "the transitions are the old ones and the new one": the plan with t at its place
unfoldable pub plan_with : List ℕ → LabelledTransition → List ℕ
plan_with p t = plan_with_at p t (insertion_place p t)

-- "the new sheet": "S, A, actions and rule are equal"
abbrev pub sheet_with : List ℕ → LabelledTransition → List ℕ
sheet_with s t = sheet_of (plan_with (plan_body s) t) (actions_body s) (rule_body s)
