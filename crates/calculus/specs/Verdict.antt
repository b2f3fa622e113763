-- Document 01: "Table 1's verdict at s is true exactly when s is in the meaning of the rule".
use Rattle.std.specs.Prelude.{ℕ, ◌<◌, ◌≡◌, Bool, false, List, ◌↔◌, Ok}
use Rattle.sheet.specs.Contents.{plan_body, actions_body, rule_body}
use Rattle.sheet.specs.Plan.{state_count}
use Rattle.sheet.specs.Reading.{sheet_check}
use Rattle.calculus.specs.Meaning.{Holds}
use Rattle.sheet.specs.TransitionSystem.{plan_of}
use Rattle.calculus.specs.Decode.{formula}

-- the context that gives every variable the empty set; the rule of a sheet has no free variable: "A variable node stands below its
-- binder."
abbrev pub empty_context : ℕ → ℕ → Bool
empty_context X t = false

-- Table 1's verdict of the sheet s: the number is that of a state, and the state is in the meaning of the rule
unfoldable pub Verdict : List ℕ → ℕ → Type 0
Verdict s state =
    (state < state_count (plan_body s)) × Holds (plan_of (plan_body s)) (formula (actions_body s) (rule_body s) 0) empty_context state

-- "Left out: formulas with free variables": of an accepted sheet every context gives the meaning that the empty one gives. Shown by
-- context_independent of proofs/Table1/Verdicts.antt.
abbrev pub ContextIndependent : Type 0
ContextIndependent =
    (s : List ℕ) → sheet_check s ≡ Ok tt → (ρ : ℕ → ℕ → Bool) (state : ℕ) → state < state_count (plan_body s)
    → Holds (plan_of (plan_body s)) (formula (actions_body s) (rule_body s) 0) ρ state
    ↔ Holds (plan_of (plan_body s)) (formula (actions_body s) (rule_body s) 0) empty_context state
