-- Table 1's verdict of a sheet: the context does not matter, and the verdict is decided.
use Prim.Native.Nat.{ℕ, ◌<◌}
use mathlib.Core.Path.{◌≡◌, sym, ◌∙◌}
use mathlib.Core.Bool.{Bool, true, false≢true}
use mathlib.Core.List.{List}
use mathlib.Core.Logic.Iff
use mathlib.Core.Logic.{◌↔◌}
use Rattle.sheet.specs.Contents.{plan_body, actions_body, rule_body}
use Rattle.sheet.specs.Plan.{state_count}
use Rattle.sheet.specs.WellFormed.{WellFormedSheet}
use Rattle.sheet.specs.TransitionSystem.{TransitionsInRange, plan_of}
use Rattle.calculus.specs.Meaning.{Holds}
use Rattle.calculus.specs.Decode.{formula}
use Rattle.calculus.specs.Verdict.{empty_context, Verdict, ContextIndependent}
use Rattle.calculus.specs.Eval.{eval}
use Rattle.calculus.proofs.Table1.Monotone.{all_states}
use Rattle.calculus.proofs.Table1.Decide.{decide}
use Rattle.calculus.proofs.Table1.Locality.{local_free}
use Rattle.sheet.proofs.TransitionSystem.{plan_in_range}
use Rattle.sheet.proofs.Acceptance.Parts.{sheet_kept}
use Rattle.calculus.proofs.Decoding.Variables.{closed}

-- a verdict is one at a state
pub verdict_below : (s : List ℕ) (t : ℕ) → Verdict s t → t < state_count (plan_body s)
unfolding Verdict
verdict_below s t v = v.0

-- and at a state it says that the rule holds there
pub verdict_holds : (s : List ℕ) (t : ℕ) → t < state_count (plan_body s) → Holds (plan_of (plan_body s)) (formula (actions_body s) (rule_body s) 0) empty_context t ↔ Verdict s t
unfolding Verdict
verdict_holds s t l = (λ h. (l, h), λ v. v.1)

module _ {s : List ℕ} (kept : WellFormedSheet s) where
  pub sheet_in_range : TransitionsInRange (plan_of (plan_body s))
  sheet_in_range = plan_in_range (plan_body s) kept.bodies_kept.plan_kept

  -- the rule is closed, so that the context does not matter
  same_meaning : (ρ : ℕ → ℕ → Bool) (t : ℕ) → t < state_count (plan_body s)
      → Holds (plan_of (plan_body s)) (formula (actions_body s) (rule_body s) 0) ρ t ↔ Holds (plan_of (plan_body s)) (formula (actions_body s) (rule_body s) 0) empty_context t
  same_meaning ρ t l =
      local_free sheet_in_range (all_states sheet_in_range) (formula (actions_body s) (rule_body s) 0) {ρ = ρ} {σ = empty_context}
      (record { at = λ X f u r. absurd (false≢true (sym (closed kept.bodies_kept.rule_kept (actions_body s) X) ∙ f)) }) t l

  pub verdict_context : (ρ : ℕ → ℕ → Bool) (t : ℕ) → t < state_count (plan_body s) → Holds (plan_of (plan_body s)) (formula (actions_body s) (rule_body s) 0) ρ t ↔ Verdict s t
  verdict_context ρ t l = Iff.trans (same_meaning ρ t l) (verdict_holds s t l)

  pub verdict_decided : (t : ℕ) → t < state_count (plan_body s) → Verdict s t ↔ (eval (plan_of (plan_body s)) (formula (actions_body s) (rule_body s) 0) empty_context t ≡ true)
  verdict_decided t l = Iff.trans (Iff.symm (verdict_holds s t l)) (decide sheet_in_range (formula (actions_body s) (rule_body s) 0) empty_context t l)

pub context_independent : ContextIndependent
context_independent s passed = same_meaning (sheet_kept s passed)
