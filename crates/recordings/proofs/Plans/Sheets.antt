-- The sheet of a run.
use Prim.Native.Nat.{ℕ, ◌≤◌}
use mathlib.Core.Path.{◌≡◌, ap, subst, subst₃, ◌∙◌}
use mathlib.Core.List.{List}
use mathlib.Core.Logic.Iff
use mathlib.Core.Logic.{◌↔◌}
use native.Mathlib.Omega.{arith}
use lib.ListN.{length}
use Rattle.sheet.specs.Contents.{plan_body, actions_body, rule_body}
use Rattle.sheet.specs.Plan.{state_count, action_count}
use Rattle.sheet.specs.Reading.{sheet_check}
use Rattle.sheet.specs.TransitionSystem.{Plan, plan_of}
use Rattle.sheet.specs.WellFormed.{WellFormedBodies, WellFormedSheet}
use Rattle.std.specs.Prelude.{Ok}
use Rattle.sheet.proofs.Acceptance.Sheet.{bodies_iff, body_lengths}
use Rattle.sheet.proofs.Roundtrip.RoundTrip.{written_length, written_accepted, plan_back, actions_back, rule_back}
use Rattle.calculus.specs.Decode.{formula}
use Rattle.calculus.specs.Meaning.{Holds}
use Rattle.calculus.specs.Verdict.{empty_context, Verdict}
use Rattle.calculus.proofs.Table1.Verdicts.{verdict_holds}
use Rattle.graph.specs.Loops.{LoopReachable}
use Rattle.graph.specs.Successors.{successors}
use Rattle.recordings.specs.Runs.{chain, HoldsOn, WellFormedRun}
use Rattle.recordings.specs.RunAsSheet.{chain_body, chain_sheet}
use Rattle.recordings.specs.Internal.Chains.{chain_sheet_room}
use Rattle.recordings.proofs.Plans.Chains.{body_length, plan_is_chain, chain_no_loop, chain_kept}

module _ (s : List ℕ) (k : WellFormedSheet s) (run : List ℕ) (r : WellFormedRun s run) where
  abbrev A : ℕ
  A = action_count (plan_body s)

  abbrev body : List ℕ
  body = chain_body A run

  -- the plan has A actions, so that the sheet's own action formulas fit it
  bodies : WellFormedBodies body (actions_body s) (rule_body s)
  bodies =
      record {
        plan_kept = chain_kept A run r.short r.below;
        actions_kept = k.bodies_kept.actions_kept;
        rule_kept = k.bodies_kept.rule_kept;
      }

  pub chain_passed : sheet_check (chain_sheet s run) ≡ Ok tt
  unfolding chain_sheet
  chain_passed = written_accepted body (actions_body s) (rule_body s) ((bodies_iff body (actions_body s) (rule_body s)).1 bodies)

  pub chain_plan : plan_body (chain_sheet s run) ≡ chain_body (action_count (plan_body s)) run
  unfolding chain_sheet
  chain_plan = plan_back body (actions_body s) (rule_body s) bodies

  pub chain_actions : actions_body (chain_sheet s run) ≡ actions_body s
  unfolding chain_sheet
  chain_actions = actions_back body (actions_body s) (rule_body s) bodies

  pub chain_rule : rule_body (chain_sheet s run) ≡ rule_body s
  unfolding chain_sheet
  chain_rule = rule_back body (actions_body s) (rule_body s) bodies

  pub chain_sheet_length : length (chain_sheet s run) ≤ chain_sheet_room
  unfolding chain_sheet
  chain_sheet_length =
      omega (arith, written_length body (actions_body s) (rule_body s), body_length A run r.short, r.short, body_lengths bodies)

  pub sheet_plan_is : plan_of (plan_body (chain_sheet s run)) ≡ chain (action_count (plan_body s)) run
  sheet_plan_is = ap plan_of chain_plan ∙ plan_is_chain A run r.short

  pub sheet_no_loop : (state : ℕ) → LoopReachable (successors (plan_body (chain_sheet s run))) state → ⊥
  sheet_no_loop state l =
      chain_no_loop A run r.short state (subst (λ (p : List ℕ). LoopReachable (successors p) state) chain_plan l)

  pub chain_verdict : Verdict (chain_sheet s run) 0 ↔ HoldsOn s run
  unfolding HoldsOn
  chain_verdict =
      subst₃ (λ (P : Plan) (a f : List ℕ). Verdict (chain_sheet s run) 0 ↔ Holds P (formula a f 0) empty_context 0)
      sheet_plan_is chain_actions chain_rule
      (Iff.symm (verdict_holds (chain_sheet s run) 0 (omega (arith, ap state_count chain_plan))))
