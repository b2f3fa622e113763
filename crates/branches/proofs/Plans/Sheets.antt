-- The sheet with a branch.
use Prim.Native.Nat.{ℕ, ◌+◌}
use mathlib.Core.Path.{◌≡◌, refl, sym, ap, subst, ◌∙◌}
use mathlib.Core.List.{List, Memᴰ}
use mathlib.Core.Logic.{◌↔◌, ◌⊎◌}
use native.Mathlib.Omega.{arith}
use lib.ListN.{length}
use Rattle.sheet.specs.Contents.{plan_body, actions_body, rule_body}
use Rattle.sheet.specs.Plan.{state_count, action_count, transition_count}
use Rattle.sheet.specs.Reading.{bodies_check, sheet_check}
use Rattle.sheet.specs.TransitionSystem.{LabelledTransition, plan_of}
use Rattle.sheet.specs.WellFormed.{WellFormedActions, WellFormedBodies, WellFormedSheet}
use Rattle.std.specs.Prelude.{Ok}
use Rattle.sheet.proofs.Acceptance.Sheet.{bodies_iff, accepted_iff, plan_length_lem, actions_length_lem, rule_length_lem}
use Rattle.sheet.proofs.Roundtrip.RoundTrip.{written_length, written_accepted, plan_back, actions_back, rule_back}
use Rattle.graph.specs.Loops.{LoopReachable}
use Rattle.graph.specs.Successors.{successors}
use Rattle.branches.specs.Branches.{plan_with, sheet_with}
use Rattle.branches.specs.Proposing.{proposal_of}
use Rattle.branches.specs.BranchesCorrect.{Addable, NewSheet}
use Rattle.branches.proofs.Plans.Fitting.{Fits, not_unfit}
use Rattle.branches.proofs.Plans.With as With
use Rattle.branches.proofs.Plans.Loops.{loop_exactly}

module _ (s : List ℕ) (t : LabelledTransition) where
  abbrev old : List ℕ
  old = plan_body s

  abbrev new : List ℕ
  new = plan_with old t

  module _ (k : WellFormedSheet s) where
    pub sheet_length_lem : length (sheet_with s t) ≡ length s + 3
    sheet_length_lem =
        omega (
          arith,
          written_length new (actions_body s) (rule_body s),
          With.with_length old t k.bodies_kept.plan_kept,
          k.ends,
          plan_length_lem s k.ends,
          actions_length_lem s k.ends,
          rule_length_lem s k.ends,
        )

    with_bodies : Fits old t → WellFormedBodies new (actions_body s) (rule_body s)
    with_bodies f =
        record {
          plan_kept = With.with_kept old t k.bodies_kept.plan_kept f;
          actions_kept =
              subst (λ (n : ℕ). WellFormedActions n (actions_body s)) (sym (With.actions_same old t)) k.bodies_kept.actions_kept;
          rule_kept = k.bodies_kept.rule_kept;
        }

    -- the bodies of the new sheet pass the writer's checks
    pub bodies_pass : Fits (plan_body s) t → bodies_check (plan_with (plan_body s) t) (actions_body s) (rule_body s) ≡ Ok tt
    bodies_pass f = (bodies_iff new (actions_body s) (rule_body s)).1 (with_bodies f)

  pub new_sheet : Addable s t → NewSheet s t (proposal_of s t) (sheet_with s t)
  new_sheet a =
      let k = a.fitting.accepted in
      let plan = k.bodies_kept.plan_kept in
      let f = (not_unfit old t).0 a.fitting.fits in
      let b = with_bodies k f in
      let q : sheet_check (sheet_with s t) ≡ Ok tt = written_accepted new (actions_body s) (rule_body s) (bodies_pass k f) in
      let e : plan_body (sheet_with s t) ≡ new = plan_back new (actions_body s) (rule_body s) b in
      record {
        passed = q;
        accepted = (accepted_iff (sheet_with s t)).0 q;
        length_proposed = refl;
        exactly = λ u.
            subst (λ (p : List ℕ). Memᴰ u (plan_of p).transitions ↔ (Memᴰ u (plan_of old).transitions ⊎ (u ≡ t))) (sym e)
            (With.with_exactly old t plan f u);
        inserted = ap (λ (p : List ℕ). (plan_of p).transitions) e ∙ With.with_inserted old t plan f;
        one_more = ap transition_count e ∙ With.one_more old t plan f;
        states_same = ap state_count e ∙ With.states_same old t;
        actions_same = ap action_count e ∙ With.actions_same old t;
        actions_body_same = actions_back new (actions_body s) (rule_body s) b;
        rule_body_same = rule_back new (actions_body s) (rule_body s) b;
        no_loop = λ l. a.no_loop ((loop_exactly old t plan f).0 (subst (λ (p : List ℕ). LoopReachable (successors p) 0) e l));
      }
