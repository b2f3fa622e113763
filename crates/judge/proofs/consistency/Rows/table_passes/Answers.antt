-- `judge::consistency::Rows::table_passes` meets its contract.
use Rattle.std.proofs.Common.{◌<◌, not, sym, refl, ap, ◌∙◌, arith}
use Rattle.sheet.specs.Contents.{plan_body}
use Rattle.sheet.specs.Plan.{state_count}
use Rattle.sheet.proofs.Checks.Seeking.{seek_start, seek_next}
use Rattle.sheet.proofs.Acceptance.Parts.{few_states}
use Rattle.judge.specs.Internal.Auditing.{state_passes}
use Rattle.judge.proofs.Steps.AuditCells.{every_fails, every_passes, others_pass}
use Rattle.judge.proofs.consistency.Rows.table_passes.Goals as goal
use Rattle.judge.proofs.consistency.Rows.table_passes.Goals.{In-loop-s, else-starts-s-ne0-via-then-starts-s-ne0+else-not-state_passes, else-starts-s-ne0-via-else-starts-s-ne0}

pub loop-s-init : goal.loop-s-init
loop-s-init c = seek_start _ _ _ refl

-- the state of a turn
module _ (c : In-loop-s) where
  below : c.loop-s.s < state_count (plan_body c.args.self.now.sheet.now)
  below = omega (arith, c.loop-s-test.true, c.state_count-s-end.ensures ∙ ap state_count c.plan_body.ensures)

pub bounds-starts-s : goal.bounds-starts-s
bounds-starts-s c = omega (arith, below (goal.at.bounds-starts-s c).In-loop-s, few_states _ c.requires.accepted)

pub state_passes-requires : goal.state_passes-requires
state_passes-requires c = c.requires.started c.loop-s.s c.if-starts-s-ne0.true

pub returns-then-not-state_passes : goal.returns-then-not-state_passes
returns-then-not-state_passes c =
    every_fails (λ j. state_passes c.args.self.now.sheet.now c.args.self.now.table.now j)
    c.loop-s.invariant refl (below (goal.at.returns-then-not-state_passes c).In-loop-s) (sym c.state_passes.ensures ∙ c.if-not-state_passes.true)

pub loop-s-preserved : goal.loop-s-preserved
loop-s-preserved c =
    let here = below (goal.at.loop-s-preserved c).In-loop-s in
    seek_next c.loop-s.invariant here
    (elim c.else-starts-s-ne0.branch [
      | else-starts-s-ne0-via-then-starts-s-ne0+else-not-state_passes w ↦ ap not (sym w.state_passes.ensures ∙ w.if-not-state_passes.false)
      | else-starts-s-ne0-via-else-starts-s-ne0 w ↦ ap not (others_pass c.requires c.loop-s.s here w.if-starts-s-ne0.false)
    ])

pub returns : goal.returns
returns c =
    every_passes (λ j. state_passes c.args.self.now.sheet.now c.args.self.now.table.now j) c.loop-s.invariant refl
    (omega (arith, c.loop-s-test.false, c.state_count-s-end.ensures ∙ ap state_count c.plan_body.ensures))
