-- `judge::consistency::Rows::state_passes` meets its contract.
use Rattle.std.proofs.Common.{not, sym, ap, ◌∙◌, arith}
use Rattle.sheet.proofs.Checks.Seeking.{seek_start, seek_next}
use Rattle.judge.specs.Internal.Auditing.{node_passes}
use Rattle.judge.proofs.Steps.AuditCells.{every_fails, every_passes}
use Rattle.judge.proofs.consistency.Rows.state_passes.Goals as goal

pub loop-n-init : goal.loop-n-init
loop-n-init c = seek_start _ _ _ c.requires.prepared.nodes_are

pub node_passes-requires : goal.node_passes-requires
node_passes-requires c = (c.requires, omega (arith, c.requires.prepared.nodes_are))

pub returns-then-not-node_passes : goal.returns-then-not-node_passes
returns-then-not-node_passes c =
    every_fails (λ j. node_passes c.args.self.now.sheet.now c.args.self.now.table.now c.args.state.0 j)
    c.loop-n.invariant c.requires.prepared.nodes_are c.loop-n-test.true (sym c.node_passes.ensures ∙ c.if-not-node_passes.true)

pub loop-n-preserved : goal.loop-n-preserved
loop-n-preserved c = seek_next c.loop-n.invariant c.loop-n-test.true (ap not (sym c.node_passes.ensures ∙ c.if-not-node_passes.false))

pub returns : goal.returns
returns c =
    every_passes (λ j. node_passes c.args.self.now.sheet.now c.args.self.now.table.now c.args.state.0 j)
    c.loop-n.invariant c.requires.prepared.nodes_are c.loop-n-test.false
