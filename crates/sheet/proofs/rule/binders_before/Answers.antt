use mathlib.Core.Path.{ap, ◌∙◌}
use native.Mathlib.Omega.{arith}
use Rattle.sheet.specs.Rule.{binders_before}
use Rattle.sheet.proofs.Steps.Nodes.{counted_none}
use Rattle.sheet.proofs.rule.binders_before.Goals as goal

pub loop-at-init : goal.loop-at-init
loop-at-init c = (omega arith, counted_none _)

pub binders_with-binders-requires : goal.binders_with-binders-requires
binders_with-binders-requires c = c.loop-at.invariant.1

pub loop-at-preserved : goal.loop-at-preserved
loop-at-preserved c = (omega arith, c.binders_with-binders.ensures)

pub returns : goal.returns
returns c = record { is = c.loop-at.invariant.1.is ∙ ap (binders_before _) (omega arith); few = omega arith }
