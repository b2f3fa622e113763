use Rattle.std.proofs.Common.{arith}
use Rattle.report.proofs.Steps.LineSteps.{line_requires, next_line, no_lines, all_lines}
use Rattle.report.proofs.reporting.put_lines.Goals as goal

pub loop-state-init : goal.loop-state-init
loop-state-init c = no_lines c.args.sheet.now c.args.states.now c.args.table.now c.args.out.now

pub add_line-requires : goal.add_line-requires
add_line-requires c =
    line_requires c.args.sheet.now c.args.states.now c.args.table.now c.args.out.now c.requires c.loop-state.state-index (omega arith) c.loop-state.invariant

pub loop-state-preserved : goal.loop-state-preserved
loop-state-preserved c =
    next_line c.args.sheet.now c.args.states.now c.args.table.now c.args.out.now c.requires c.loop-state.state-index (omega arith) c.loop-state.invariant
    c.add_line.ensures

pub returns : goal.returns
returns c =
    all_lines c.args.sheet.now c.args.states.now c.args.table.now c.args.out.now c.loop-state.state-index (omega arith) c.loop-state.invariant
