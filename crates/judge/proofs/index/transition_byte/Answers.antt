-- `judge::index::transition_byte` meets its contract.
use Rattle.std.proofs.Common.{arith}
use Rattle.sheet.proofs.Acceptance.Parts.{few_transitions, plan_inside, plan_byte}
use Rattle.judge.proofs.index.transition_byte.Goals as goal

pub overflow_mul-result : goal.overflow_mul-result
overflow_mul-result c = omega (arith, few_transitions c.args.sheet.now c.requires.0.accepted, c.requires.0.among)

pub overflow_add-result : goal.overflow_add-result
overflow_add-result c = omega (arith, few_transitions c.args.sheet.now c.requires.0.accepted, c.requires.0.among)

pub overflow_add-result-2 : goal.overflow_add-result-2
overflow_add-result-2 c = omega (arith, few_transitions c.args.sheet.now c.requires.0.accepted, c.requires.0.among)

pub bounds-sheet-field : goal.bounds-sheet-field
bounds-sheet-field c = plan_inside c.args.sheet.now c.requires.0.accepted c.args.i c.args.field c.requires.0.among c.requires.1

pub returns : goal.returns
returns c = plan_byte c.args.sheet.now c.requires.0.accepted c.args.i c.args.field c.requires.0.among c.requires.1
