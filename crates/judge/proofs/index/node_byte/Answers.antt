-- `judge::index::node_byte` meets its contract.
use Rattle.std.proofs.Common.{ℕ, ◌+◌, ◌*◌, ◌∙◌, ap, arith}
use Rattle.sheet.specs.Bytes.{byte}
use Rattle.sheet.proofs.Acceptance.Parts.{rule_inside, rule_byte, offset_small}
use Rattle.judge.proofs.index.node_byte.Goals as goal

pub overflow_add-result-2 : goal.overflow_add-result-2
overflow_add-result-2 c = omega (arith, c.requires.0.offset_is, offset_small c.args.sheet.now c.requires.0.accepted, c.requires.1)

pub bounds-sheet-index : goal.bounds-sheet-index
bounds-sheet-index c = omega (arith, c.requires.0.offset_is, rule_inside c.args.sheet.now c.requires.0.accepted c.args.node.0 c.args.field c.requires.0.node_below c.requires.1)

pub returns : goal.returns
returns c =
    let a = c.args in
    ap (λ (o : ℕ). byte a.sheet.now (o + (a.field + 3 * a.node.0))) c.requires.0.offset_is ∙
    rule_byte a.sheet.now c.requires.0.accepted a.node.0 a.field c.requires.0.node_below c.requires.1
