-- No sheet has a larger table than the limits of its parts give.
use Rattle.std.proofs.Common.{◌+◌, ◌*◌, ◌≤◌, mul-le-mul, arith}
use Rattle.sheet.specs.Contents.{rule_body}
use Rattle.sheet.specs.Rule.{binder_count}
use Rattle.sheet.proofs.Acceptance.Parts.{bodies_kept}
use Rattle.graph.specs.Search.{most_states}
use Rattle.judge.specs.Cells.{cell_bytes}
use Rattle.judge.specs.LargestTable.{most_nodes, most_binders, most_cells, EveryTableFits}

pub every_table_fits : EveryTableFits
every_table_fits s accepted =
    let k = bodies_kept s accepted in
    let marks : binder_count (rule_body s) + 1 ≤ most_binders + 1 = omega (arith, k.rule_kept.few_binders) in
    let cells : cell_bytes s ≤ most_cells =
    mul-le-mul {n₂ = most_states * most_nodes} {m₂ = most_binders + 1}
    (mul-le-mul {n₂ = most_states} {m₂ = most_nodes} k.plan_kept.few_states k.rule_kept.few_nodes) marks in
    (cells, omega arith)
