use Prim.Native.Nat.{◌*◌}
use borrow.Author.Rules.{rules}
use native.Mathlib.Omega.{arith}
use Rattle.allowance.proofs.Steps.Tables.{table_fits, place_fits}
use Rattle.allowance.proofs.Steps.Needing.{asks_bench, need_next, need_refused, need_end}
use Rattle.allowance.proofs.granting.find_needs.Goals as goal

pub overflow_mul-i : goal.overflow_mul-i
overflow_mul-i c = omega (arith, place_fits c.requires.right c.requires.sized c.loop-i.i (omega arith))

pub would_answer-requires : goal.would_answer-requires
would_answer-requires c = table_fits c.requires.right c.requires.sized c.args.tables.now (c.loop-i.i * c.args.size) c.slice_of.ensures

pub returns-in_err-judged : goal.returns-in_err-judged
returns-in_err-judged c =
    need_refused c.args.sheet.now c.args.states.now c.args.tables.now c.loop-i.invariant (omega arith)
    (asks_bench c.args.sheet.now c.args.states.now c.args.tables.now c.requires.sized c.loop-i.i c.in_err-judged.ensures c.slice_of.ensures) (search rules)

pub loop-i-preserved : goal.loop-i-preserved
loop-i-preserved c =
    need_next c.args.sheet.now c.args.states.now c.args.tables.now c.loop-i.invariant (omega arith)
    (asks_bench c.args.sheet.now c.args.states.now c.args.tables.now c.requires.sized c.loop-i.i c.in_ok-judged.ensures c.slice_of.ensures) c.asked.ensures

pub returns : goal.returns
returns c = need_end c.args.sheet.now c.args.states.now c.args.tables.now c.loop-i.invariant (omega arith)
