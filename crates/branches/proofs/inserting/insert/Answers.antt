use borrow.Author.Rules.{rules}
use lib.ListN.{length, drop, length-drop}
use lib.Seq.{take_all}
use mathlib.Core.Path.{◌≡◌, ap}
use Prim.Native.Nat.{◌+◌, ◌-◌, ◌*◌}
use Rattle.sheet.specs.Bytes.{slice}
use native.Mathlib.Omega.{arith}
use Rattle.branches.specs.Branches.{labelled}
use Rattle.text.proofs.Placing.{placed_first}
use Rattle.branches.proofs.Steps.Inserting.{inserted}
use Rattle.branches.proofs.inserting.insert.Goals as goal

pub returns : goal.returns
returns c = let s = c in
    let a = s.args in
    let size : 4 + 3 * a.place - 4 ≡ 3 * a.place = omega arith in
    let middle = 4 + 3 * a.place in
    let put = inserted a.plan.now (labelled a.branch) a.place a.room.now s.requires c.plan_head.ensures
    (ap (slice a.plan.now 4) size) c.bytes_of.ensures
    (take_all (length a.plan.now - middle) (drop middle a.plan.now) (omega (arith, length-drop middle a.plan.now)))
    (placed_first c.new-writer.ensures.place c.new-writer.ensures.out_after (c.put.ensures.place, c.put.ensures.out_after))
    (c.put-2.ensures.place, c.put-2.ensures.out_after)
    (c.put-3.ensures.place, c.put-3.ensures.out_after)
    (c.put-4.ensures.place, c.put-4.ensures.out_after) in
    (put.0, search (rules, put.1))
