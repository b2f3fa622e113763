-- `sheet::rule::binder_place` meets its contract. Of the loop: no node below n is binder k.
use Rattle.sheet.specs.Rule.{binder_node, binds_at}
use Rattle.sheet.specs.Internal.Counting.{BindersCounted}
use Rattle.sheet.proofs.Checks.Seeking.{Seeking}
use Rattle.sheet.proofs.rule.binder_place.Given as goal

abbrev pub invariant-loop-n : goal.invariant-loop-n
invariant-loop-n l = BindersCounted l.r l.n l.binders × Seeking (binds_at l.r l.k) l.count (binder_node l.r l.k) l.n
