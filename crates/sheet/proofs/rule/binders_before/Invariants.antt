-- `sheet::rule::binders_before` meets its contract.
use Prim.Native.Nat.{◌≤◌}
use Rattle.sheet.specs.Internal.Counting.{BindersCounted}
use Rattle.sheet.proofs.rule.binders_before.Given as goal

abbrev pub invariant-loop-at : goal.invariant-loop-at
invariant-loop-at l = (l.at ≤ l.n) × BindersCounted l.r l.at l.binders
