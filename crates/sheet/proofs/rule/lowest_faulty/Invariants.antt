-- `sheet::rule::lowest_faulty` meets its contract. Of the loop: no node below n breaks the rules of binding.
use Rattle.sheet.specs.Rule.{binding_faulty, lowest_binding}
use Rattle.sheet.specs.Internal.Counting.{BindersCounted}
use Rattle.sheet.proofs.Checks.Seeking.{Seeking}
use Rattle.sheet.proofs.rule.lowest_faulty.Given as goal

abbrev pub invariant-loop-n : goal.invariant-loop-n
invariant-loop-n l = BindersCounted l.r l.n l.binders × Seeking (binding_faulty l.r) l.count (lowest_binding l.r) l.n
