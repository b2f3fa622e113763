-- `judge::preparing::ends_of` meets its contract. Of the loop: the ends of the first k binders' subtrees are found.
use Rattle.std.proofs.Common.{◌≡◌, ℕ, ◌<◌, get_or, length}
use Rattle.sheet.specs.Rule.{binder_node, subtree_end}
use Rattle.judge.proofs.preparing.ends_of.Given as goal

abbrev pub invariant-loop-k : goal.invariant-loop-k
invariant-loop-k l = (length l.ends ≡ 6) × ((k : ℕ) → k < l.k → get_or l.ends k 0 ≡ subtree_end l.rule (binder_node l.rule k))
