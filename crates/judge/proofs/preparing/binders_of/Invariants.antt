-- `judge::preparing::binders_of` meets its contract. Of the loop: the k binders before node n are found.
use Rattle.std.proofs.Common.{◌≡◌, ℕ, ◌<◌, get_or, length}
use Rattle.sheet.specs.Rule.{binders_before, binder_node}
use Rattle.judge.proofs.preparing.binders_of.Given as goal

abbrev pub invariant-loop-n : goal.invariant-loop-n
invariant-loop-n l =
    (length l.binders ≡ 6) × (l.k ≡ binders_before l.rule l.n) × ((k : ℕ) → k < l.k → get_or l.binders k 0 ≡ binder_node l.rule k)
