-- `sheet::rule::subtree_end` meets its contract. Of the loop: what is left of the way gives the same end.
use mathlib.Core.Path.{◌≡◌}
use Prim.Native.Nat.{◌-◌, ◌+◌, ◌≤◌, ◌<◌}
use Rattle.sheet.specs.Rule.{end_within, subtree_end}
use Rattle.sheet.proofs.rule.subtree_end.Given as goal

abbrev pub invariant-loop-step : goal.invariant-loop-step
invariant-loop-step l = (l._step ≤ 64) × (l.at < 256 + l._step) × (end_within (64 - l._step) l.r l.at ≡ subtree_end l.r l.initial.at)
