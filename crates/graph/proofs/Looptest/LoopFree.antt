-- The test for loops passes at a state exactly where no loop can be reached from it.
use Prim.Native.Nat.{ℕ, ◌<◌}
use mathlib.Core.Path.{◌≡◌}
use mathlib.Core.Bool.{true, false}
use mathlib.Core.List.{List}
use mathlib.Core.Logic.{◌↔◌}
use Rattle.sheet.specs.Plan.{state_count}
use Rattle.sheet.specs.WellFormed.{WellFormedPlan}
use Rattle.graph.specs.Loops.{LoopReachable}
use Rattle.graph.specs.Successors.{successors}
use Rattle.graph.specs.LoopTest.{loop_free, FreeExactly}
use Rattle.graph.proofs.Looptest.Settled.{settled_exactly, settled_or_loop}
use Rattle.graph.proofs.Looptest.Successors.{successor_below}

module _ (p : List ℕ) (kept : WellFormedPlan p) (s : ℕ) (h : s < state_count p) where
  pub free_exactly_at : (loop_free p s ≡ true) ↔ (LoopReachable (successors p) s → ⊥)
  free_exactly_at = settled_exactly (successors p) (state_count p) (λ u l t m. successor_below kept u t m) s h

  pub loop_reachable : loop_free p s ≡ false → LoopReachable (successors p) s
  loop_reachable e = settled_or_loop (successors p) (state_count p) (λ u l t m. successor_below kept u t m) s h e

-- the same, closed
pub free_exactly : FreeExactly
free_exactly p kept state below = free_exactly_at p kept state below
