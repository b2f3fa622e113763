-- The test for loops that a search computes, and that it fails exactly where a loop can be reached.
use Rattle.std.specs.Prelude.{ℕ, zero, suc, ◌<◌, ◌≡◌, Bool, true, false, ◌&&◌, List, [], ◌∷◌, ◌↔◌}
use Rattle.sheet.specs.Plan.{state_count}
use Rattle.sheet.specs.WellFormed.{WellFormedPlan}
use Rattle.graph.specs.Loops.{LoopReachable}
use Rattle.graph.specs.Successors.{successors}

-- a test passed by every state of a list
unfoldable pub all_pass : (ℕ → Bool) → List ℕ → Bool
all_pass p [] = true
all_pass p (s ∷ l) = p s && all_pass p l

-- round 0 settles no state; round r + 1 settles a state whose every successor is settled in round r
unfoldable pub settled : (ℕ → List ℕ) → ℕ → ℕ → Bool
settled next zero s = false
settled next (suc r) s = all_pass (λ t. settled next r t) (next s)

-- the test behind refusal 12: the state is settled after S rounds
abbrev pub loop_free : List ℕ → ℕ → Bool
loop_free p state = settled (successors p) (state_count p) state

-- Document 02 (b), "exactly when a loop can be reached from the queried state": of a well-formed plan, at a state that it has, the test
-- passes exactly where no loop can be reached (`free_exactly` of proofs/Looptest/LoopFree.antt).
abbrev pub FreeExactly : Type 0
FreeExactly =
    (p : List ℕ) → WellFormedPlan p → (state : ℕ) → state < state_count p
    → (loop_free p state ≡ true) ↔ (LoopReachable (successors p) state → ⊥)
