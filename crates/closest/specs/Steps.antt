-- Document 02 (m): "the fewest steps from state 0", and the reachable states "taken by step count, then number". p is the body of a plan.
-- A step count is the distance of a state from state 0, and the order is that of a breadth-first search, the lowest number first among
-- states of one distance.
use Rattle.std.specs.Prelude.{ℕ, zero, suc, ◌<◌, ◌≤◌, ◌≡◌, Bool, true, not, ◌&&◌, ◌||◌, ◌⊎◌, ◌↔◌, eqb}
use mathlib.Core.List.{List, [], ◌∷◌, ◌++◌, map, Memᴰ}
use Rattle.sheet.specs.Bytes.{pick}
use Rattle.sheet.specs.Plan.{state_count}
use Rattle.sheet.specs.TransitionSystem.{plan_of}
use Rattle.sheet.specs.WellFormed.{WellFormedPlan}
use Rattle.graph.specs.Loops.{Reachable}
use Rattle.graph.specs.Successors.{successors}
use Rattle.calculus.specs.Eval.{any_transition}

-- a way of n transitions from state 0 to a state; of none, to state 0 itself
pub data WayOf (p : List ℕ) : ℕ → ℕ → Type 0 where
  stay : WayOf p 0 0
  onward : {n s t : ℕ} → WayOf p n s → Memᴰ t (successors p s) → WayOf p (suc n) t

-- "the fewest steps from state 0": a way of n transitions leads to the state, and none of fewer does
pub record Steps (p : List ℕ) (state n : ℕ) : Type 0 where
  pub way : WayOf p n state
  pub fewest : (m : ℕ) → WayOf p m state → n ≤ m

-- a state of m steps comes before one of n steps, "taken by step count, then number": "the fewest steps .., the lowest number between
-- equals"
abbrev pub Earlier : ℕ → ℕ → ℕ → ℕ → Type 0
Earlier m state n other = (m < n) ⊎ ((m ≡ n) × (state < other))

-- ---- the same computed, for contracts to cite

-- a way of n transitions or fewer leads to t
unfoldable pub within : List ℕ → ℕ → ℕ → Bool
within p zero t = eqb t 0
within p (suc n) t = within p n t || any_transition (λ x. within p n x.origin && eqb x.target t) (plan_of p).transitions

-- t has n steps: a way of n transitions, and none of fewer, leads there
unfoldable pub at_steps : List ℕ → ℕ → ℕ → Bool
at_steps p zero t = within p zero t
at_steps p (suc n) t = within p (suc n) t && not (within p n t)

-- a reachable state and its step count
pub record Reached : Type 0 where
  pub state : ℕ
  pub steps : ℕ

abbrev pub reached_at : ℕ → ℕ → Reached
reached_at n state = record { state = state; steps = n }

-- of the k states from s on, those that pass a test, by number
unfoldable pub passing : (ℕ → Bool) → ℕ → ℕ → List ℕ
passing q zero s = []
passing q (suc k) s = pick (q s) (s ∷ passing q k (suc s)) (passing q k (suc s))

-- the states of n steps, by number: a layer of the breadth-first search
abbrev pub layer : List ℕ → ℕ → List Reached
layer p n = map (reached_at n) (passing (at_steps p n) (state_count p) 0)

-- "taken by step count, then number": the states of n steps, of n + 1 and so on, k layers in all
unfoldable pub layers_from : List ℕ → ℕ → ℕ → List Reached
layers_from p zero n = []
layers_from p (suc k) n = layer p n ++ layers_from p k (suc n)

-- all reachable states in that order: none has more than S steps
abbrev pub reachable_states : List ℕ → List Reached
reachable_states p = layers_from p (suc (state_count p)) 0

-- y comes after x
abbrev pub After : Reached → Reached → Type 0
After y x = Earlier x.steps x.state y.steps y.state

-- a list in which each comes before all that stand behind it
pub data InOrder : List Reached → Type 0 where
  none : InOrder []
  next : {x : Reached} {l : List Reached} → ((y : Reached) → Memᴰ y l → After y x) → InOrder l → InOrder (x ∷ l)

-- What is computed is what is said. Shown by steps_exactly of proofs/Statements/StepsExactly.antt.
pub record StepsExactly : Type 0 where
  -- a state to which a way of some number of transitions leads is one that can be reached from state 0
  pub reachable : (p : List ℕ) (t : ℕ) → ((n : ℕ) × WayOf p n t) ↔ Reachable (successors p) 0 t
  -- a reachable state has one step count
  pub counted : (p : List ℕ) (t : ℕ) → Reachable (successors p) 0 t → (n : ℕ) × Steps p t n
  pub one_count : (p : List ℕ) (t n m : ℕ) → Steps p t n → Steps p t m → n ≡ m
  -- state 0 has none
  pub start : (p : List ℕ) → Steps p 0 0
  pub computed : (p : List ℕ) (t n : ℕ) → (at_steps p n t ≡ true) ↔ Steps p t n
  -- of a well-formed plan, the list has exactly the reachable states, each with its step count, in order
  pub listed : (p : List ℕ) → WellFormedPlan p → (t n : ℕ) → Memᴰ (reached_at n t) (reachable_states p) ↔ Steps p t n
  pub ordered : (p : List ℕ) → InOrder (reachable_states p)
