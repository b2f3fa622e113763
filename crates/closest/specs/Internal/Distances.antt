-- The step counts of the states, found breadth first. Contracts of private functions cite these; no promise of a public call does.
use Rattle.std.specs.Prelude.{ℕ, suc, ◌+◌, ◌<◌, ◌≤◌, ◌≡◌, ◌≢◌, Option, None, Some, length, get_or, map, replicate, set, slice_get}
use mathlib.Core.List.{List, Memᴰ}
use Rattle.sheet.specs.WellFormed.{WellFormedPlan}
use Rattle.graph.specs.Explored.{first_from}
use Rattle.graph.specs.Search.{most_states}
use Rattle.graph.specs.Successors.{successors}
use Rattle.graph.specs.Internal.Searching.{unseen}
use Rattle.closest.specs.Steps.{WayOf, Steps}

-- where the transitions of each state begin, and at S where all end
pub record FirstsRight (p firsts : List ℕ) : Type 0 where
  pub room : length firsts ≡ most_states + 1
  pub first : (s : ℕ) → s ≤ most_states → get_or firsts s 0 ≡ first_from p s

-- the steps of each state, None where it is not reached
abbrev pub Distances : Type 0
Distances = List (Option ℕ)

-- state 0 has none, and no other state is reached
abbrev pub start_distances : Distances
start_distances = set (replicate most_states None) 0 (Some 0)

-- the mark of a state: 0 where it is not reached, else one more than its steps
abbrev pub mark_of : Option ℕ → ℕ
mark_of None = 0
mark_of (Some n) = suc n

abbrev pub marks_of : Distances → List ℕ
marks_of d = map mark_of d

-- The queue has the states reached so far, of which the first `done` have had their successors marked.
pub record Queued (p marks queue : List ℕ) (done : ℕ) : Type 0 where
  pub room : length marks ≡ most_states
  -- as many states are reached as are queued
  pub each_once : length queue + unseen marks ≡ most_states
  pub start : get_or marks 0 0 ≡ 1
  -- a queued state is reached, by a way that is no longer than its place
  pub queued : (j : ℕ) → j < length queue → (n : ℕ) × (get_or marks (get_or queue j 0) 0 ≡ suc n) × (n ≤ j) × WayOf p n (get_or queue j 0)
  -- a state that is reached is queued
  pub found : (t : ℕ) → get_or marks t 0 ≢ 0 → (j : ℕ) × (j < length queue) × (get_or queue j 0 ≡ t)
  -- later ones are not nearer, and no mark is more than one above that of the next to be done
  pub sorted : (j k : ℕ) → j ≤ k → k < length queue → get_or marks (get_or queue j 0) 0 ≤ get_or marks (get_or queue k 0) 0
  pub near : done < length queue → (k : ℕ) → k < length queue → get_or marks (get_or queue k 0) 0 ≤ suc (get_or marks (get_or queue done 0) 0)
  -- successors of the done ones
  pub passed :
      (j : ℕ) → j < done → (t : ℕ) → Memᴰ t (successors p (get_or queue j 0))
      → (get_or marks t 0 ≢ 0) × (get_or marks t 0 ≤ suc (get_or marks (get_or queue j 0) 0))

-- the successors of the next state are to be marked
pub record ReachRequires (p firsts marks queue : List ℕ) (done state : ℕ) : Type 0 where
  pub kept : WellFormedPlan p
  pub firsts_right : FirstsRight p firsts
  pub so_far : Queued p marks queue done
  pub is_next : slice_get queue done ≡ Some state

-- of each state its steps, None where it can't be reached
pub record StepsFound (p : List ℕ) (d : Distances) : Type 0 where
  pub room : length d ≡ most_states
  pub right : (t n : ℕ) → get_or d t None ≡ Some n → Steps p t n
  pub all : (t n : ℕ) → Steps p t n → get_or d t None ≡ Some n
