-- What the search from a state, or from several, leaves for a well-formed plan: its answer, and what the index says of each state that can
-- be reached.
use Rattle.std.specs.Prelude.{ℕ, ◌+◌, ◌<◌, ◌≤◌, ◌≡◌, Bool, true, false, List, ◌≢◌, get_or, leb}
use Rattle.sheet.specs.Bytes.{lowest}
use Rattle.sheet.specs.Plan.{state_count, action_count, transition_count, origin, label}
use Rattle.sheet.specs.WellFormed.{WellFormedPlan}
use Rattle.graph.specs.Index.{Sized}
use Rattle.graph.specs.declared.Index.{Index}
use Rattle.graph.specs.declared.searching.Colour.TheVariants.{Unseen}
use Rattle.graph.specs.Loops.{Reachable}
use Rattle.graph.specs.LoopTest.{loop_free}
use Rattle.graph.specs.Search.{found_none, index_left, colours_left, explored, explored_all}
use Rattle.graph.specs.Successors.{successors}

-- transitions stand in the order of their origins: the first of state s or of a later one, or T
unfoldable pub first_from : List ℕ → ℕ → ℕ
first_from p s = lowest (λ i. leb s (origin p i)) (transition_count p)

-- what the index says of a state: where its transitions begin and end, and that it has each of their actions
pub record Indexed (p : List ℕ) (index : Index) (u : ℕ) : Type 0 where
  pub state_below : u < state_count p
  pub begins : get_or index.firsts u 0 ≡ first_from p u
  pub ends : get_or index.firsts (u + 1) 0 ≡ first_from p (u + 1)
  pub noted : (i : ℕ) → first_from p u ≤ i → i < first_from p (u + 1) → get_or index.actions (label p i) false ≡ true

-- what a search leaves: its answer, and where no loop can be reached, what the index says of each state that can
pub record Explored (p : List ℕ) (index index' : Index) (state : ℕ) (Found-None : Bool) : Type 0 where
  pub answer : Found-None ≡ loop_free p state
  pub size : Found-None ≡ true → Sized index'
  pub reached : Found-None ≡ true → (u : ℕ) → Reachable (successors p) state u → Indexed p index' u

-- a search from a state of a well-formed plan; the number of actions is a byte
pub record ExploreRequires (p : List ℕ) (index : Index) (state : ℕ) : Type 0 where
  pub kept : WellFormedPlan p
  pub few_actions : action_count p < 256
  pub sized : Sized index
  pub state_below : state < state_count p

-- The search leaves that (`search_right` of proofs/Search/SearchRight.antt).
abbrev pub SearchRight : Type 0
SearchRight =
    (p : List ℕ) (index : Index) (state : ℕ) → ExploreRequires p index state
    → Explored p index (index_left (explored p index state)) state (found_none (explored p index state))

-- It colours no state that can't be reached (`search_within` of proofs/Search/SearchRight.antt).
abbrev pub SearchWithin : Type 0
SearchWithin =
    (p : List ℕ) (index : Index) (state : ℕ) → ExploreRequires p index state
    → (u : ℕ) → get_or (colours_left (explored p index state)) u Unseen ≢ Unseen → Reachable (successors p) state u

-- ---- the search from several states

-- state s is one of those that starts names: its entry there is not 0
abbrev pub StartsFrom : List ℕ → ℕ → Type 0
StartsFrom starts s = get_or starts s 0 ≢ 0

-- what that search leaves: its answer, and where no loop can be reached from any of them, what the index says of each state that can be
-- reached
pub record ExploredAll (p : List ℕ) (index index' : Index) (starts : List ℕ) (Found-None : Bool) : Type 0 where
  pub free : Found-None ≡ true → (s : ℕ) → StartsFrom starts s → loop_free p s ≡ true
  pub looped : Found-None ≡ false → (s : ℕ) × StartsFrom starts s × (loop_free p s ≡ false)
  pub size : Found-None ≡ true → Sized index'
  pub reached : Found-None ≡ true → (s : ℕ) → StartsFrom starts s → (u : ℕ) → Reachable (successors p) s u → Indexed p index' u

-- searches from states of a well-formed plan; the number of actions is a byte
pub record ExploreAllRequires (p : List ℕ) (index : Index) (starts : List ℕ) : Type 0 where
  pub kept : WellFormedPlan p
  pub few_actions : action_count p < 256
  pub sized : Sized index
  pub starts_below : (s : ℕ) → StartsFrom starts s → s < state_count p

-- The search leaves that (`search_all_right` of proofs/Search/SearchAll.antt).
abbrev pub SearchAllRight : Type 0
SearchAllRight =
    (p : List ℕ) (index : Index) (starts : List ℕ) → ExploreAllRequires p index starts
    → ExploredAll p index (index_left (explored_all p index starts)) starts (found_none (explored_all p index starts))
