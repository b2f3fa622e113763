-- What the search from a state works with. Contracts of private functions cite these, and laws on the search; no promise of a public call
-- does.
use Rattle.std.specs.Prelude.{ℕ, zero, suc, ◌+◌, ◌<◌, ◌≤◌, ◌≡◌, Bool, true, false, List, [], ◌∷◌, ◌≢◌, length, get_or, map}
use Rattle.sheet.specs.Plan.{state_count, target}
use Rattle.graph.specs.Index.{Sized}
use Rattle.graph.specs.declared.Index.{Index}
use Rattle.graph.specs.declared.searching.Colour.{Colour}
use Rattle.graph.specs.declared.searching.Colour.TheVariants.{Unseen, Open, Done}
use Rattle.graph.specs.LoopTest.{settled}
use Rattle.graph.specs.Loops.{Way, Reachable}
use Rattle.graph.specs.Search.{held, Outcome, outcome, visit, colour_count}
use Rattle.graph.specs.Explored.{first_from, Indexed, ExploreRequires}
use Rattle.graph.specs.Successors.{successors}

-- the number of states not seen, of a list with a number for each state: 0 where it is not seen
unfoldable pub unseen : List ℕ → ℕ
unseen [] = 0
unseen (zero ∷ l) = suc (unseen l)
unseen (suc k ∷ l) = unseen l

-- the colours as numbers
abbrev pub colour_number : Colour → ℕ
colour_number Unseen = 0
colour_number Open = 1
colour_number Done = 2

-- the number of states not seen, of their colours
unfoldable pub unseen_states : List Colour → ℕ
unseen_states colours = unseen (map colour_number colours)

-- ---- what the code asks and promises, of any bytes

-- count is how many transitions are searched
pub record TransitionsCounted (p : List ℕ) (count : ℕ) : Type 0 where
  pub is_held : count ≡ held p
  pub few : count < 65536

-- a search may begin at a state: it is not done
pub record Visiting (p : List ℕ) (count : ℕ) (colours : List Colour) (state : ℕ) : Type 0 where
  pub counted : TransitionsCounted p count
  pub room : length colours ≡ colour_count
  pub not_done : get_or colours state Unseen ≢ Done

-- the search did what `visit` does, however deep that may go
pub record Visited (p : List ℕ) (index : Index) (before : List Colour) (index' : Index) (after : List Colour) (state : ℕ) (Found-None : Bool) : Type 0 where
  pub result : (f : ℕ) → unseen_states before < f → visit p f state index before ≡ outcome Found-None index' after
  pub same_length : length after ≡ length before
  pub none_forgotten : unseen_states after ≤ unseen_states before

-- ---- what `visit` leaves of a well-formed plan

-- a done state is settled and indexed, and its transitions lead to done states
pub record DoneState (p : List ℕ) (index : Index) (colours : List Colour) (u : ℕ) : Type 0 where
  pub is_settled : settled (successors p) (state_count p) u ≡ true
  pub indexed : Indexed p index u
  pub leads_on : (i : ℕ) → first_from p u ≤ i → i < first_from p (u + 1) → get_or colours (target p i) Unseen ≡ Done

pub record Coloured (p : List ℕ) (index : Index) (colours : List Colour) : Type 0 where
  pub done : (u : ℕ) → get_or colours u Unseen ≡ Done → DoneState p index colours u

-- a search may begin at a state: it is not done, and a way leads there from each open state
pub record Searching (p : List ℕ) (index : Index) (colours : List Colour) (state : ℕ) : Type 0 where
  pub explores : ExploreRequires p index state
  pub not_done : get_or colours state Unseen ≢ Done
  pub room : length colours ≡ colour_count
  pub coloured : Coloured p index colours
  pub open_leads : (u : ℕ) → get_or colours u Unseen ≡ Open → Way (successors p) u state

-- what the index says of where transitions begin and of actions stays
pub record Retains (p : List ℕ) (old new : Index) : Type 0 where
  pub size : Sized old → Sized new
  pub firsts_kept : (k : ℕ) → k ≤ state_count p → get_or old.firsts k 0 ≡ first_from p k → get_or new.firsts k 0 ≡ first_from p k
  pub notes_kept : (a : ℕ) → get_or old.actions a false ≡ true → get_or new.actions a false ≡ true

-- what a search leaves that met no loop
pub record Finished (p : List ℕ) (index : Index) (before : List Colour) (index' : Index) (after : List Colour) (state : ℕ) : Type 0 where
  pub state_done : get_or after state Unseen ≡ Done
  pub same_length : length after ≡ length before
  pub coloured : Coloured p index' after
  pub none_opened : (u : ℕ) → get_or after u Unseen ≡ Open → get_or before u Unseen ≡ Open
  pub none_forgotten : unseen_states after ≤ unseen_states before
  pub done_kept : (u : ℕ) → get_or before u Unseen ≡ Done → get_or after u Unseen ≡ Done
  pub retains : Retains p index index'

-- what a search leaves: a loop can be reached from the state, or the search met none
pub record Searched (p : List ℕ) (index : Index) (before : List Colour) (index' : Index) (after : List Colour) (state : ℕ) (Found-None : Bool) : Type 0 where
  pub looped : Found-None ≡ false → settled (successors p) (state_count p) state ≡ false
  pub finished : Found-None ≡ true → Finished p index before index' after state
  -- it colours no state that can't be reached from the state
  pub within : (u : ℕ) → get_or after u Unseen ≢ get_or before u Unseen → Reachable (successors p) state u

-- the same of an outcome
abbrev pub SearchedBy : List ℕ → Index → List Colour → ℕ → Outcome → Type 0
SearchedBy p index before state (outcome Found-None index' after) = Searched p index before index' after state Found-None
