-- The search of what can be reached from a state, or from several, as a function of a plan's bytes, an index and the states, whether the
-- plan is well formed or not. It goes depth first, looks for a loop, and stores on the way where the transitions of each state that it
-- comes to begin and end, and each of their actions. What it leaves for a well-formed plan is said in Explored.antt.
use Rattle.std.specs.Prelude.{ℕ, zero, suc, ◌+◌, ◌-◌, ◌/◌, Bool, true, false, ◌||◌, List, length, get_or, set, replicate, eqb, ltb}
use Rattle.sheet.specs.Bytes.{pick}
use Rattle.sheet.specs.Plan.{transition_count, origin, label, target}
use Rattle.graph.specs.Index.{with_first, with_action}
use Rattle.graph.specs.declared.Index.{Index}
use Rattle.graph.specs.declared.searching.Colour.{Colour}
use Rattle.graph.specs.declared.searching.Colour.TheVariants.{Unseen, Open, Done}

-- how many whole transitions of three bytes follow the first four bytes
abbrev pub whole_in : List ℕ → ℕ
whole_in p = (length p - 4) / 3

-- how many transitions are searched: T, or as many as the bytes have; T of a well-formed plan
unfoldable pub held : List ℕ → ℕ
held p = pick (ltb (whole_in p) (transition_count p)) (whole_in p) (transition_count p)

-- Halving: the first transition of state s or of a later one, where none below low is one and each from high on is, for transitions that
-- stand in the order of their origins. Each of at most f steps halves what lies between.
unfoldable pub halved : List ℕ → ℕ → ℕ → ℕ → ℕ → ℕ
halved p s zero low high = low
halved p s (suc f) low high =
    pick (ltb low high)
    (pick (ltb (origin p ((low + high) / 2)) s) (halved p s f ((low + high) / 2 + 1) high) (halved p s f low ((low + high) / 2)))
    low

-- where the transitions of state s begin
unfoldable pub first_by_halving : List ℕ → ℕ → ℕ
first_by_halving p s = halved p s (held p) 0 (held p)

-- a state is open: its search is under way
abbrev pub colour_is_open : Colour → Bool
colour_is_open Unseen = false
colour_is_open Open = true
colour_is_open Done = false

-- a state is done
abbrev pub colour_is_done : Colour → Bool
colour_is_done Unseen = false
colour_is_done Open = false
colour_is_done Done = true

-- What a search leaves: whether it found no loop, the index and the states' colours. A state is not seen yet, open or done.
pub data Outcome : Type 0 where
  outcome : Bool → Index → List Colour → Outcome

-- the parts of an outcome
abbrev pub found_none : Outcome → Bool
found_none (outcome none index colours) = none

abbrev pub index_left : Outcome → Index
index_left (outcome none index colours) = index

abbrev pub colours_left : Outcome → List Colour
colours_left (outcome none index colours) = colours

-- a search that found a loop ends; else what is left to do follows
abbrev pub go_on : (Index → List Colour → Outcome) → Outcome → Outcome
go_on rest (outcome true index colours) = rest index colours
go_on rest (outcome false index colours) = outcome false index colours

-- all transitions of s are passed: they end at i, and s is done
abbrev pub leave : ℕ → ℕ → Index → List Colour → Outcome
leave s i index colours = outcome true (with_first index (s + 1) i) (set colours s Done)

module _ (p : List ℕ) where
  -- rec searches the target of a transition
  module _ (rec : ℕ → Index → List Colour → Outcome) (s : ℕ) where
    -- the transitions of s from i on, where n are left in the plan: each one's action is noted, and its target searched unless it is done
    unfoldable pub scan : ℕ → ℕ → Index → List Colour → Outcome
    scan zero i index colours = leave s i index colours
    scan (suc n) i index colours =
        pick (eqb (origin p i) s)
        (pick (colour_is_done (get_or colours (target p i) Unseen))
        (scan n (i + 1) (with_action index (label p i)) colours)
        (go_on (λ x c. scan n (i + 1) x c) (rec (target p i) (with_action index (label p i)) colours)))
        (leave s i index colours)

    -- s is opened, and its transitions begin at i
    abbrev pub enter : ℕ → Index → List Colour → Outcome
    enter i index colours = scan (held p - i) i (with_first index s i) (set colours s Open)

    -- a state met while it is open lies on a loop
    unfoldable pub step : Index → List Colour → Outcome
    step index colours = pick (colour_is_open (get_or colours s Unseen)) (outcome false index colours) (enter (first_by_halving p s) index colours)

  -- the search of a state, f states deep; no more states can be open than there are colours, so the depth never runs out
  unfoldable pub visit : ℕ → ℕ → Index → List Colour → Outcome
  visit zero s index colours = outcome false index colours
  visit (suc f) s index colours = step (λ t x c. visit f t x c) s index colours

-- there is a colour for each number that a byte can give a state
abbrev pub colour_count : ℕ
colour_count = 256

-- the search from a state: no state is seen yet, and the search can go no deeper than there are states
unfoldable pub explored : List ℕ → Index → ℕ → Outcome
explored p index s = visit p (colour_count + 1) s index (replicate colour_count Unseen)

-- ---- the search from several states

-- "1 to 128 states": how many states a plan can have
abbrev pub most_states : ℕ
most_states = 128

-- of the n states from s on, in order: a search from each that starts names (its entry there is not 0) and that is not done already, the
-- colours handed on, up to the first that finds a loop
unfoldable pub sweep : List ℕ → List ℕ → ℕ → ℕ → Index → List Colour → Outcome
sweep p starts zero s index colours = outcome true index colours
sweep p starts (suc n) s index colours =
    pick (eqb (get_or starts s 0) 0 || colour_is_done (get_or colours s Unseen))
    (sweep p starts n (s + 1) index colours)
    (go_on (λ x c. sweep p starts n (s + 1) x c) (visit p (colour_count + 1) s index colours))

-- the search from all states that starts names: no state is seen yet
unfoldable pub explored_all : List ℕ → Index → List ℕ → Outcome
explored_all p index starts = sweep p starts most_states 0 index (replicate colour_count Unseen)
