-- What a search stores: where the transitions of the states begin and end, and the actions that they have.
use Rattle.std.specs.Prelude.{◌≡◌, ℕ, ◌+◌, true, false, length, replicate, set}
use Rattle.graph.specs.declared.Index.{Index}

-- there is a place for each value of a byte, and one more: the transitions of a state end where those of the next begin
abbrev pub byte_values : ℕ
byte_values = 256

-- the places that an index has
pub record Sized (index : Index) : Type 0 where
  pub firsts_are : length index.firsts ≡ byte_values + 1
  pub actions_are : length index.actions ≡ byte_values

-- nothing is stored
pub record Blank (index : Index) : Type 0 where
  pub no_firsts : index.firsts ≡ replicate (byte_values + 1) 0
  pub no_actions : index.actions ≡ replicate byte_values false

-- the transitions of state s begin at i
abbrev pub with_first : Index → ℕ → ℕ → Index
with_first index s i = record index { firsts = set index.firsts s i }

-- a transition has the action
abbrev pub with_action : Index → ℕ → Index
with_action index action = record index { actions = set index.actions action true }
