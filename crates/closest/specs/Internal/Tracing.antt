-- The last transition of the way to each state, and the way put together from its end. Contracts of private functions cite these; no
-- promise of a public call does.
use Rattle.std.specs.Prelude.{ℕ, suc, ◌*◌, ◌≤◌, ◌≡◌, List, length, get_or}
use Rattle.sheet.specs.WellFormed.{WellFormedPlan}
use Rattle.graph.specs.Search.{most_states}
use Rattle.closest.specs.Steps.{Steps}
use Rattle.closest.specs.Tracing.{last_transition}

-- of each state that can be reached, but state 0
pub record LastsRight (p lasts : List ℕ) : Type 0 where
  pub room : length lasts ≡ most_states
  pub right : (t n : ℕ) → Steps p t (suc n) → get_or lasts t 0 ≡ last_transition p n t

-- a way to a state of n steps is to be put at the start of an output
pub record WayRequires (p lasts : List ℕ) (state n : ℕ) (out : List ℕ) : Type 0 where
  pub kept : WellFormedPlan p
  pub lasts_right : LastsRight p lasts
  pub counted : Steps p state n
  pub room : 3 * n ≤ length out
