-- Dealings to try, worked out by hand. Shown by dealings_to_try of proofs/Statements/DealingsToTry.antt.
use Rattle.std.specs.Prelude.{◌≡◌, [], ◌∷◌}
use Rattle.allowance.specs.Dealing.{deal}

pub record DealingsToTry : Type 0 where
  -- rounds: 1 1 1, then 1 . 1, then 1 . 1, and the visits are spent
  pub seven : deal (5 ∷ 1 ∷ 3 ∷ []) 7 ≡ 3 ∷ 1 ∷ 3 ∷ []
  -- the last round ends at the first bench
  pub six : deal (5 ∷ 1 ∷ 3 ∷ []) 6 ≡ 3 ∷ 1 ∷ 2 ∷ []
  -- fewer visits than benches: the first ones get them
  pub two : deal (5 ∷ 1 ∷ 3 ∷ []) 2 ≡ 1 ∷ 1 ∷ 0 ∷ []
  -- none is short before the visits are spent
  pub plenty : deal (5 ∷ 0 ∷ 3 ∷ []) 20 ≡ 5 ∷ 0 ∷ 3 ∷ []
  -- what one bench does not need, the other gets, beyond V divided by k
  pub left_over : deal (40 ∷ 2 ∷ []) 30 ≡ 28 ∷ 2 ∷ []
  pub no_visits : deal (5 ∷ 1 ∷ []) 0 ≡ 0 ∷ 0 ∷ []
  pub one_bench : deal (4 ∷ []) 3 ≡ 3 ∷ []
