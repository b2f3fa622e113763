-- A verdict and its visits in one number.
use Rattle.std.specs.Prelude.{◌≡◌, ℕ, ◌+◌, ◌/◌, ◌%◌, ◌<◌, ◌≤◌, Bool, ◌==◌}
use Rattle.rows.specs.Tables.{known}

-- what a packed number stays below: that of a cell, and the sum of those that a walk passes
abbrev pub packed_bound : ℕ
packed_bound = 131072

abbrev pub packed_limit : ℕ
packed_limit = 1000000000

-- verdict and visits in one number: twice the visits, and one where the verdict is true
abbrev pub verdict_in : ℕ → Bool
verdict_in w = w % 2 == 1

abbrev pub visits_in : ℕ → ℕ
visits_in w = w / 2

-- r has the verdict of a filled byte and no visit
pub record Known (b r : ℕ) : Type 0 where
  pub verdict_is : verdict_in r ≡ known b
  pub visits_are : visits_in r ≡ 0
  pub small : r < 2

-- r has the verdict of the second and the visits of both
pub record Added (first second r : ℕ) : Type 0 where
  pub verdict_is : verdict_in r ≡ verdict_in second
  pub visits_are : visits_in r ≡ visits_in first + visits_in second
  pub small : r ≤ first + second

-- r has the verdict of w and one visit more
pub record OneVisitMore (w r : ℕ) : Type 0 where
  pub verdict_is : verdict_in r ≡ verdict_in w
  pub visits_are : visits_in r ≡ visits_in w + 1
  pub small : r ≡ w + 2
