-- What the writer knows when it writes. Contracts of private functions cite it; no promise of a public call does.
use Rattle.std.specs.Prelude.{ℕ, ◌<◌, ◌≤◌, List, length}
use Rattle.sheet.specs.Writing.{sheet_length}

-- lengths that two bytes hold, and an output with room for the sheet
pub record Room (p a r out : List ℕ) : Type 0 where
  pub plan_short : length p < 65536
  pub actions_short : length a < 65536
  pub rule_short : length r < 65536
  pub room : sheet_length p a r ≤ length out
