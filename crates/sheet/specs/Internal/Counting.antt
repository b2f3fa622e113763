-- What the loops over a rule's nodes hold. Contracts of private functions cite it; no promise of a public call does.
use Rattle.std.specs.Prelude.{ℕ, ◌≤◌, ◌≡◌, List}
use Rattle.sheet.specs.Rule.{binders_before}

-- the number of binders among the first n nodes
pub record BindersCounted (r : List ℕ) (n binders : ℕ) : Type 0 where
  pub is : binders ≡ binders_before r n
  pub few : binders ≤ n
