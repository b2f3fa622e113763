-- What private functions ask and promise. No promise of a public call cites these.
use Rattle.std.specs.Prelude.{ℕ, ◌<◌, ◌≤◌, ◌≡◌, Bool, List, leb}
use Rattle.sheet.specs.Rule.{node_count, binder_node}
use Rattle.sheet.specs.WellFormed.{WellFormedRule}
use Rattle.calculus.specs.Definition2.{guarded_in}
use Rattle.calculus.specs.Decode.{formula}

-- The set of Definition 2 on the way to a node: the variables whose binders stand at a node from first on. Of these only binders above
-- the node matter, since no other variable is free there.
abbrev pub bound_since : List ℕ → ℕ → ℕ → Bool
bound_since r first k = leb first (binder_node r k)

-- node n of a rule that keeps the rules of a sheet, and a node first that is not after it
pub record Since (r : List ℕ) (n first : ℕ) : Type 0 where
  pub entries : ℕ
  pub kept : WellFormedRule entries r
  pub among : n < node_count r
  pub since : first ≤ n

-- b says whether the formula of node n is guarded with respect to that set; action formulas have no part in it
pub record GuardedSince (r : List ℕ) (n first : ℕ) (b : Bool) : Type 0 where
  pub is : (a : List ℕ) → b ≡ guarded_in (formula a r n) (bound_since r first)
