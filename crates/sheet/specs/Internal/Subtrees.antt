-- What the recursive reading of a rule's nodes promises. Contracts of private functions cite these; no promise of a public call does.
use Rattle.std.specs.Prelude.{ℕ, ◌+◌, ◌<◌, ◌≤◌, ◌≡◌, List, Err, Ok}
use Rattle.sheet.specs.Rule.{node_count, extent}
use Rattle.sheet.specs.Rule.{Extent}

-- node n is a node of a rule of at most 64
pub record NodeOf (r : List ℕ) (n : ℕ) : Type 0 where
  pub small : node_count r ≤ 64
  pub among : n < node_count r

-- a subtree of node n ends after n and within the rule; a fault is a node of the rule
abbrev pub Bounded : ℕ → ℕ → Extent → Type 0
Bounded n count (Ok e) = (n < e) × (e ≤ count)
Bounded n count (Err m) = (n ≤ m.0) × (m.0 < count)

-- x is the subtree of node n, at every depth that is enough
pub record Ended (entries : ℕ) (r : List ℕ) (n : ℕ) (x : Extent) : Type 0 where
  pub is : (depth : ℕ) → node_count r ≤ depth + n → extent depth entries r n ≡ x
  pub bounded : Bounded n (node_count r) x
