-- What is asked and promised where nodes are put. Contracts of private functions cite these; no promise of a public call does.
use Rattle.std.specs.Prelude.{ℕ, ◌+◌, ◌*◌, ◌<◌, ◌≤◌, ◌≡◌, Bool, List, ◌++◌, length, set, take, ltb, eqb}
use Rattle.sheet.specs.Bytes.{pick}
use Rattle.sheet.specs.Rule.{one_if}
use Rattle.sheet.specs.WellFormed.{WellFormedRule}
use Rattle.sheet.specs.declared.Fields.{Fields}
use Rattle.calculus.specs.Trees.{Tree, tree_size, binders, nodes_from}

-- how much of the rule is made, so many nodes and binders; or it becomes larger than a rule may be
pub data Progress : Type 0 where
  Made : ℕ → ℕ → Progress
  Exceeded : Progress

-- a node of a rule with n nodes and b binders before the rule: children and variables are numbered on from them
unfoldable pub moved : ℕ → ℕ → Fields → Fields
moved n b f =
    pick (ltb f.kind 2) f
    (pick (ltb f.kind 4) (record { kind = f.kind; x = f.x + n; y = f.y + n })
    (pick (ltb f.kind 6) (record { kind = f.kind; x = f.x; y = f.y + n })
    (pick (eqb f.kind 6) (record { kind = f.kind; x = f.x + b; y = f.y })
    (record { kind = f.kind; x = f.x + b; y = f.y + n }))))

-- its kind is one, and its numbers are small enough for that
pub record Movable (f : Fields) (n b : ℕ) : Type 0 where
  pub known : f.kind ≤ 8
  pub small_x : f.x ≤ 64
  pub small_y : f.y ≤ 64
  pub few_nodes : n ≤ 64
  pub few_binders : b ≤ 6

-- The fields of node n by its kind: every chooses the first or the second of two kinds. An "or" or "and" whose second child is m; a "some"
-- or "every" with entry e; a variable; a least or greatest fixed point.
abbrev pub pair_fields : Bool → ℕ → ℕ → Fields
pair_fields every n m = record { kind = 2 + one_if every; x = n + 1; y = m }

abbrev pub modal_fields : Bool → ℕ → ℕ → Fields
modal_fields every n e = record { kind = 4 + one_if every; x = e; y = n + 1 }

abbrev pub variable_fields : ℕ → Fields
variable_fields X = record { kind = 6; x = X; y = 0 }

abbrev pub binder_fields : Bool → ℕ → ℕ → Fields
binder_fields every n X = record { kind = 7 + one_if every; x = X; y = n + 1 }

-- node n put into a rule body
abbrev pub with_node : List ℕ → ℕ → Fields → List ℕ
with_node out n f = set (set (set out (1 + 3 * n) f.kind) (1 + 3 * n + 1) f.x) (1 + 3 * n + 2) f.y

-- r is the rule of an accepted sheet, n nodes and b binders are made, and there is room for 64
pub record Making (r : List ℕ) (n b : ℕ) (out : List ℕ) : Type 0 where
  pub entries : ℕ
  pub kept : WellFormedRule entries r
  pub few_entries : entries ≤ 32
  pub few_nodes : n ≤ 64
  pub few_binders : b ≤ 6
  pub room : length out ≡ 193

-- the nodes of t follow the n nodes and b binders that are made, and then there are n' and b'
pub record Followed (t : Tree) (n b : ℕ) (out out' : List ℕ) (n' b' : ℕ) : Type 0 where
  pub nodes_are : n' ≡ n + tree_size t
  pub binders_are : b' ≡ b + binders t
  pub few_nodes : n' ≤ 64
  pub few_binders : b' ≤ 6
  pub sized : length out' ≡ length out
  pub bytes : take (1 + 3 * n') out' ≡ take (1 + 3 * n) out ++ nodes_from n t

-- with the nodes of t behind n nodes and b binders the rule is larger than it may be
pub data Exceeds (t : Tree) (n b : ℕ) : Type 0 where
  nodes : 64 < n + tree_size t → Exceeds t n b
  bound : 6 < b + binders t → Exceeds t n b

-- one or the other, as the progress says
pub data Progressed (t : Tree) (n b : ℕ) (out out' : List ℕ) : Progress → Type 0 where
  followed : {n' b' : ℕ} → Followed t n b out out' n' b' → Progressed t n b out out' (Made n' b')
  exceeded : Exceeds t n b → Progressed t n b out out' Exceeded
