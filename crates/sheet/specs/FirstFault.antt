-- "for 9 the first fault met in preorder, a second child's number being looked at after the first child's part, a node left over being
-- faulty itself, a missing child the fault of its parent": the place of refusal 9, as the parts of the rule have it. Shown by
-- faults_in_preorder of proofs/Nodes/Faults.antt.
use Rattle.std.specs.Prelude.{ℕ, suc, ◌<◌, ◌≤◌, ◌≡◌, List, ◌↔◌, ◌⊎◌, ◌≢◌}
use Rattle.sheet.specs.Rule.{node_count, node_kind, node_x, node_y, syntax_fault}
use Rattle.sheet.specs.WellFormed.{Subtree}

-- "2 or, 3 and (children x, y)"
abbrev pub Pair : List ℕ → ℕ → Type 0
Pair r n = (node_kind r n ≡ 2) ⊎ (node_kind r n ≡ 3)

-- "4 some (diamond), 5 every (box) (x an action entry below the count, y the child)"
abbrev pub Modal : List ℕ → ℕ → Type 0
Modal r n = (node_kind r n ≡ 4) ⊎ (node_kind r n ≡ 5)

-- "7 least, 8 greatest fixed point (x the variable bound, y the child)"
abbrev pub Binder : List ℕ → ℕ → Type 0
Binder r n = (node_kind r n ≡ 7) ⊎ (node_kind r n ≡ 8)

-- the child number c is that of the node which is to be the child, and the rule has that node
pub record Child (r : List ℕ) (c node : ℕ) : Type 0 where
  pub number : c ≡ node
  pub among : node < node_count r

-- "9: a node's kind, field or child number.": node n is faulty, whatever its children's parts are
pub data NodeFault (entries : ℕ) (r : List ℕ) (n : ℕ) : Type 0 where
  -- kinds are 0 to 8
  kind : 9 ≤ node_kind r n → NodeFault entries r n
  -- "Unused fields are 0.": x and y of F and T, y of a variable
  constant_x : node_kind r n ≤ 1 → node_x r n ≢ 0 → NodeFault entries r n
  constant_y : node_kind r n ≤ 1 → node_y r n ≢ 0 → NodeFault entries r n
  variable_y : node_kind r n ≡ 6 → node_y r n ≢ 0 → NodeFault entries r n
  -- "x an action entry below the count"
  entry : Modal r n → entries ≤ node_x r n → NodeFault entries r n
  -- "a first or only child is the next node", "a missing child the fault of its parent"
  pair_child : Pair r n → (Child r (node_x r n) (suc n) → ⊥) → NodeFault entries r n
  modal_child : Modal r n → (Child r (node_y r n) (suc n) → ⊥) → NodeFault entries r n
  binder_child : Binder r n → (Child r (node_y r n) (suc n) → ⊥) → NodeFault entries r n

-- the first fault met in preorder from node n on, in the part of node n, is that of node m
pub data FirstFault (entries : ℕ) (r : List ℕ) : ℕ → ℕ → Type 0 where
  -- the node itself
  itself : {n : ℕ} → NodeFault entries r n → FirstFault entries r n n
  -- else a fault in the part of its first or only child
  first : {n m : ℕ} → (NodeFault entries r n → ⊥) → Pair r n ⊎ (Modal r n ⊎ Binder r n) → FirstFault entries r (suc n) m
      → FirstFault entries r n m
  -- else, the first child's part being the nodes up to e, "a second child's number being looked at after the first child's part": it is not
  -- e, or the rule has no node e
  second_number : {n e : ℕ} → (NodeFault entries r n → ⊥) → Pair r n → Subtree entries r (suc n) e → e ≤ node_count r
      → (Child r (node_y r n) e → ⊥) → FirstFault entries r n n
  -- else a fault in the second child's part
  second : {n e m : ℕ} → (NodeFault entries r n → ⊥) → Pair r n → Subtree entries r (suc n) e → Child r (node_y r n) e
      → FirstFault entries r e m → FirstFault entries r n m

-- the first fault of the rule is that of node m
pub data RuleFault (entries : ℕ) (r : List ℕ) (m : ℕ) : Type 0 where
  -- a fault in the root's part
  inside : FirstFault entries r 0 m → RuleFault entries r m
  -- "nothing follows the root's part", "a node left over being faulty itself"
  left_over : Subtree entries r 0 m → m < node_count r → RuleFault entries r m

-- of every rule body
pub record FaultsInPreorder : Type 0 where
  -- the place of refusal 9, a node of the rule, is exactly that of the first fault
  pub found :
      (entries : ℕ) (r : List ℕ) → 1 ≤ node_count r → (m : ℕ)
      → ((syntax_fault entries r ≡ m) × (m < node_count r)) ↔ RuleFault entries r m
  -- a rule has one first fault at most
  pub one : (entries : ℕ) (r : List ℕ) (m m' : ℕ) → RuleFault entries r m → RuleFault entries r m' → m ≡ m'
  -- and none exactly where its nodes are the root's subtree
  pub none :
      (entries : ℕ) (r : List ℕ) → 1 ≤ node_count r → ((m : ℕ) → RuleFault entries r m → ⊥) ↔ Subtree entries r 0 (node_count r)
