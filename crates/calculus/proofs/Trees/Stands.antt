-- A tree at the nodes of a rule body: how many nodes it takes, and that the formula decoded there is the tree's.
use Prim.Native.Nat.{ℕ, zero, suc, ◌+◌, ◌≤◌}
use mathlib.Core.Path.{◌≡◌}
use mathlib.Core.Bool.{Bool, true, false}
use mathlib.Core.List.{List}
use mathlib.Core.Logic.{◌⊎◌, inl, inr}
use native.Mathlib.Omega.{arith}
use Rattle.sheet.specs.Rule.{node_kind, node_x, node_y, one_if}
use Rattle.calculus.specs.Decode.{formula_within}
use Rattle.calculus.specs.Trees.{Tree, formula_of, tree_size, tree_within}

-- the nodes from n up to e of the body r are the tree
pub data Stands (r : List ℕ) : Tree → ℕ → ℕ → Type 0 where
  constant : {b : Bool} {n : ℕ} → node_kind r n ≡ one_if b → node_x r n ≡ 0 → node_y r n ≡ 0 → Stands r (Tree.constant b) n (suc n)
  pair : {b : Bool} {l t : Tree} {n m e : ℕ} → node_kind r n ≡ 2 + one_if b → node_x r n ≡ suc n → node_y r n ≡ m → Stands r l (suc n) m
      → Stands r t m e → Stands r (Tree.pair b l t) n e
  modal : {b : Bool} {t : Tree} {n e x : ℕ} → node_kind r n ≡ 4 + one_if b → node_x r n ≡ x → node_y r n ≡ suc n → Stands r t (suc n) e
      → Stands r (Tree.modal b x t) n e
  variable : {n x : ℕ} → node_kind r n ≡ 6 → node_x r n ≡ x → node_y r n ≡ 0 → Stands r (Tree.variable x) n (suc n)
  binder : {b : Bool} {t : Tree} {n e x : ℕ} → node_kind r n ≡ 7 + one_if b → node_x r n ≡ x → node_y r n ≡ suc n → Stands r t (suc n) e
      → Stands r (Tree.binder b x t) n e

pub flag_small : (b : Bool) → one_if b ≤ 1
flag_small false = omega arith
flag_small true = omega arith

-- the flag chooses the first or the second of two kinds
pub one_of_two : {k c : ℕ} (b : Bool) → k ≡ c + one_if b → (k ≡ c) ⊎ (k ≡ c + 1)
one_of_two false q = inl (omega arith)
one_of_two true q = inr q

pub size_some : (t : Tree) → 1 ≤ tree_size t
unfolding tree_size
size_some (Tree.constant b) = omega arith
size_some (Tree.pair b l r) = omega arith
size_some (Tree.modal b e t) = omega arith
size_some (Tree.variable X) = omega arith
size_some (Tree.binder b X t) = omega arith

pub stands_end : {r : List ℕ} {t : Tree} {n e : ℕ} → Stands r t n e → e ≡ n + tree_size t
unfolding tree_size
stands_end (Stands.constant k x y) = omega arith
stands_end (Stands.pair k x y p q) = omega (arith, stands_end p, stands_end q)
stands_end (Stands.modal k x y p) = omega (arith, stands_end p)
stands_end (Stands.variable k x y) = omega arith
stands_end (Stands.binder k x y p) = omega (arith, stands_end p)

-- every depth of at least the number of its nodes decodes the formula
pub stands_formula : (a r : List ℕ) {t : Tree} {n e : ℕ} → Stands r t n e → (d : ℕ) → tree_size t ≤ d → formula_within d a r n ≡ formula_of a t
unfolding formula_within formula_of tree_size
stands_formula a r {t} p zero h = absurd (omega (arith, size_some t))
stands_formula a r (Stands.constant {b = false} k x y) (suc d) h = simp k
stands_formula a r (Stands.constant {b = true} k x y) (suc d) h = simp k
stands_formula a r (Stands.pair {b = false} k x y p q) (suc d) h =
    let i = stands_formula a r p d (omega arith) in
    let j = stands_formula a r q d (omega arith) in
    simp (k, x, y, i, j)
stands_formula a r (Stands.pair {b = true} k x y p q) (suc d) h =
    let i = stands_formula a r p d (omega arith) in
    let j = stands_formula a r q d (omega arith) in
    simp (k, x, y, i, j)
stands_formula a r (Stands.modal {b = false} k x y p) (suc d) h = let i = stands_formula a r p d (omega arith) in simp (k, x, y, i)
stands_formula a r (Stands.modal {b = true} k x y p) (suc d) h = let i = stands_formula a r p d (omega arith) in simp (k, x, y, i)
stands_formula a r (Stands.variable k x y) (suc d) h = simp (k, x)
stands_formula a r (Stands.binder {b = false} k x y p) (suc d) h = let i = stands_formula a r p d (omega arith) in simp (k, x, y, i)
stands_formula a r (Stands.binder {b = true} k x y p) (suc d) h = let i = stands_formula a r p d (omega arith) in simp (k, x, y, i)

-- and gives the tree back
pub stands_tree : (r : List ℕ) {t : Tree} {n e : ℕ} → Stands r t n e → (d : ℕ) → tree_size t ≤ d → tree_within d r n ≡ t
unfolding tree_within tree_size
stands_tree r {t} p zero h = absurd (omega (arith, size_some t))
stands_tree r (Stands.constant {b = false} k x y) (suc d) h = simp k
stands_tree r (Stands.constant {b = true} k x y) (suc d) h = simp k
stands_tree r (Stands.pair {b = false} k x y p q) (suc d) h =
    let i = stands_tree r p d (omega arith) in
    let j = stands_tree r q d (omega arith) in
    simp (k, x, y, i, j)
stands_tree r (Stands.pair {b = true} k x y p q) (suc d) h =
    let i = stands_tree r p d (omega arith) in
    let j = stands_tree r q d (omega arith) in
    simp (k, x, y, i, j)
stands_tree r (Stands.modal {b = false} k x y p) (suc d) h = let i = stands_tree r p d (omega arith) in simp (k, x, y, i)
stands_tree r (Stands.modal {b = true} k x y p) (suc d) h = let i = stands_tree r p d (omega arith) in simp (k, x, y, i)
stands_tree r (Stands.variable k x y) (suc d) h = simp (k, x)
stands_tree r (Stands.binder {b = false} k x y p) (suc d) h = let i = stands_tree r p d (omega arith) in simp (k, x, y, i)
stands_tree r (Stands.binder {b = true} k x y p) (suc d) h = let i = stands_tree r p d (omega arith) in simp (k, x, y, i)
