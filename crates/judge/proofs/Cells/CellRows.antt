-- The row of a cell, kind by kind: of any bytes, and of a well-formed rule, in which a node's child, or its first child, is the next node.
use Rattle.std.proofs.Common.{◌≡◌, ℕ, suc, ◌+◌, ◌<◌, ◌≤◌, Bool, true, false, eqb, ◌⊎◌, List, [], ◌∷◌, refl, ap, ◌∙◌, inl, inr, arith, eq-eqb, ne_eqb}
use mathlib.Core.Bool.{beq}
use native.Mathlib.Decide.{ℕ_discrete}
use Rattle.sheet.specs.Bytes.{pick}
use Rattle.sheet.specs.Plan.{action_count}
use Rattle.sheet.specs.Rule.{node_count, node_kind, node_x, node_y, binder_node}
use Rattle.sheet.specs.WellFormed.{WellFormedRule}
use Rattle.sheet.proofs.Nodes.Subtrees.{pair_subtrees, modal_subtree, binder_subtree}
use Rattle.sheet.specs.TransitionSystem.{plan_of}
use Rattle.sheet.specs.Kinds.{node_sort}
use Rattle.sheet.proofs.Nodes.Children.{node_subtree}
use Rattle.rows.specs.Rows.{Row, Connective, disjunction, conjunction, decides}
use Rattle.rows.specs.Tables.{constant}
use Rattle.judge.specs.Cells.{Cell, cell, one_entry, following, opened, outer, constant_of, row_of, rows}

abbrev pub row : Connective → List Cell → Row Cell
row k l = record { connective = k; entries = l }

abbrev pub or_if : Bool → Connective
or_if b = pick b disjunction conjunction

-- the verdict that decides is true for an "or", false for an "and"
pub or_decides : (x b : Bool) → decides (or_if x) b ≡ beq b x
or_decides true b = refl
or_decides false b = refl

module _ (p a r : List ℕ) (m n s : ℕ) where
  abbrev pub RowIs : Row Cell → Type 0
  RowIs w = rows p a r (cell m n s) ≡ w

  -- each kind's row is what Cells.row_of says
  pub of_kind : (k : ℕ) → node_kind r n ≡ k → RowIs (row_of p a r (cell m n s) (node_sort k))
  unfolding rows
  of_kind k q = ap (λ (i : ℕ). row_of p a r (cell m n s) (node_sort i)) q

  -- of two kinds, k for an "or" and k + 1 for an "and"
  or_and : (k : ℕ) (l : List Cell) → (node_kind r n ≡ k → RowIs (row disjunction l)) → (node_kind r n ≡ k + 1 → RowIs (row conjunction l))
      → k ≤ node_kind r n → node_kind r n < k + 2 → RowIs (row (or_if (eqb (node_kind r n) k)) l)
  or_and k l one other h g =
      elim (ℕ_discrete (node_kind r n) k) [
        | yes q ↦ one q ∙ rw (eq-eqb (node_kind r n) k q)
        | no q ↦ other (omega arith) ∙ rw (ne_eqb (node_kind r n) k q)
      ]

  abbrev pub children : List Cell
  children = cell m (node_x r n) s ∷ cell m (node_y r n) s ∷ []

  abbrev pub followed : List Cell
  followed = following (action_count p) a (node_x r n) (node_y r n) s (plan_of p).transitions

  pub pair_row : 2 ≤ node_kind r n → node_kind r n < 4 → RowIs (row (or_if (eqb (node_kind r n) 2)) children)
  pair_row = or_and 2 children (of_kind 2) (of_kind 3)

  pub modal_row : 4 ≤ node_kind r n → node_kind r n < 6 → RowIs (row (or_if (eqb (node_kind r n) 4)) followed)
  modal_row = or_and 4 followed (of_kind 4) (of_kind 5)

  pub outer_row : node_kind r n ≡ 6 → outer (node_x r n) m ≡ true → RowIs (one_entry (cell 0 (binder_node r (node_x r n)) s))
  outer_row q o = of_kind 6 q ∙ rw o

  pub constant_row : node_kind r n ≡ 6 → outer (node_x r n) m ≡ false → RowIs (constant_of r (binder_node r (node_x r n)))
  constant_row q o = of_kind 6 q ∙ rw o

  pub fixpoint_row : 7 ≤ node_kind r n → node_kind r n < 9 → RowIs (one_entry (cell (opened (node_x r n) m) (node_y r n) s))
  fixpoint_row h g = elim (ℕ_discrete (node_kind r n) 7) [ yes q ↦ of_kind 7 q | no q ↦ of_kind 8 (omega arith) ]

  -- no node of an accepted sheet
  pub unknown_row : 9 ≤ node_kind r n → RowIs (constant false)
  unfolding rows
  unknown_row h =
      let no : (k : ℕ) → k < 9 → eqb (node_kind r n) k ≡ false = λ k l. ne_eqb (node_kind r n) k (λ q. omega arith) in
      rw (no 0 (omega arith), no 1 (omega arith), no 2 (omega arith), no 3 (omega arith), no 4 (omega arith))
      (rw (no 5 (omega arith), no 6 (omega arith), no 7 (omega arith), no 8 (omega arith)))

module _ (p a : List ℕ) {entries : ℕ} {r : List ℕ} (kept : WellFormedRule entries r) (m n s : ℕ) (l : n < node_count r) where
  abbrev Is : Row Cell → Type 0
  Is w = RowIs p a r m n s w

  pair : (k : Connective) → Is (row k (children p a r m n s)) → 2 ≤ node_kind r n → node_kind r n < 4
      → Is (row k (cell m (suc n) s ∷ cell m (node_y r n) s ∷ []))
  pair k e h g = e ∙ ap (λ (i : ℕ). row k (cell m i s ∷ cell m (node_y r n) s ∷ [])) (pair_subtrees (node_subtree kept n l).whole h g).x_is

  modal : (k : Connective) → Is (row k (followed p a r m n s)) → 4 ≤ node_kind r n → node_kind r n < 6
      → Is (row k (following (action_count p) a (node_x r n) (suc n) s (plan_of p).transitions))
  modal k e h g =
      e ∙ ap (λ (i : ℕ). row k (following (action_count p) a (node_x r n) i s (plan_of p).transitions))
      (modal_subtree (node_subtree kept n l).whole h g).y_is

  pub false_row : node_kind r n ≡ 0 → Is (constant false)
  false_row = of_kind p a r m n s 0

  pub true_row : node_kind r n ≡ 1 → Is (constant true)
  true_row = of_kind p a r m n s 1

  pub or_row : node_kind r n ≡ 2 → Is (row disjunction (cell m (suc n) s ∷ cell m (node_y r n) s ∷ []))
  or_row q = pair disjunction (of_kind p a r m n s 2 q) (omega arith) (omega arith)

  pub and_row : node_kind r n ≡ 3 → Is (row conjunction (cell m (suc n) s ∷ cell m (node_y r n) s ∷ []))
  and_row q = pair conjunction (of_kind p a r m n s 3 q) (omega arith) (omega arith)

  pub some_row : node_kind r n ≡ 4 → Is (row disjunction (following (action_count p) a (node_x r n) (suc n) s (plan_of p).transitions))
  some_row q = modal disjunction (of_kind p a r m n s 4 q) (omega arith) (omega arith)

  pub every_row : node_kind r n ≡ 5 → Is (row conjunction (following (action_count p) a (node_x r n) (suc n) s (plan_of p).transitions))
  every_row q = modal conjunction (of_kind p a r m n s 5 q) (omega arith) (omega arith)

  pub variable_row : node_kind r n ≡ 6
      → Is (pick (outer (node_x r n) m) (one_entry (cell 0 (binder_node r (node_x r n)) s)) (constant_of r (binder_node r (node_x r n))))
  variable_row = of_kind p a r m n s 6

  fixpoint : 7 ≤ node_kind r n → node_kind r n < 9 → Is (one_entry (cell (opened (node_x r n) m) (suc n) s))
  fixpoint h g =
      fixpoint_row p a r m n s h g ∙
      ap (λ (i : ℕ). one_entry (cell (opened (node_x r n) m) i s)) (binder_subtree (node_subtree kept n l).whole h g).y_is

  pub binder_row : (node_kind r n ≡ 7) ⊎ (node_kind r n ≡ 8) → Is (one_entry (cell (opened (node_x r n) m) (suc n) s))
  binder_row (inl q) = fixpoint (omega arith) (omega arith)
  binder_row (inr q) = fixpoint (omega arith) (omega arith)
