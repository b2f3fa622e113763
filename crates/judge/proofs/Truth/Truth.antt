-- The rows give Table 1: the value of a valid cell is the meaning of its node's formula in every context right for the cell.
use Rattle.std.proofs.Common.{◌≡◌, ℕ, zero, suc, ◌<◌, ◌≤◌, Bool, true, false, not, ◌&&◌, ◌||◌, eqb, ◌⊎◌, ◌↔◌, List, sym, refl, ap, ◌∙◌, subst, ap₂, inl, inr, arith, eq-eqb, ne_eqb}
use mathlib.Core.Bool.{and-true, and-false, or-false, or-true}
use mathlib.Core.List.{Memᴰ}
use mathlib.Core.Logic.Iff
use native.Mathlib.Decide.{ℕ_discrete}
use Rattle.sheet.specs.Bytes.{pick}
use Rattle.sheet.specs.Plan.{state_count}
use Rattle.sheet.specs.Actions.{entry_count}
use Rattle.sheet.specs.Rule.{node_count, node_kind, node_x, node_y, binder_node}
use Rattle.sheet.specs.WellFormed.{Subtree, Binds, WellFormedBodies}
use Rattle.sheet.proofs.Nodes.Shapes.{ranged}
use Rattle.sheet.proofs.Nodes.Subtrees.{subtree_after}
use Rattle.calculus.specs.Formulas.{Formula, least, greatest}
use Rattle.sheet.specs.TransitionSystem.{LabelledTransition, plan_of}
use Rattle.calculus.specs.Meaning.{Holds, bind}
use Rattle.calculus.specs.Decode.{formula}
use Rattle.calculus.specs.Verdict.{empty_context}
use Rattle.calculus.specs.Eval.{eval}
use Rattle.calculus.proofs.Table1.Unfolding.{remove, insert, eval_least_unfold, eval_greatest_unfold}
use Rattle.calculus.proofs.Table1.Decide.{decide}
use Rattle.sheet.proofs.TransitionSystem.{plan_in_range}
use Rattle.calculus.proofs.Decoding.Nodes.{false_node_holds, true_node_holds, or_node_holds, and_node_holds, some_node_holds, every_node_holds, variable_node_holds, least_node_holds, greatest_node_holds}
use Rattle.sheet.proofs.Nodes.Children.{node_subtree}
use Rattle.sheet.proofs.Checks.Bools.{together}
use Rattle.calculus.proofs.Decoding.Variables.{Above, not_binder, is_binder_holds, above_next, above_second}
use Rattle.rows.specs.Rows.{Row, joined, value}
use Rattle.graph.specs.LoopTest.{settled}
use Rattle.graph.specs.Successors.{successors}
use Rattle.judge.specs.Cells.{Cell, cell, one_entry, opened, outer, constant_of, rows, enough}
use Rattle.rows.proofs.Systems.Systems.{Each}
use Rattle.judge.proofs.Cells.BindersAbove.{above_node, bound_above, binds_own}
use Rattle.graph.proofs.Looptest.Successors.{target_among}
use Rattle.judge.proofs.Cells.CellRows.{false_row, true_row, or_row, and_row, some_row, every_row, variable_row, binder_row}
use Rattle.judge.proofs.Cells.ValidCells.{Valid, root_valid, next, entry_valid}
use Rattle.judge.proofs.Cells.Ranks.{rank, rank_enough, entry_falls, falling}
use Rattle.judge.proofs.Truth.RowValues.{some_joined, every_joined}
use Rattle.rows.proofs.Systems.Changed.{joined_constant}
use Rattle.rows.proofs.Solver.JoinedValues.{one_joined, or_joined, and_joined}
use Rattle.judge.proofs.Truth.RightContexts.{own_sets, own_fixed, Lower, lower_successor, Right, own_right, root_right, right_child, right_lower, right_body}
use Rattle.graph.proofs.Looptest.Height.{height}

module _ (p a r : List ℕ) where
  -- what is shown of the cells of rank below f
  abbrev Solved : ℕ → Type 0
  Solved f = (m n s : ℕ) → Valid p a r (cell m n s) → rank p r (cell m n s) < f → (ρ : ℕ → ℕ → Bool) → Right p a r m n s ρ
      → value (rows p a r) f (cell m n s) ≡ eval (plan_of p) (formula a r n) ρ s

  -- the value of a row, its entries' values taken with fuel f
  abbrev row_value : ℕ → Row Cell → Bool
  row_value f w = joined w.connective (value (rows p a r) f) w.entries

  -- an entry of the row of c
  abbrev Smaller : Cell → Cell → Type 0
  Smaller c d = Valid p a r d × (rank p r d < rank p r c)

module _ {p a r : List ℕ} (kept : WellFormedBodies p a r) (f : ℕ) (rest : Solved p a r f) {m n s : ℕ} {ρ : ℕ → ℕ → Bool} (v : Valid p a r (cell m n s))
    (h : rank p r (cell m n s) < suc f) (right : Right p a r m n s ρ) where
  abbrev Goal : Type 0
  Goal = row_value p a r f (rows p a r (cell m n s)) ≡ eval (plan_of p) (formula a r n) ρ s

  -- by the row and the formula of the node
  by_row : {w : Row Cell} {φ : Formula} → rows p a r (cell m n s) ≡ w → formula a r n ≡ φ
      → (Each (Smaller p a r (cell m n s)) w.entries → row_value p a r f w ≡ eval (plan_of p) φ ρ s) → Goal
  by_row q g e =
      ap (row_value p a r f) q ∙ e (subst (λ (x : Row Cell). Each (Smaller p a r (cell m n s)) x.entries) q ((falling kept).falls (cell m n s) v))
      ∙ ap (λ (φ : Formula). eval (plan_of p) φ ρ s) (sym g)

  entry : {i d t : ℕ} {σ : ℕ → ℕ → Bool} → Smaller p a r (cell m n s) (cell i d t) → Right p a r i d t σ
      → value (rows p a r) f (cell i d t) ≡ eval (plan_of p) (formula a r d) σ t
  entry {i} {d} {t} {σ} e w = rest i d t e.0 (omega (arith, e.1)) σ w

  constant_step : node_kind r n ≤ 1 → Goal
  unfolding eval
  constant_step k =
      elim (ℕ_discrete (node_kind r n) 0) [
        | yes q ↦ by_row (false_row p a kept.rule_kept m n s v.node_below q) (false_node_holds kept.rule_kept a n v.node_below q) (λ e. joined_constant false (value (rows p a r) f))
        | no q ↦ by_row (true_row p a kept.rule_kept m n s v.node_below (omega arith)) (true_node_holds kept.rule_kept a n v.node_below (omega arith)) (λ e. joined_constant true (value (rows p a r) f))
      ]

  -- an outer variable has its own set, an open one the constant of its row
  variable_step : node_kind r n ≡ 6 → Goal
  unfolding eval
  variable_step k = by_row (variable_row p a kept.rule_kept m n s v.node_below k) (variable_node_holds kept.rule_kept a n v.node_below k) (go (outer x m) refl)
    where
      x : ℕ
      x = node_x r n

      u : Above (entry_count a) r x n
      u = bound_above (kept.rule_kept.bound n v.node_below k)

      given : (b : Bool) → outer x m ≡ b → ρ x s ≡ pick b (own_sets p a r x s) (eqb (node_kind r (binder_node r x)) 8)
      given b q = right.here x u ∙ ap (λ (c : Bool). pick c (own_sets p a r x s) (eqb (node_kind r (binder_node r x)) 8)) q

      go : (b : Bool) → outer x m ≡ b → Each (Smaller p a r (cell m n s)) (pick b (one_entry (cell 0 (binder_node r x) s)) (constant_of r (binder_node r x))).entries
          → row_value p a r f (pick b (one_entry (cell 0 (binder_node r x) s)) (constant_of r (binder_node r x))) ≡ ρ x s
      go true q e =
          one_joined (value (rows p a r) f) (cell 0 (binder_node r x) s) ∙ entry e.0 (own_right p a r (binder_node r x) s)
          ∙ sym (own_fixed kept (binder_node r x) x s (subst (λ (b : ℕ). Binds r b x) (sym (above_node u)) u.binds) v.state_below) ∙ sym (given true q)
      go false q e = joined_constant (eqb (node_kind r (binder_node r x)) 8) (value (rows p a r) f) ∙ sym (given false q)

  pair_step : ((j : ℕ) → Above (entry_count a) r j (suc n) → Above (entry_count a) r j n) → ((j : ℕ) → Above (entry_count a) r j (node_y r n) → Above (entry_count a) r j n)
      → (node_kind r n ≡ 2) ⊎ (node_kind r n ≡ 3) → Goal
  unfolding eval
  pair_step first second (inl q) =
      by_row (or_row p a kept.rule_kept m n s v.node_below q) (or_node_holds kept.rule_kept a n v.node_below q)
      (λ e. or_joined (value (rows p a r) f) _ _ ∙ ap₂ ◌||◌ (entry e.0 (right_child first right)) (entry e.1.0 (right_child second right)))
  pair_step first second (inr q) =
      by_row (and_row p a kept.rule_kept m n s v.node_below q) (and_node_holds kept.rule_kept a n v.node_below q)
      (λ e. and_joined (value (rows p a r) f) _ _ ∙ ap₂ ◌&&◌ (entry e.0 (right_child first right)) (entry e.1.0 (right_child second right)))

  -- a successor is lower, and there the context may be replaced by the own sets
  modal_step : suc n < node_count r → ((j : ℕ) → Above (entry_count a) r j (suc n) → Above (entry_count a) r j n) → (node_kind r n ≡ 4) ⊎ (node_kind r n ≡ 5) → Goal
  unfolding eval
  modal_step l up k = go k
    where
      same : (t : LabelledTransition) → Memᴰ t (plan_of p).transitions → t.origin ≡ s
          → value (rows p a r) f (cell 0 (suc n) t.target) ≡ eval (plan_of p) (formula a r (suc n)) ρ t.target
      same t g o =
          let i = next l (target_among s g o) in
          entry (entry_valid kept v i, entry_falls kept v i) (own_right p a r (suc n) t.target)
          ∙ sym (right_lower kept l (right_child up right) t.target (lower_successor kept.plan_kept s t.target v.state_settled (target_among s g o)))

      go : (node_kind r n ≡ 4) ⊎ (node_kind r n ≡ 5) → Goal
      go (inl q) =
          by_row (some_row p a kept.rule_kept m n s v.node_below q) (some_node_holds kept.rule_kept a n v.node_below q)
          (λ e. some_joined (plan_of p) a (node_x r n) (suc n) s (value (rows p a r) f) (eval (plan_of p) (formula a r (suc n)) ρ) (plan_of p).transitions same)
      go (inr q) =
          by_row (every_row p a kept.rule_kept m n s v.node_below q) (every_node_holds kept.rule_kept a n v.node_below q)
          (λ e. every_joined (plan_of p) a (node_x r n) (suc n) s (value (rows p a r) f) (eval (plan_of p) (formula a r (suc n)) ρ) (plan_of p).transitions same)

  -- the fixed point is unfolded at s
  binder_step : (node_kind r n ≡ 7) ⊎ (node_kind r n ≡ 8) → Goal
  binder_step k = go k
    where
      x : ℕ
      x = node_x r n

      φ : Formula
      φ = formula a r (suc n)

      own : Binds r n x
      own = binds_own kept.rule_kept n v.node_below (is_binder_holds r n k)

      body : (U : ℕ → Bool) → ((t : ℕ) → Lower p s t → U t ≡ eval (plan_of p) (formula a r n) ρ t) → U s ≡ eqb (node_kind r n) 8 → Right p a r (opened x m) (suc n) s (bind ρ x U)
      body = right_body kept v.node_below right x own v.marked

      other : (t : ℕ) → Lower p s t → eqb t s ≡ false
      other t i = ne_eqb t s (λ e. omega (arith, i.1.1, ap (height (successors p) (state_count p)) e))

      less : (ψ : Formula) → formula a r n ≡ ψ → (t : ℕ) → Lower p s t → remove (eval (plan_of p) ψ ρ) s t ≡ eval (plan_of p) (formula a r n) ρ t
      less ψ q t i =
          ap (λ (b : Bool). eval (plan_of p) ψ ρ t && not b) (other t i) ∙ and-true (eval (plan_of p) ψ ρ t) ∙ ap (λ (χ : Formula). eval (plan_of p) χ ρ t) (sym q)

      more : (ψ : Formula) → formula a r n ≡ ψ → (t : ℕ) → Lower p s t → insert (eval (plan_of p) ψ ρ) s t ≡ eval (plan_of p) (formula a r n) ρ t
      more ψ q t i =
          ap (λ (b : Bool). eval (plan_of p) ψ ρ t || b) (other t i) ∙ or-false (eval (plan_of p) ψ ρ t) ∙ ap (λ (χ : Formula). eval (plan_of p) χ ρ t) (sym q)

      go : (node_kind r n ≡ 7) ⊎ (node_kind r n ≡ 8) → Goal
      go (inl q) =
          let g = least_node_holds kept.rule_kept a n v.node_below q in
          let D = eval (plan_of p) (least x φ) ρ in
          by_row (binder_row p a kept.rule_kept m n s v.node_below k) g
          (λ e. one_joined (value (rows p a r) f) _
          ∙ entry e.0 (body (remove D s) (less (least x φ) g) (ap (λ (b : Bool). D s && not b) (eq-eqb s s refl) ∙ and-false (D s) ∙ ap (λ (i : ℕ). eqb i 8) (sym q)))
          ∙ sym (together _ _ (eval_least_unfold (plan_in_range p kept.plan_kept) x φ ρ s v.state_below)))
      go (inr q) =
          let g = greatest_node_holds kept.rule_kept a n v.node_below q in
          let D = eval (plan_of p) (greatest x φ) ρ in
          by_row (binder_row p a kept.rule_kept m n s v.node_below k) g
          (λ e. one_joined (value (rows p a r) f) _
          ∙ entry e.0 (body (insert D s) (more (greatest x φ) g) (ap (λ (b : Bool). D s || b) (eq-eqb s s refl) ∙ or-true (D s) ∙ ap (λ (i : ℕ). eqb i 8) (sym q)))
          ∙ sym (together _ _ (eval_greatest_unfold (plan_in_range p kept.plan_kept) x φ ρ s v.state_below)))

module _ {p a r : List ℕ} (kept : WellFormedBodies p a r) where
  step : (f : ℕ) → Solved p a r f → {m n s e : ℕ} {ρ : ℕ → ℕ → Bool} → Subtree (entry_count a) r n e → e ≤ node_count r → (v : Valid p a r (cell m n s)) (h : rank p r (cell m n s) < suc f) (w : Right p a r m n s ρ)
      → row_value p a r f (rows p a r (cell m n s)) ≡ eval (plan_of p) (formula a r n) ρ s
  step f rest (Subtree.constant k x y) l v h w = constant_step kept f rest v h w k
  step f rest (Subtree.variable k y) l v h w = variable_step kept f rest v h w k
  step f rest (Subtree.pair {n = n} k x i y j) l v h w =
      let none = not_binder r n (omega (arith, ranged (node_kind r n) 2 k)) in
      pair_step kept f rest v h w (λ b. above_next n none) (λ b u. above_second n none i (subst (λ (c : ℕ). Above (entry_count a) r b c) y u)) k
  step f rest (Subtree.modal {n = n} k x y i) l v h w =
      let none = not_binder r n (omega (arith, ranged (node_kind r n) 4 k)) in
      modal_step kept f rest v h w (omega (arith, subtree_after i)) (λ b. above_next n none) k
  step f rest (Subtree.binder k y i) l v h w = binder_step kept f rest v h w k

  solved : (f : ℕ) → Solved p a r f
  unfolding value
  solved zero m n s v h ρ w = absurd (omega arith)
  solved (suc f) m n s v h ρ w = let i = node_subtree kept.rule_kept n v.node_below in step f (solved f) i.whole i.within v h w

  -- for every valid cell and every context right for it
  pub cell_value : (c : Cell) → Valid p a r c → (ρ : ℕ → ℕ → Bool) → Right p a r c.mark c.node c.state ρ
      → value (rows p a r) enough c ≡ eval (plan_of p) (formula a r c.node) ρ c.state
  cell_value c v ρ w = solved enough c.mark c.node c.state v (rank_enough kept c v) ρ w

  cell_truth : (c : Cell) → Valid p a r c → (ρ : ℕ → ℕ → Bool) → Right p a r c.mark c.node c.state ρ
      → (value (rows p a r) enough c ≡ true) ↔ Holds (plan_of p) (formula a r c.node) ρ c.state
  cell_truth c v ρ w =
      let q = cell_value c v ρ w in
      Iff.trans (λ e. sym q ∙ e, λ e. q ∙ e) (Iff.symm (decide (plan_in_range p kept.plan_kept) (formula a r c.node) ρ c.state v.state_below))

-- the verdict at a settled state is Table 1's
pub verdict_truth : (p a r : List ℕ) → WellFormedBodies p a r → (s : ℕ) → s < state_count p → settled (successors p) (state_count p) s ≡ true
    → (value (rows p a r) enough (cell 0 0 s) ≡ true) ↔ Holds (plan_of p) (formula a r 0) empty_context s
verdict_truth p a r kept s l q =
    cell_truth kept (cell 0 0 s) (root_valid kept.rule_kept s l q) empty_context (root_right p a r s empty_context)
