-- In a guarded rule no constant row of a variable is needed from (0, 0, s): under mark k + 1 the way from binder k to the node crosses no modality,
-- so a variable from k up would be unguarded there. So exchanging fixed points changes no row that is needed, and no solution at (0, 0, s).
use Rattle.std.proofs.Common.{◌≡◌, ℕ, zero, suc, ◌<◌, ◌≤◌, Bool, true, ◌&&◌, eqb, ◌⊎◌, ◌↔◌, List, [], ◌∷◌, sym, refl, ap, ◌∙◌, subst, ap₂, inl, inr, arith, ltb-true, lt-ltb}
use mathlib.Core.Path.{fun_ext}
use mathlib.Core.Logic.Iff
use native.Mathlib.Decide.{ℕ_discrete}
use Rattle.sheet.specs.Bytes.{pick, lowest}
use Rattle.sheet.specs.Plan.{state_count, action_count}
use Rattle.sheet.specs.Rule.{node_count, node_kind, node_x, node_y, binder_node}
use Rattle.sheet.specs.WellFormed.{Subtree, WellFormedRule, WellFormedBodies}
use Rattle.sheet.proofs.Checks.Checks.{and_parts}
use Rattle.sheet.proofs.Nodes.Shapes.{ranged}
use Rattle.sheet.proofs.Nodes.Subtrees.{subtree_after}
use Rattle.sheet.proofs.Nodes.Binders.{binder_found, binder_node_lem}
use Rattle.calculus.specs.Definition2.{guarded_in, guarded}
use Rattle.sheet.specs.TransitionSystem.{plan_of}
use Rattle.calculus.specs.Decode.{formula}
use Rattle.calculus.specs.Meaning.{Holds}
use Rattle.calculus.specs.Verdict.{empty_context}
use Rattle.calculus.specs.Exchange.{exchanged_rule}
use Rattle.calculus.specs.Internal.GuardContracts.{bound_since}
use Rattle.sheet.proofs.Nodes.Children.{node_subtree}
use Rattle.calculus.proofs.Decoding.Variables.{is_binder_holds}
use Rattle.calculus.proofs.Definition2.Since.{at_pair, at_variable, at_binder}
use Rattle.calculus.proofs.Exchange.Alike.{Alike, alike_binder, alike_before, alike_low, alike_fixpoint}
use Rattle.calculus.proofs.Exchange.Exchange.{exchanged_alike, exchanged_rule_kept}
use Rattle.rows.specs.Rows.{Row, disjunction, conjunction, value}
use Rattle.graph.specs.LoopTest.{settled}
use Rattle.graph.specs.Successors.{successors}
use Rattle.judge.specs.Cells.{Cell, cell, one_entry, following, opened, outer, constant_of, rows, enough}
use Rattle.rows.proofs.Systems.Members.{each_both}
use Rattle.rows.proofs.Systems.Systems.{Each, Falling}
use Rattle.rows.proofs.Systems.Fuel.{each_map, value_agree}
use Rattle.judge.proofs.Cells.BindersAbove.{binders_ordered, binds_own}
use Rattle.judge.proofs.Cells.SuccessorCells.{following_each}
use Rattle.judge.proofs.Cells.CellRows.{row, false_row, true_row, or_row, and_row, some_row, every_row, variable_row, binder_row}
use Rattle.judge.proofs.Cells.ValidCells.{Valid, root_valid}
use Rattle.judge.proofs.Cells.Ranks.{rank, falling}
use Rattle.judge.proofs.Truth.Truth.{verdict_truth}
use Rattle.judge.proofs.Exchange.GuardedNodes.{node_guarded}

module _ (a r : List ℕ) where
  -- under mark k + 1 the node stands after binder k, and its formula is guarded with respect to the variables bound from there on
  abbrev pub GuardedUnder : ℕ → ℕ → Type 0
  GuardedUnder zero n = Unit {0}
  GuardedUnder (suc k) n = (binder_node r k < n) × (guarded_in (formula a r n) (bound_since r (binder_node r k)) ≡ true)

  -- a cell at which no variable is a constant, nor at any cell that its row leads to
  pub record Clear (c : Cell) : Type 0 where
    pub among : c.node < node_count r
    pub under : GuardedUnder c.mark c.node

module _ (p a : List ℕ) {entries : ℕ} {r : List ℕ} (kept : WellFormedRule entries r) where
  own : (n : ℕ) → n < node_count r → (node_kind r n ≡ 7) ⊎ (node_kind r n ≡ 8) → binder_node r (node_x r n) ≡ n
  own n l k = binder_node_lem r n (node_x r n) (binds_own kept n l (is_binder_holds r n k))

  -- a variable node there is no constant: its binder stands before binder k
  outer_clear : (m n : ℕ) → n < node_count r → node_kind r n ≡ 6 → GuardedUnder a r m n → outer (node_x r n) m ≡ true
  outer_clear zero n l q u = refl
  outer_clear (suc k) n l q u =
      let b : binder_node r (node_x r n) < binder_node r k = ltb-true _ _ (at_variable kept a n (binder_node r k) l q ∙ u.1) in
      lt-ltb (node_x r n) k
      (binders_ordered r (binder_node r (node_x r n)) (binder_node r k) (node_x r n) k (binder_found r (node_x r n) (omega arith)) (binder_found r k (omega arith)) b)

  outward : (m n s : ℕ) → n < node_count r → node_kind r n ≡ 6 → GuardedUnder a r m n → rows p a r (cell m n s) ≡ one_entry (cell 0 (binder_node r (node_x r n)) s)
  outward m n s l q u =
      variable_row p a kept m n s l q
      ∙ ap (λ (b : Bool). pick b (one_entry (cell 0 (binder_node r (node_x r n)) s)) (constant_of r (binder_node r (node_x r n)))) (outer_clear m n l q u)

  pair_clear : (m n d : ℕ) → n < node_count r → (node_kind r n ≡ 2) ⊎ (node_kind r n ≡ 3) → node_y r n ≡ d → n < d → GuardedUnder a r m n → GuardedUnder a r m (suc n) × GuardedUnder a r m d
  pair_clear zero n d l k y h u = (tt, tt)
  pair_clear (suc j) n d l k y h u =
      let g = ranged (node_kind r n) 2 k in
      let b = and_parts (guarded_in (formula a r (suc n)) (bound_since r (binder_node r j))) (guarded_in (formula a r (node_y r n)) (bound_since r (binder_node r j)))
      (at_pair kept a n (binder_node r j) l g.0 g.1 _ refl ∙ u.1) in
      ((omega arith, b.0), (omega arith, subst (λ (c : ℕ). guarded_in (formula a r c) (bound_since r (binder_node r j)) ≡ true) y b.1))

  module _ (whole : guarded (formula a r 0) ≡ true) where
    binder_clear : (m n : ℕ) → n < node_count r → (node_kind r n ≡ 7) ⊎ (node_kind r n ≡ 8) → GuardedUnder a r m n → GuardedUnder a r (opened (node_x r n) m) (suc n)
    binder_clear zero n l k u =
        let g = ranged (node_kind r n) 7 k in
        rw (own n l k) (omega arith, at_binder kept a n n l g.0 g.1 (omega arith) _ refl ∙ node_guarded kept a whole n l)
    binder_clear (suc j) n l k u =
        let g = ranged (node_kind r n) 7 k in
        (omega arith, at_binder kept a n (binder_node r j) l g.0 g.1 (omega arith) _ refl ∙ u.1)

    module _ (m s : ℕ) where
      by_row : (n : ℕ) {w : Row Cell} → rows p a r (cell m n s) ≡ w → Each (Clear a r) w.entries → Each (Clear a r) (rows p a r (cell m n s)).entries
      by_row n q e = subst (λ (w : Row Cell). Each (Clear a r) w.entries) (sym q) e

      subtree_clear : {n e : ℕ} → Subtree entries r n e → e ≤ node_count r → GuardedUnder a r m n → Each (Clear a r) (rows p a r (cell m n s)).entries
      subtree_clear (Subtree.constant {n = n} k x y) h u =
          elim (ℕ_discrete (node_kind r n) 0) [
            | yes q ↦ by_row n (false_row p a kept m n s h q) tt
            | no q ↦ by_row n (true_row p a kept m n s h (omega arith)) tt
          ]
      subtree_clear (Subtree.variable {n = n} k y) h u =
          let w = kept.bound n h k in
          by_row n (outward m n s h k u) (record { among = omega (arith, binder_node_lem r w.at (node_x r n) w.binds, w.binds.among); under = tt }, tt)
      subtree_clear (Subtree.pair {n = n} {m = d} k x i y j) h u = go k
        where
          l : n < node_count r
          l = omega (arith, subtree_after i, subtree_after j)

          u' : GuardedUnder a r m (suc n) × GuardedUnder a r m d
          u' = pair_clear m n d l k y (omega (arith, subtree_after i)) u

          each : Each (Clear a r) (cell m (suc n) s ∷ cell m (node_y r n) s ∷ [])
          each = rw y (record { among = omega (arith, subtree_after i, subtree_after j); under = u'.0 }, (record { among = omega (arith, subtree_after j); under = u'.1 }, tt))

          go : (node_kind r n ≡ 2) ⊎ (node_kind r n ≡ 3) → Each (Clear a r) (rows p a r (cell m n s)).entries
          go (inl q) = by_row n (or_row p a kept m n s l q) each
          go (inr q) = by_row n (and_row p a kept m n s l q) each
      subtree_clear (Subtree.modal {n = n} k x y i) h u = go k
        where
          l : n < node_count r
          l = omega (arith, subtree_after i)

          each : Each (Clear a r) (following (action_count p) a (node_x r n) (suc n) s (plan_of p).transitions)
          each = following_each (action_count p) a (node_x r n) (suc n) s (Clear a r) (plan_of p).transitions (λ t g o. record { among = omega (arith, subtree_after i); under = tt })

          go : (node_kind r n ≡ 4) ⊎ (node_kind r n ≡ 5) → Each (Clear a r) (rows p a r (cell m n s)).entries
          go (inl q) = by_row n (some_row p a kept m n s l q) each
          go (inr q) = by_row n (every_row p a kept m n s l q) each
      subtree_clear (Subtree.binder {n = n} k y i) h u =
          let l : n < node_count r = omega (arith, subtree_after i) in
          by_row n (binder_row p a kept m n s l k) (record { among = omega (arith, subtree_after i); under = binder_clear m n l k u }, tt)

    pub clear_entries : (c : Cell) → Clear a r c → Each (Clear a r) (rows p a r c).entries
    clear_entries c u = let i = node_subtree kept c.node u.among in subtree_clear c.mark c.state i.whole i.within u.under

module _ {r r' : List ℕ} (alike : Alike r r') where
  pub alike_binder_node : (k : ℕ) → binder_node r' k ≡ binder_node r k
  unfolding binder_node
  alike_binder_node k =
      ap₂ lowest (fun_ext (λ (n : ℕ). ap₂ (λ (b : Bool) (i : ℕ). b && eqb i k) (alike_binder alike n) (alike_before alike n))) alike.count

  module _ (p a : List ℕ) {entries : ℕ} (kept : WellFormedRule entries r) (kept' : WellFormedRule entries r') (m s : ℕ) where
    -- the rows of the two rules are the same
    abbrev Same : ℕ → Type 0
    Same n = rows p a r (cell m n s) ≡ rows p a r' (cell m n s)

    subtree_same : {n e : ℕ} → Subtree entries r n e → e ≤ node_count r → GuardedUnder a r m n → Same n
    subtree_same (Subtree.constant {n = n} k x y) h u =
        let l : n < node_count r' = omega (arith, alike.count) in
        let q' = alike_low alike n (omega arith) in
        elim (ℕ_discrete (node_kind r n) 0) [
          | yes q ↦ false_row p a kept m n s h q ∙ sym (false_row p a kept' m n s l (q' ∙ q))
          | no q ↦ true_row p a kept m n s h (omega arith) ∙ sym (true_row p a kept' m n s l (omega arith))
        ]
    subtree_same (Subtree.variable {n = n} k y) h u =
        let l : n < node_count r' = omega (arith, alike.count) in
        outward p a kept m n s h k u
        ∙ ap (λ (b : Bool). pick b (one_entry (cell 0 (binder_node r (node_x r n)) s)) (constant_of r' (binder_node r (node_x r n)))) (sym (outer_clear p a kept m n h k u))
        ∙ ap (λ (b : ℕ). pick (outer (node_x r n) m) (one_entry (cell 0 b s)) (constant_of r' b)) (sym (alike_binder_node (node_x r n)))
        ∙ ap (λ (x : ℕ). pick (outer x m) (one_entry (cell 0 (binder_node r' x) s)) (constant_of r' (binder_node r' x))) (sym (alike.xs n))
        ∙ sym (variable_row p a kept' m n s l (alike_low alike n (omega arith) ∙ k))
    subtree_same (Subtree.pair {n = n} k x i y j) h u = go k
      where
        l : n < node_count r
        l = omega (arith, subtree_after i, subtree_after j)

        l' : n < node_count r'
        l' = omega (arith, l, alike.count)

        q' : node_kind r' n ≡ node_kind r n
        q' = alike_low alike n (omega (arith, ranged (node_kind r n) 2 k))

        go : (node_kind r n ≡ 2) ⊎ (node_kind r n ≡ 3) → Same n
        go (inl q) = or_row p a kept m n s l q ∙ ap (λ (d : ℕ). row disjunction (cell m (suc n) s ∷ cell m d s ∷ [])) (sym (alike.ys n)) ∙ sym (or_row p a kept' m n s l' (q' ∙ q))
        go (inr q) = and_row p a kept m n s l q ∙ ap (λ (d : ℕ). row conjunction (cell m (suc n) s ∷ cell m d s ∷ [])) (sym (alike.ys n)) ∙ sym (and_row p a kept' m n s l' (q' ∙ q))
    subtree_same (Subtree.modal {n = n} k x y i) h u = go k
      where
        l : n < node_count r
        l = omega (arith, subtree_after i)

        l' : n < node_count r'
        l' = omega (arith, l, alike.count)

        q' : node_kind r' n ≡ node_kind r n
        q' = alike_low alike n (omega (arith, ranged (node_kind r n) 4 k))

        follows : following (action_count p) a (node_x r n) (suc n) s (plan_of p).transitions ≡ following (action_count p) a (node_x r' n) (suc n) s (plan_of p).transitions
        follows = ap (λ (e : ℕ). following (action_count p) a e (suc n) s (plan_of p).transitions) (sym (alike.xs n))

        go : (node_kind r n ≡ 4) ⊎ (node_kind r n ≡ 5) → Same n
        go (inl q) = some_row p a kept m n s l q ∙ ap (row disjunction) follows ∙ sym (some_row p a kept' m n s l' (q' ∙ q))
        go (inr q) = every_row p a kept m n s l q ∙ ap (row conjunction) follows ∙ sym (every_row p a kept' m n s l' (q' ∙ q))
    subtree_same (Subtree.binder {n = n} k y i) h u =
        let l : n < node_count r = omega (arith, subtree_after i) in
        let l' : n < node_count r' = omega (arith, alike.count) in
        binder_row p a kept m n s l k ∙ ap (λ (x : ℕ). one_entry (cell (opened x m) (suc n) s)) (sym (alike.xs n)) ∙ sym (binder_row p a kept' m n s l' (alike_fixpoint alike n k))

  pub clear_same : (p a : List ℕ) {entries : ℕ} → WellFormedRule entries r → WellFormedRule entries r' → (c : Cell) → Clear a r c → rows p a r c ≡ rows p a r' c
  clear_same p a kept kept' c u = let i = node_subtree kept c.node u.among in subtree_same p a kept kept' c.mark c.state i.whole i.within u.under

module _ {p a r : List ℕ} (kept : WellFormedBodies p a r) where
  module _ (whole : guarded (formula a r 0) ≡ true) where
    clear_falling : Falling (rows p a r) (λ c. Valid p a r c × Clear a r c) (rank p r)
    clear_falling = record {
      falls = λ c h. each_map (λ d (q : (Valid p a r d × (rank p r d < rank p r c)) × Clear a r d). ((q.0.0, q.1), q.0.1)) (rows p a r c).entries
          (each_both (λ d. Valid p a r d × (rank p r d < rank p r c)) (Clear a r) (rows p a r c).entries ((falling kept).falls c h.0) (clear_entries p a kept.rule_kept whole c h.1));
    }

    module _ (choice : ℕ → Bool) (s : ℕ) (h : s < state_count p) (q : settled (successors p) (state_count p) s ≡ true) where
      -- for every choice of exchanged binders the solution is the same
      pub exchange_value : value (rows p a (exchanged_rule choice r)) enough (cell 0 0 s) ≡ value (rows p a r) enough (cell 0 0 s)
      exchange_value =
          sym (value_agree (rows p a r) clear_falling (rows p a (exchanged_rule choice r))
          (λ c u. clear_same (exchanged_alike choice r) p a kept.rule_kept (exchanged_rule_kept choice r kept.rule_kept) c u.1)
          enough (cell 0 0 s) (root_valid kept.rule_kept s h q, record { among = kept.rule_kept.some_nodes; under = tt }))

      -- Theorem 1 for whole rules: and so is Table 1's verdict
      pub exchange_holds : Holds (plan_of p) (formula a r 0) empty_context s ↔ Holds (plan_of p) (formula a (exchanged_rule choice r) 0) empty_context s
      exchange_holds =
          Iff.trans (Iff.symm (verdict_truth p a r kept s h q))
          (Iff.trans (λ e. exchange_value ∙ e, λ e. sym exchange_value ∙ e) (verdict_truth p a (exchanged_rule choice r) other s h q))
        where
          other : WellFormedBodies p a (exchanged_rule choice r)
          other = record { plan_kept = kept.plan_kept; actions_kept = kept.actions_kept; rule_kept = exchanged_rule_kept choice r kept.rule_kept }
