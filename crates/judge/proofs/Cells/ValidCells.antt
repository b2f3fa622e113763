-- The cells that count: those of a settled state and of a mark whose binder stands above the node. The entries of their rows are such cells.
use Rattle.std.proofs.Common.{◌≡◌, ℕ, zero, suc, ◌<◌, ◌≤◌, Bool, true, false, eqb, ◌⊎◌, List, sym, refl, subst, inl, inr, arith}
use mathlib.Core.List.{Memᴰ}
use native.Mathlib.Decide.{ℕ_discrete}
use Rattle.sheet.specs.Bytes.{pick}
use Rattle.sheet.specs.Plan.{state_count, action_count}
use Rattle.sheet.specs.Actions.{entry_count}
use Rattle.sheet.specs.Rule.{node_count, node_kind, node_x, node_y, is_binder, binder_node}
use Rattle.sheet.specs.WellFormed.{Subtree, Binds, WellFormedRule, WellFormedBodies}
use Rattle.sheet.proofs.Nodes.Shapes.{ranged}
use Rattle.sheet.proofs.Nodes.Subtrees.{subtree_after}
use Rattle.sheet.specs.TransitionSystem.{plan_of}
use Rattle.sheet.proofs.Nodes.Children.{node_subtree}
use Rattle.calculus.proofs.Decoding.Variables.{Above, not_binder, is_binder_holds, above_next, above_second}
use Rattle.rows.specs.Rows.{Row}
use Rattle.rows.specs.Tables.{constant}
use Rattle.graph.specs.LoopTest.{settled}
use Rattle.graph.specs.Successors.{successors}
use Rattle.judge.specs.Cells.{Cell, cell, one_entry, following, opened, outer, constant_of, rows}
use Rattle.rows.proofs.Systems.Systems.{Each}
use Rattle.rows.proofs.Systems.Fuel.{each_map}
use Rattle.graph.proofs.Looptest.Height.{successor_settled}
use Rattle.judge.proofs.Cells.BindersAbove.{above_node, bound_above, above_inside, above_own, binds_own}
use Rattle.judge.proofs.Cells.SuccessorCells.{following_each}
use Rattle.graph.proofs.Looptest.Successors.{target_among, successor_below}
use Rattle.judge.proofs.Cells.CellRows.{false_row, true_row, or_row, and_row, some_row, every_row, variable_row, binder_row}

-- "Mark k + 1 .. is used only with nodes below binder k"
abbrev pub Marked : ℕ → List ℕ → ℕ → ℕ → Type 0
Marked entries r zero n = Unit {0}
Marked entries r (suc k) n = Above entries r k n

pub record Valid (p a r : List ℕ) (c : Cell) : Type 0 where
  pub node_below : c.node < node_count r
  pub state_below : c.state < state_count p
  pub state_settled : settled (successors p) (state_count p) c.state ≡ true
  pub marked : Marked (entry_count a) r c.mark c.node

-- the cell of a query
pub root_valid : {p a r : List ℕ} → WellFormedRule (entry_count a) r → (s : ℕ) → s < state_count p → settled (successors p) (state_count p) s ≡ true → Valid p a r (cell 0 0 s)
root_valid kept s l q = record { node_below = kept.some_nodes; state_below = l; state_settled = q; marked = tt }

-- what an entry of the row of (m, n, s) is
pub data Entry (p : List ℕ) (entries : ℕ) (r : List ℕ) (m n s : ℕ) : Cell → Type 0 where
  -- a child of an or, an and: the same binders stand above it
  child : {d : ℕ} → n < d → d < node_count r → ((k : ℕ) → Above entries r k d → Above entries r k n)
      → ((k : ℕ) → Above entries r k n → Above entries r k d) → Entry p entries r m n s (cell m d s)
  -- the child of a some, an every at a successor
  next : {d t : ℕ} → d < node_count r → Memᴰ t (successors p s) → Entry p entries r m n s (cell 0 d t)
  -- the child of binder k
  body : {k : ℕ} → suc n < node_count r → Binds r n k → Above entries r k (suc n) → ((j : ℕ) → Above entries r j n → Above entries r j (suc n))
      → Entry p entries r m n s (cell (opened k m) (suc n) s)
  -- the binder of variable k
  outward : {k : ℕ} → Above entries r k n → outer k m ≡ true → Entry p entries r m n s (cell 0 (binder_node r k) s)

constant_each : (Q : Cell → Type 0) (b : Bool) → Each Q (constant b).entries
constant_each Q true = tt
constant_each Q false = tt

module _ (p a : List ℕ) {entries : ℕ} {r : List ℕ} (kept : WellFormedRule entries r) (m s : ℕ) where
  abbrev Entries : ℕ → Type 0
  Entries n = Each (Entry p entries r m n s) (rows p a r (cell m n s)).entries

  by_row : (n : ℕ) {w : Row Cell} → rows p a r (cell m n s) ≡ w → Each (Entry p entries r m n s) w.entries → Entries n
  by_row n q e = subst (λ (w : Row Cell). Each (Entry p entries r m n s) w.entries) (sym q) e

  subtree_entries : {n e : ℕ} → Subtree entries r n e → e ≤ node_count r → Entries n
  subtree_entries (Subtree.constant {n = n} k x y) h =
      elim (ℕ_discrete (node_kind r n) 0) [
        | yes q ↦ by_row n (false_row p a kept m n s h q) tt
        | no q ↦ by_row n (true_row p a kept m n s h (omega arith)) tt
      ]
  subtree_entries (Subtree.variable {n = n} k y) h = by_row n (variable_row p a kept m n s h k) (go (outer (node_x r n) m) refl)
    where
      go : (b : Bool) → outer (node_x r n) m ≡ b
          → Each (Entry p entries r m n s) (pick b (one_entry (cell 0 (binder_node r (node_x r n)) s)) (constant_of r (binder_node r (node_x r n)))).entries
      go true q = (outward (bound_above (kept.bound n h k)) q, tt)
      go false q = constant_each (Entry p entries r m n s) (eqb (node_kind r (binder_node r (node_x r n))) 8)
  subtree_entries (Subtree.pair {n = n} {m = d} {e = e} k x i y j) h = go k
    where
      none : is_binder r n ≡ false
      none = not_binder r n (omega (arith, ranged (node_kind r n) 2 k))

      whole : Subtree entries r n e
      whole = Subtree.pair k x i y j

      first : Entry p entries r m n s (cell m (suc n) s)
      first = child {d = suc n} (omega arith) (omega (arith, subtree_after i, subtree_after j)) (λ v. above_next n none) (λ v. above_inside whole (omega arith) (omega (arith, subtree_after i, subtree_after j)))

      second : Entry p entries r m n s (cell m (node_y r n) s)
      second = subst (λ (c : ℕ). Entry p entries r m n s (cell m c s)) (sym y)
          (child {d = d} (omega (arith, subtree_after i)) (omega (arith, subtree_after j)) (λ v. above_second n none i) (λ v. above_inside whole (omega (arith, subtree_after i)) (subtree_after j)))

      go : (node_kind r n ≡ 2) ⊎ (node_kind r n ≡ 3) → Entries n
      go (inl q) = by_row n (or_row p a kept m n s (omega (arith, subtree_after whole)) q) (first, (second, tt))
      go (inr q) = by_row n (and_row p a kept m n s (omega (arith, subtree_after whole)) q) (first, (second, tt))
  subtree_entries (Subtree.modal {n = n} k x y i) h = go k
    where
      l : n < node_count r
      l = omega (arith, subtree_after i)

      follows : Each (Entry p entries r m n s) (following (action_count p) a (node_x r n) (suc n) s (plan_of p).transitions)
      follows = following_each (action_count p) a (node_x r n) (suc n) s (Entry p entries r m n s) (plan_of p).transitions
          (λ t g o. next (omega (arith, subtree_after i)) (target_among s g o))

      go : (node_kind r n ≡ 4) ⊎ (node_kind r n ≡ 5) → Entries n
      go (inl q) = by_row n (some_row p a kept m n s l q) follows
      go (inr q) = by_row n (every_row p a kept m n s l q) follows
  subtree_entries (Subtree.binder {n = n} {e = e} k y i) h = by_row n (binder_row p a kept m n s l k) (body (omega (arith, subtree_after i)) own (above_own own whole (subtree_after i)) (λ v. above_inside whole (omega arith) (subtree_after i)), tt)
    where
      l : n < node_count r
      l = omega (arith, subtree_after i)

      whole : Subtree entries r n e
      whole = Subtree.binder k y i

      own : Binds r n (node_x r n)
      own = binds_own kept n l (is_binder_holds r n k)

-- the entries of a row
pub entries_each : (p a : List ℕ) {r : List ℕ} → WellFormedRule (entry_count a) r → (c : Cell) → c.node < node_count r
    → Each (Entry p (entry_count a) r c.mark c.node c.state) (rows p a r c).entries
entries_each p a kept c l = let i = node_subtree kept c.node l in subtree_entries p a kept c.mark c.state i.whole i.within

-- ---- entries of a valid cell are valid

module _ {p a r : List ℕ} (k : WellFormedBodies p a r) where
  opened_marked : (m n j : ℕ) → Marked (entry_count a) r m n → Above (entry_count a) r j (suc n) → ((i : ℕ) → Above (entry_count a) r i n → Above (entry_count a) r i (suc n))
      → Marked (entry_count a) r (opened j m) (suc n)
  opened_marked zero n j v u down = u
  opened_marked (suc m) n j v u down = down m v

  child_marked : (m n d : ℕ) → Marked (entry_count a) r m n → ((i : ℕ) → Above (entry_count a) r i n → Above (entry_count a) r i d) → Marked (entry_count a) r m d
  child_marked zero n d v down = tt
  child_marked (suc m) n d v down = down m v

  pub entry_valid : {m n s : ℕ} {d : Cell} → Valid p a r (cell m n s) → Entry p (entry_count a) r m n s d → Valid p a r d
  entry_valid {m} {n} v (child {d = d} h l up down) =
      record { node_below = l; state_below = v.state_below; state_settled = v.state_settled; marked = child_marked m n d v.marked down }
  entry_valid {m} {n} {s} v (next {t = t} l i) =
      record { node_below = l; state_below = successor_below k.plan_kept s t i; state_settled = successor_settled (successors p) (state_count p) s t v.state_settled i; marked = tt }
  entry_valid {m} {n} v (body {k = j} l w u down) =
      record { node_below = l; state_below = v.state_below; state_settled = v.state_settled; marked = opened_marked m n j v.marked u down }
  entry_valid v (outward u o) =
      record { node_below = omega (arith, above_node u, u.binds.among); state_below = v.state_below; state_settled = v.state_settled; marked = tt }

  pub valid_entries : (c : Cell) → Valid p a r c → Each (λ d. Entry p (entry_count a) r c.mark c.node c.state d × Valid p a r d) (rows p a r c).entries
  valid_entries c v = each_map (λ d (e : Entry p (entry_count a) r c.mark c.node c.state d). (e, entry_valid v e)) (rows p a r c).entries (entries_each p a k.rule_kept c v.node_below)
