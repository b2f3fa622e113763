-- The falling number of a cell: height of the state first, then the level, then the node. Every entry of a valid cell's row has a smaller one.
use Rattle.std.proofs.Common.{◌≡◌, ℕ, zero, suc, ◌+◌, ◌-◌, ◌*◌, ◌<◌, ◌≤◌, true, List, sym, refl, ap, subst, arith, ltb-true}
use Rattle.sheet.specs.Plan.{state_count}
use Rattle.sheet.specs.Actions.{entry_count}
use Rattle.sheet.specs.Rule.{node_count, binder_node}
use Rattle.sheet.specs.WellFormed.{Binds, WellFormedRule, WellFormedBodies}
use Rattle.sheet.proofs.Nodes.Binders.{binder_node_lem}
use Rattle.calculus.proofs.Decoding.Variables.{Above}
use Rattle.graph.specs.Successors.{successors}
use Rattle.judge.specs.Cells.{Cell, cell, opened, outer, rows, enough}
use Rattle.rows.proofs.Systems.Systems.{Falling}
use Rattle.rows.proofs.Systems.Fuel.{each_map}
use Rattle.graph.proofs.Looptest.Height.{height, height_falls, height_at_most}
use Rattle.judge.proofs.Cells.BindersAbove.{binders_above, above_node, above_nested, above_inside, depth_few, depth_le, depth_lt}
use Rattle.judge.proofs.Cells.ValidCells.{Marked, Valid, Entry, child, next, body, outward, valid_entries}

-- twice the binders above the node and one more where no binder is open, twice the binders above binder k under mark k + 1
abbrev pub level : List ℕ → ℕ → ℕ → ℕ
level r zero n = 2 * binders_above r n + 1
level r (suc k) n = 2 * binders_above r (binder_node r k)

abbrev pub rank : List ℕ → List ℕ → Cell → ℕ
rank p r c = height (successors p) (state_count p) c.state * 1000 + level r c.mark c.node * 65 + (64 - c.node)

module _ {entries : ℕ} {r : List ℕ} (kept : WellFormedRule entries r) where
  -- the binder of a variable has fewer binders above it than the node
  depth_binder : {k n : ℕ} → n < node_count r → Above entries r k n → binders_above r (binder_node r k) < binders_above r n
  depth_binder {k} {n} l u =
      let q = above_node u in
      subst (λ (b : ℕ). binders_above r b < binders_above r n) (sym q)
      (depth_lt kept u.at n u.binds.among l (λ j v. above_inside u.below.whole u.below.after u.below.inside v) k u refl)

  pub level_few : (m n : ℕ) → n < node_count r → Marked entries r m n → level r m n ≤ 13
  level_few zero n l v = omega (arith, depth_few kept n l)
  level_few (suc k) n l v = omega (arith, depth_few kept n l, depth_binder l v)

  level_child : (m n d : ℕ) → n < node_count r → d < node_count r → ((k : ℕ) → Above entries r k d → Above entries r k n) → level r m d ≤ level r m n
  level_child zero n d l g up = omega (arith, depth_le kept d n g l up)
  level_child (suc k) n d l g up = omega arith

  level_body : (m n k : ℕ) → Binds r n k → level r (opened k m) (suc n) ≤ level r m n
  level_body zero n k w = omega (arith, ap (binders_above r) (binder_node_lem r n k w))
  level_body (suc m) n k w = omega arith

  level_outward : (m n k : ℕ) → n < node_count r → Marked entries r m n → Above entries r k n → outer k m ≡ true → level r 0 (binder_node r k) < level r m n
  level_outward zero n k l v u o = omega (arith, depth_binder l u)
  level_outward (suc m) n k l v u o =
      let h = depth_binder v.binds.among (above_nested u v (ltb-true k m o)) in
      omega (arith, ap (binders_above r) (above_node v))

module _ {p a r : List ℕ} (k : WellFormedBodies p a r) where
  pub rank_enough : (c : Cell) → Valid p a r c → rank p r c < enough
  rank_enough c v =
      omega (arith, height_at_most (successors p) (state_count p) c.state, k.plan_kept.few_states, level_few k.rule_kept c.mark c.node v.node_below v.marked)

  pub entry_falls : {m n s : ℕ} {d : Cell} → Valid p a r (cell m n s) → Entry p (entry_count a) r m n s d → rank p r d < rank p r (cell m n s)
  entry_falls {m} {n} v (child {d = d} h l up down) = omega (arith, level_child k.rule_kept m n d v.node_below l up, k.rule_kept.few_nodes)
  entry_falls {m} {n} {s} v (next {d = d} {t = t} l i) =
      omega (arith, height_falls (successors p) (state_count p) s t v.state_settled i, level_few k.rule_kept 0 d l tt)
  entry_falls {m} {n} v (body {k = j} l w u down) = omega (arith, level_body k.rule_kept m n j w, k.rule_kept.few_nodes)
  entry_falls {m} {n} v (outward {k = j} u o) =
      omega (arith, level_outward k.rule_kept m n j v.node_below v.marked u o, k.rule_kept.few_nodes, v.node_below)

  pub falling : Falling (rows p a r) (Valid p a r) (rank p r)
  falling = record {
    falls = λ c v. each_map (λ d (e : Entry p (entry_count a) r c.mark c.node c.state d × Valid p a r d). (e.1, entry_falls v e.0))
        (rows p a r c).entries (valid_entries k c v);
  }
