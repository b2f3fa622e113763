-- What deciding a cell must show to the functions that it calls: the cell's byte and its node are there, and the cells that it calls on, by
-- the kind of its node, have a smaller falling number and can be decided.
use Rattle.std.proofs.Common.{◌≡◌, ℕ, ◌+◌, ◌*◌, ◌<◌, ◌≤◌, true, List, length, get_or, sym, ap, ◌∙◌, subst, ap₂, arith}
use Rattle.sheet.specs.Contents.{plan_body, actions_body, rule_body}
use Rattle.sheet.specs.Actions.{entry_count}
use Rattle.sheet.specs.Rule.{node_count, binder_node}
use Rattle.sheet.proofs.Nodes.Binders.{kind_binder}
use Rattle.calculus.proofs.Decoding.Variables.{Above}
use Rattle.rows.specs.Rows.{Row}
use Rattle.rows.proofs.Systems.Systems.{Each}
use Rattle.judge.specs.declared.index.Index.{Index}
use Rattle.judge.specs.Cells.{Cell, cell, opened, outer, cell_bytes}
use Rattle.judge.specs.Internal.Deciding.{DecideRequires, FollowRequires}
use Rattle.judge.specs.Internal.Index.{Prepared, NodeAt}
use Rattle.judge.proofs.Cells.BindersAbove.{bound_above, above_below, above_counted, binder_counted, binds_own}
use Rattle.judge.proofs.Cells.Ranks.{falling}
use Rattle.judge.proofs.Cells.CellLayout.{layout}
use Rattle.judge.proofs.Cells.CellRows.{pair_row, outer_row, fixpoint_row}
use Rattle.judge.proofs.Steps.Turns.{walk_rank}
use Rattle.judge.proofs.Steps.DecideSteps.{ValidAt, row_at, rank_at, position_at, kind_at, x_at, y_at, valid, decidable, prepared_node}
use Rattle.sheet.proofs.Acceptance.Parts.{bodies_kept}

-- the byte at which the code finds a cell
pub placed : {s : List ℕ} {index : Index} {state : ℕ} → Prepared s index state → (m n st : ℕ) {at : ℕ}
    → at ≡ (st * index.nodes + n) * index.marks + m → at ≡ position_at s (cell m n st)
placed p m n st e = e ∙ ap₂ (λ (x y : ℕ). (st * x + n) * y + m) p.nodes_are p.marks_are

module _ {s : List ℕ} {index : Index} {t : List ℕ} {m n st : ℕ} (d : DecideRequires s index t (cell m n st)) where
  pub is_valid : ValidAt s (cell m n st)
  is_valid = valid s d.accepted index t (cell m n st) d

  pub node_at : NodeAt s index n
  node_at = prepared_node d.accepted d.prepared d.node_below

  pub cell_inside : {at : ℕ} → at ≡ position_at s (cell m n st) → at < length t
  cell_inside e = omega (arith, layout.inside (cell m n st) is_valid, d.room)

  -- ---- the cells of its row

  -- a call on a cell: it falls, and it can be decided on the table as it then is
  abbrev pub Call : List ℕ → Cell → Type 0
  Call u c = (2 * rank_at s c < 2 * rank_at s (cell m n st)) × DecideRequires s index u c

  abbrev Smaller : Cell → Type 0
  Smaller c = ValidAt s c × (rank_at s c < rank_at s (cell m n st))

  entries_of_lem : (row : Row Cell) → row_at s (cell m n st) ≡ row → Each Smaller row.entries
  entries_of_lem row e =
      subst (λ (x : Row Cell). Each Smaller x.entries) e ((falling (bodies_kept s d.accepted)).falls (cell m n st) is_valid)

  module _ {u : List ℕ} (room : cell_bytes s ≤ length u) where
    call : (k x : ℕ) → Smaller (cell k x st) → Call u (cell k x st)
    call k x h = (omega (arith, h.1), decidable s d.accepted index u (cell k x st) d.prepared room h.0)

    pub call_first : {x : ℕ} → x ≡ x_at s n → 2 ≤ kind_at s n → kind_at s n < 4 → Call u (cell m x st)
    call_first e h l =
        subst (λ (x : ℕ). Call u (cell m x st)) (sym e)
        (call m (x_at s n) (entries_of_lem _ (pair_row (plan_body s) (actions_body s) (rule_body s) m n st h l)).0)

    pub call_second : {y : ℕ} → y ≡ y_at s n → 2 ≤ kind_at s n → kind_at s n < 4 → Call u (cell m y st)
    call_second e h l =
        subst (λ (y : ℕ). Call u (cell m y st)) (sym e)
        (call m (y_at s n) (entries_of_lem _ (pair_row (plan_body s) (actions_body s) (rule_body s) m n st h l)).1.0)

    pub call_outer : {X b : ℕ} → X ≡ x_at s n → b ≡ binder_node (rule_body s) (x_at s n) → kind_at s n ≡ 6 → outer X m ≡ true
        → Call u (cell 0 b st)
    call_outer i e k o =
        subst (λ (b : ℕ). Call u (cell 0 b st)) (sym e)
        (call 0 (binder_node (rule_body s) (x_at s n))
        (entries_of_lem _ (outer_row (plan_body s) (actions_body s) (rule_body s) m n st k (ap (λ (y : ℕ). outer y m) (sym i) ∙ o))).0)

    pub call_body : {o y : ℕ} → o ≡ opened (x_at s n) m → y ≡ y_at s n → 7 ≤ kind_at s n → kind_at s n < 9 → Call u (cell o y st)
    call_body {o} {y} e f h l =
        subst (λ (z : ℕ). Call u (cell z y st)) (sym e)
        (subst (λ (z : ℕ). Call u (cell (opened (x_at s n) m) z st)) (sym f)
        (call (opened (x_at s n) m) (y_at s n) (entries_of_lem _ (fixpoint_row (plan_body s) (actions_body s) (rule_body s) m n st h l)).0))

  -- the walk over the transitions, of a "some" or an "every"
  pub call_follow : 4 ≤ kind_at s n → kind_at s n < 6 → (walk_rank s st < 2 * rank_at s (cell m n st)) × FollowRequires s index t n st
  call_follow h l = (
    omega (arith, d.node_below, (bodies_kept s d.accepted).rule_kept.few_nodes),
    record {
      accepted = d.accepted;
      prepared = d.prepared;
      room = d.room;
      node_below = d.node_below;
      state_below = d.state_below;
      state_settled = d.state_settled;
      modal_low = h;
      modal_high = l;
    },
  )

  -- ---- binders and variables: their numbers, and the binders' nodes

  pub binder_x : 7 ≤ kind_at s n → kind_at s n < 9 → x_at s n < 6
  binder_x h l =
      let k = (bodies_kept s d.accepted).rule_kept in
      let w = binder_counted (rule_body s) n _ (binds_own k n d.node_below (kind_binder (rule_body s) n h l)) in
      omega (arith, w, k.few_binders)

  module _ (k : kind_at s n ≡ 6) where
    above : Above (entry_count (actions_body s)) (rule_body s) (x_at s n) n
    above = bound_above ((bodies_kept s d.accepted).rule_kept.bound n d.node_below k)

    binder_below : binder_node (rule_body s) (x_at s n) < node_count (rule_body s)
    binder_below = omega (arith, (above_below above).after, d.node_below)

    -- what the prepared numbers say of the variable's binder
    binder_stored : {X : ℕ} → X ≡ x_at s n → get_or index.binders X 0 ≡ binder_node (rule_body s) (x_at s n)
    binder_stored {X} e = d.prepared.binders_are X (omega (arith, above_counted above)) ∙ ap (binder_node (rule_body s)) e

    pub binder_asked : {X : ℕ} → X ≡ x_at s n → X < 6
    binder_asked e = omega (arith, above_counted above, (bodies_kept s d.accepted).rule_kept.few_binders)

    pub binder_found : {X b : ℕ} → X ≡ x_at s n → b ≡ get_or index.binders X 0 → b ≡ binder_node (rule_body s) (x_at s n)
    binder_found {X} e f = f ∙ binder_stored e

    pub binder_at : {X b : ℕ} → X ≡ x_at s n → b ≡ get_or index.binders X 0 → NodeAt s index b
    binder_at e f = record {
      accepted = d.accepted;
      offset_is = d.prepared.offset_is;
      node_below = omega (arith, binder_found e f, binder_below);
    }
