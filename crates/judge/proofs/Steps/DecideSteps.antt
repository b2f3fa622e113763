-- What the evaluator's code shows of one cell: that it is valid, and its answer from the walk along its row.
use Rattle.std.proofs.Common.{◌≡◌, ℕ, zero, suc, ◌+◌, ◌-◌, ◌*◌, ◌<◌, ◌≤◌, true, ltb, List, length, set, sym, refl, ap, ◌∙◌, mul-le-mul, add-one, arith, ltb-true, eq-eqb, ne_eqb}
use Rattle.sheet.specs.Contents.{plan_body, actions_body, rule_body}
use Rattle.sheet.specs.Plan.{state_count}
use Rattle.sheet.specs.Actions.{entry_count}
use Rattle.sheet.specs.Rule.{node_count, node_kind, node_x, node_y, binder_node}
use Rattle.sheet.specs.Reading.{sheet_check}
use Rattle.std.specs.Prelude.{Ok}
use Rattle.sheet.proofs.Acceptance.Parts.{bodies_kept, rule_kept, few_states, few_nodes}
use Rattle.sheet.proofs.Checks.Checks.{and_parts}
use Rattle.rows.specs.Rows.{Row}
use Rattle.rows.specs.Tables.{byte_at, known, Result, out, visits, byte_of}
use Rattle.rows.specs.Internal.Solver.{fill_cell, walk}
use Rattle.graph.specs.LoopTest.{settled}
use Rattle.graph.specs.Successors.{successors}
use Rattle.judge.specs.declared.index.Index.{Index}
use Rattle.judge.specs.Cells.{Cell, opened, outer, rows, enough, position_of, cell_at, MarkRight, CellOf, cell_bytes}
use Rattle.judge.specs.Querying.{result_at}
use Rattle.judge.specs.Internal.Deciding.{DecideRequires, Decided}
use Rattle.judge.specs.Internal.Packed.{verdict_in, visits_in, Known, OneVisitMore}
use Rattle.judge.specs.Internal.Index.{Prepared, NodeAt}
use Rattle.rows.proofs.Systems.Systems.{Solvable}
use Rattle.judge.proofs.Cells.BindersAbove.{above_below, below_above, above_counted, below_tested, tested_below}
use Rattle.judge.proofs.Cells.ValidCells.{Marked, Valid}
use Rattle.judge.proofs.Cells.Ranks.{rank}
use Rattle.judge.proofs.Cells.CellLayout.{solvable}
use Rattle.rows.proofs.Solver.QueryByRow.{query_row, query_known, query_visits_bound}
use Rattle.rows.proofs.Solver.Walks.{out_path}

pub outer_zero : (k m : ℕ) → m ≡ 0 → true ≡ outer k m
outer_zero k zero h = refl
outer_zero k (suc m) h = absurd (omega arith)

pub outer_later : (k m : ℕ) → (m ≡ 0 → ⊥) → ltb k (m - 1) ≡ outer k m
outer_later k zero h = absurd (h refl)
outer_later k (suc m) h = ap (ltb k) (omega arith)

pub opened_first : (k m : ℕ) → m ≡ 0 → k + 1 ≡ opened k m
opened_first k zero h = add-one k
opened_first k (suc m) h = absurd (omega arith)

pub opened_later : (k m : ℕ) → (m ≡ 0 → ⊥) → m ≡ opened k m
opened_later k zero h = absurd (h refl)
opened_later k (suc m) h = refl

-- ---- of a sheet: the valid cells, the row of a cell, its falling number, its byte in the table, and the parts of a node

abbrev pub ValidAt : List ℕ → Cell → Type 0
ValidAt s c = Valid (plan_body s) (actions_body s) (rule_body s) c

abbrev pub row_at : List ℕ → Cell → Row Cell
row_at s c = rows (plan_body s) (actions_body s) (rule_body s) c

abbrev pub rank_at : List ℕ → Cell → ℕ
rank_at s c = rank (plan_body s) (rule_body s) c

abbrev pub position_at : List ℕ → Cell → ℕ
position_at s c = position_of (rule_body s) c

abbrev pub kind_at : List ℕ → ℕ → ℕ
kind_at s n = node_kind (rule_body s) n

abbrev pub x_at : List ℕ → ℕ → ℕ
x_at s n = node_x (rule_body s) n

abbrev pub y_at : List ℕ → ℕ → ℕ
y_at s n = node_y (rule_body s) n

-- a node of an accepted sheet, and the numbers of nodes and marks, as the prepared index has them
module _ {s : List ℕ} {index : Index} {st : ℕ} (accepted : sheet_check s ≡ Ok tt) (p : Prepared s index st) where
  pub prepared_node : {n : ℕ} → n < node_count (rule_body s) → NodeAt s index n
  prepared_node h = record { accepted = accepted; offset_is = p.offset_is; node_below = h }

-- the walk along a row, each cell decided with the table so far
abbrev pub walk_along : List ℕ → Row Cell → List ℕ → Result
walk_along s row t = walk (λ d u. result_at s d u) row.connective row.entries t

module _ (s : List ℕ) (accepted : sheet_check s ≡ Ok tt) where
  pub size_small : cell_bytes s ≤ 57344
  size_small =
      let first : state_count (plan_body s) * node_count (rule_body s) ≤ 128 * 64 =
      mul-le-mul {n₂ = 128} {m₂ = 64} (few_states s accepted) (few_nodes s accepted) in
      mul-le-mul {n₂ = 8192} {m₂ = 7} first (omega (arith, (rule_kept s accepted).few_binders))

  marked : (m n : ℕ) → n < node_count (rule_body s) → MarkRight (rule_body s) m n → Marked (entry_count (actions_body s)) (rule_body s) m n
  marked zero n l h = tt
  marked (suc k) n l h =
      let at = binder_node (rule_body s) k in
      let b = and_parts (ltb at n) _ h.1 in
      below_above k n l (tested_below (rule_kept s accepted) at n (omega (arith, ltb-true at n b.0)) h.1)

  mark_right : (m n : ℕ) → n < node_count (rule_body s) → Marked (entry_count (actions_body s)) (rule_body s) m n → MarkRight (rule_body s) m n
  mark_right zero n l h = tt
  mark_right (suc k) n l h =
      let w = above_below h in
      (above_counted h, below_tested (rule_kept s accepted) (binder_node (rule_body s) k) n (omega (arith, w.after)) w)

  -- a cell of the sheet, where its state is settled
  pub counted : (c : Cell) → CellOf (plan_body s) (rule_body s) c
      → settled (successors (plan_body s)) (state_count (plan_body s)) c.state ≡ true → ValidAt s c
  counted c d e = record {
    node_below = d.node_below;
    state_below = d.state_below;
    state_settled = e;
    marked = marked c.mark c.node d.node_below d.mark_right;
  }

  pub uncounted : (c : Cell) → ValidAt s c → CellOf (plan_body s) (rule_body s) c
  uncounted c v = record {
    node_below = v.node_below;
    state_below = v.state_below;
    mark_right = mark_right c.mark c.node v.node_below v.marked;
  }

  pub valid : (index : Index) (t : List ℕ) (c : Cell) → DecideRequires s index t c → ValidAt s c
  valid index t c d =
      counted c (record { node_below = d.node_below; state_below = d.state_below; mark_right = d.mark_right }) d.state_settled

  -- a valid cell can be decided on any table that is as long
  pub decidable : (index : Index) (t : List ℕ) (c : Cell) → Prepared s index c.state → cell_bytes s ≤ length t → ValidAt s c → DecideRequires s index t c
  decidable index t c p room v = record {
    accepted = accepted;
    prepared = p;
    room = room;
    node_below = v.node_below;
    state_below = v.state_below;
    state_settled = v.state_settled;
    mark_right = (uncounted c v).mark_right;
  }

  sol : Solvable (position_at s) (row_at s) (cell_bytes s) (cell_at (rule_body s)) (ValidAt s) (rank_at s) enough
  sol = solvable (bodies_kept s accepted)

  -- an answer is small
  decided : (c : Cell) (t : List ℕ) (w : ℕ) (u : List ℕ) → out (verdict_in w) (visits_in w) u ≡ result_at s c t → Decided s c t w u
  decided c t w u e = record { result = e; small = omega (arith, ap visits e, query_visits_bound sol c t, size_small) }

  module _ (c : Cell) (v : ValidAt s c) (t : List ℕ) (room : cell_bytes s ≤ length t) where
    pub known_cell : (b w : ℕ) → byte_at t (position_at s c) ≡ b → (b ≡ 0 → ⊥) → Known b w → Decided s c t w t
    known_cell b w e h k =
        decided c t w t
        (out_path k.verdict_is k.visits_are refl ∙
        sym (query_known sol c v t room (ne_eqb (byte_at t (position_at s c)) 0 (λ q. h (sym e ∙ q))) ∙ ap (λ (x : ℕ). out (known x) 0 t) e))

    -- the row, and what the walk along it gives
    pub filled_cell : byte_at t (position_at s c) ≡ 0 → (row : Row Cell) → row_at s c ≡ row
        → (w r : ℕ) (u : List ℕ) → out (verdict_in w) (visits_in w) u ≡ walk_along s row t → OneVisitMore w r
        → Decided s c t r (set u (position_at s c) (byte_of (verdict_in w)))
    filled_cell e row f w r u g k =
        decided c t r (set u (position_at s c) (byte_of (verdict_in w)))
        (out_path k.verdict_is k.visits_are refl ∙
        (ap (fill_cell (position_at s c)) g ∙
        sym (query_row sol c v t room (eq-eqb (byte_at t (position_at s c)) 0 e) ∙
        ap (λ (x : Row Cell). fill_cell (position_at s c) (walk_along s x t)) f)))
