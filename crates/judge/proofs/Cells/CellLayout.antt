-- The cells lie in the table one beside the other, and all that solving asks of a sheet's rows and cells holds.
use Rattle.std.proofs.Common.{◌≡◌, ℕ, zero, suc, ◌+◌, ◌*◌, ◌/◌, ◌%◌, ◌<◌, List, sym, ap, ◌∙◌, subst, not-suc-le-zero, mod-lt, div-lt_iff_lt-mul, mul-zero, div-add-mod', arith}
use lib.Arith.{digits_lt, digits_div, digits_mod}
use Rattle.sheet.specs.Contents.{plan_body, rule_body}
use Rattle.sheet.specs.Plan.{state_count}
use Rattle.sheet.specs.Actions.{entry_count}
use Rattle.sheet.specs.Rule.{node_count}
use Rattle.sheet.specs.WellFormed.{WellFormedBodies}
use Rattle.judge.specs.Cells.{Cell, MarkRight, rows, enough, marks, cell_count, position_of, cell_at, cell_bytes, InTable, TableLayout}
use Rattle.rows.proofs.Systems.Systems.{Layout, Solvable}
use Rattle.judge.proofs.Cells.BindersAbove.{above_counted}
use Rattle.judge.proofs.Cells.ValidCells.{Marked, Valid}
use Rattle.judge.proofs.Cells.Ranks.{rank, rank_enough, falling}

mark_below : (entries : ℕ) (r : List ℕ) (m n : ℕ) → Marked entries r m n → m < marks r
mark_below entries r zero n v = omega arith
mark_below entries r (suc k) n v = omega (arith, above_counted v)

-- mark and node within their bounds
module _ (r : List ℕ) (c : Cell) (m : c.mark < marks r) (n : c.node < node_count r) where
  place_inside : (S : ℕ) → c.state < S → position_of r c < S * node_count r * marks r
  place_inside S h = digits_lt (digits_lt h n) m

  place_back : cell_at r (position_of r c) ≡ c
  place_back = λ i. record {
    mark = digits_mod rest m i;
    node = (ap (λ (x : ℕ). x % node_count r) (digits_div rest m) ∙ digits_mod c.state n) i;
    state = (ap (λ (x : ℕ). x / node_count r) (digits_div rest m) ∙ digits_div c.state n) i;
  }
    where
      rest : ℕ
      rest = c.state * node_count r + c.node

-- ---- the cells that have a byte

module _ (s : List ℕ) where
  abbrev r : List ℕ
  r = rule_body s

  pub position_inside : (c : Cell) → InTable s c → position_of r c < cell_bytes s
  position_inside c h = place_inside r c h.mark_below h.node_below (state_count (plan_body s)) h.state_below

  pub position_back : (c : Cell) → InTable s c → cell_at r (position_of r c) ≡ c
  position_back c h = place_back r c h.mark_below h.node_below

  pub position_apart : (c d : Cell) → InTable s c → InTable s d → position_of r c ≡ position_of r d → c ≡ d
  position_apart c d hc hd e = sym (position_back c hc) ∙ ap (cell_at r) e ∙ position_back d hd

  -- of a product that is not 0 the second factor is not
  positive : (S N i : ℕ) → i < S * N → 0 < N
  positive S zero i h = absurd (not-suc-le-zero (subst (λ (x : ℕ). i < x) (mul-zero S) h))
  positive S (suc N) i h = omega arith

  cell_in : (i : ℕ) → i < cell_bytes s → InTable s (cell_at r i)
  cell_in i h =
      let some : 0 < marks r = omega arith in
      let place : i / marks r < state_count (plan_body s) * node_count r = (div-lt_iff_lt-mul some).1 h in
      let nodes : 0 < node_count r = positive (state_count (plan_body s)) (node_count r) (i / marks r) place in
      record { mark_below = mod-lt i some; node_below = mod-lt (i / marks r) nodes; state_below = (div-lt_iff_lt-mul nodes).1 place }

  cell_place_lem : (i : ℕ) → position_of r (cell_at r i) ≡ i
  cell_place_lem i = ap (λ (x : ℕ). x * marks r + i % marks r) (div-add-mod' (i / marks r) (node_count r)) ∙ div-add-mod' i (marks r)

-- the cells of a sheet
right_below : (r : List ℕ) (m n : ℕ) → MarkRight r m n → m < marks r
right_below r zero n h = omega arith
right_below r (suc k) n h = omega (arith, h.0)

pub table_layout : TableLayout
table_layout = record { cells = λ s c h. record { mark_below = right_below (rule_body s) c.mark c.node h.mark_right; node_below = h.node_below; state_below = h.state_below }; inside = position_inside; whole = λ s i h. (cell_in s i h, cell_place_lem s i); apart = position_apart }

-- ---- the cells that count

pub valid_in : (s : List ℕ) {a : List ℕ} (c : Cell) → Valid (plan_body s) a (rule_body s) c → InTable s c
valid_in s {a} c v = record { mark_below = mark_below (entry_count a) (rule_body s) c.mark c.node v.marked; node_below = v.node_below; state_below = v.state_below }

module _ {p a r : List ℕ} where
  mark_fits : (c : Cell) → Valid p a r c → c.mark < marks r
  mark_fits c v = mark_below (entry_count a) r c.mark c.node v.marked

  pub layout : Layout (Valid p a r) (position_of r) (cell_count p r) (cell_at r)
  layout = record {
    inside = λ c v. place_inside r c (mark_fits c v) v.node_below (state_count p) v.state_below;
    back = λ c v. place_back r c (mark_fits c v) v.node_below;
  }

  pub solvable : WellFormedBodies p a r → Solvable (position_of r) (rows p a r) (cell_count p r) (cell_at r) (Valid p a r) (rank p r) enough
  solvable k = record { falling = falling k; layout = layout; fuelled = rank_enough k }
