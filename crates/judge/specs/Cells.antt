-- Document 01, "Rows": the cells of a sheet, their rows and their places in the table; document 02 (f): how long the table is. The
-- definitions speak of the bytes of the sheet's three bodies: p the plan, a the action formulas, r the rule.
use Rattle.std.specs.Prelude.{◌≡◌, ℕ, zero, suc, ◌+◌, ◌*◌, ◌/◌, ◌%◌, ◌<◌, Bool, true, false, ◌&&◌, List, [], ◌∷◌, take, ◌==◌, nat_lt}
use Rattle.sheet.specs.Bytes.{pick}
use Rattle.sheet.specs.Contents.{plan_body, actions_body, rule_body}
use Rattle.sheet.specs.Plan.{state_count, action_count}
use Rattle.sheet.specs.Rule.{node_count, node_kind, node_x, node_y, binder_count, binder_node, below}
use Rattle.sheet.specs.Kinds.{NodeSort, node_sort, unknown_node}
use Rattle.sheet.specs.Kinds.{false_node, true_node, or_node, and_node, some_node, every_node, variable_node, least_node, greatest_node}
use Rattle.sheet.specs.TransitionSystem.{LabelledTransition, plan_of}
use Rattle.calculus.specs.Meaning.{meets}
use Rattle.calculus.specs.Decode.{action_formula}
use Rattle.rows.specs.Rows.{Row, disjunction, conjunction}
use Rattle.rows.specs.Tables.{constant}

-- "A cell is (mark, node, state)": a boolean variable of the equation system (document 000, Table 2 and Definition 6). "Mark 0: no binder
-- is open. Mark k + 1: binder k and the binders below it are open"; what an open binder's variable stands for is said by its row.
pub record Cell : Type 0 where
  pub mark : ℕ
  pub node : ℕ
  pub state : ℕ

-- "(mark, node, state)"
abbrev pub cell : ℕ → ℕ → ℕ → Cell
cell m n state = record { mark = m; node = n; state = state }

-- "Mark k + 1 .. is used only with nodes below binder k."
abbrev pub MarkRight : List ℕ → ℕ → ℕ → Type 0
MarkRight r zero n = Unit {0}
MarkRight r (suc k) n = (k < binder_count r) × (below r (binder_node r k) n ≡ true)

-- the cells of a plan p and a rule r
pub record CellOf (p r : List ℕ) (c : Cell) : Type 0 where
  pub node_below : c.node < node_count r
  pub state_below : c.state < state_count p
  pub mark_right : MarkRight r c.mark c.node

-- a row with one entry: "or" and "and" of one cell are the same
abbrev pub one_entry : Cell → Row Cell
one_entry c = record { connective = disjunction; entries = c ∷ [] }

-- "(0, child, s') for each transition from s to s' whose action meets the formula, in plan order": of the transitions in a list
unfoldable pub following : ℕ → List ℕ → ℕ → ℕ → ℕ → List LabelledTransition → List Cell
following A a e child state [] = []
following A a e child state (t ∷ ts) =
    pick (t.origin == state && meets A (action_formula a e) t.action) (cell 0 child t.target ∷ following A a e child state ts)
    (following A a e child state ts)

-- "under k + 1 if m = 0, else under m"
abbrev pub opened : ℕ → ℕ → ℕ
opened k zero = suc k
opened k (suc m) = suc m

-- "if m = 0 or k < m - 1": variable k stands for its binder's cell, and is no constant
abbrev pub outer : ℕ → ℕ → Bool
outer k zero = true
outer k (suc m) = nat_lt k m

-- "an empty "or" for a least, an empty "and" for a greatest fixed point", by the kind of the binder's node
abbrev pub constant_of : List ℕ → ℕ → Row Cell
constant_of r b = constant (node_kind r b == 8)

module _ (p a r : List ℕ) where
  -- "the two children, same m, same s"
  abbrev pub child_cells : Cell → List Cell
  child_cells c = cell c.mark (node_x r c.node) c.state ∷ cell c.mark (node_y r c.node) c.state ∷ []

  -- "(0, child, s') for each transition from s to s' whose action meets the formula, in plan order"
  abbrev pub successor_cells : Cell → List Cell
  successor_cells c = following (action_count p) a (node_x r c.node) (node_y r c.node) c.state (plan_of p).transitions

  -- "For node n at s under mark m the row is": by the kind of n
  abbrev pub row_of : Cell → NodeSort → Row Cell
  -- "F: empty "or". T: empty "and"."
  row_of c false_node = constant false
  row_of c true_node = constant true
  -- "or, and: the two children, same m, same s."
  row_of c or_node = record { connective = disjunction; entries = child_cells c }
  row_of c and_node = record { connective = conjunction; entries = child_cells c }
  -- "some, every: an "or" or an "and" of (0, child, s') for each transition from s to s' whose action meets the formula, in plan order."
  row_of c some_node = record { connective = disjunction; entries = successor_cells c }
  row_of c every_node = record { connective = conjunction; entries = successor_cells c }
  -- "variable k: if m = 0 or k < m - 1, the cell (0, node of binder k, s); else an empty "or" for a least, an empty "and" for a greatest
  -- fixed point."
  row_of c variable_node =
      pick (outer (node_x r c.node) c.mark) (one_entry (cell 0 (binder_node r (node_x r c.node)) c.state))
      (constant_of r (binder_node r (node_x r c.node)))
  -- "binder k: the child at s, under k + 1 if m = 0, else under m."
  row_of c least_node = one_entry (cell (opened (node_x r c.node) c.mark) (node_y r c.node) c.state)
  row_of c greatest_node = one_entry (cell (opened (node_x r c.node) c.mark) (node_y r c.node) c.state)
  -- no node of an accepted sheet
  row_of c unknown_node = constant false

  -- the row of a cell
  unfoldable pub rows : Cell → Row Cell
  rows c = row_of c (node_sort (node_kind r c.node))

-- the rows of a sheet as written
abbrev pub written_rows : List ℕ → Cell → Row Cell
written_rows s = rows (plan_body s) (actions_body s) (rule_body s)

-- of an accepted sheet, a chain of rows that starts at a cell from whose state no loop can be reached is shorter (`rank_enough` of
-- proofs/Cells/Ranks.antt)
abbrev pub enough : ℕ
enough = 131072

-- ---- "The table lies in the first S × N × (B + 1) bytes"

-- "B + 1"
abbrev pub marks : List ℕ → ℕ
marks r = binder_count r + 1

-- "S × N × (B + 1)"
abbrev pub cell_count : List ℕ → List ℕ → ℕ
cell_count p r = state_count p * node_count r * marks r

-- "the first S × N × (B + 1) bytes": how many bytes the cells of a sheet have, one each
abbrev pub cell_bytes : List ℕ → ℕ
cell_bytes s = cell_count (plan_body s) (rule_body s)

-- the cells of a sheet's table, a byte each: "the first S × N × (B + 1) bytes of a lent buffer"
abbrev pub cells_in : List ℕ → List ℕ → List ℕ
cells_in s t = take (cell_bytes s) t

-- document 02 (f): "Four bytes after the cells"
abbrev pub count_bytes : ℕ
count_bytes = 4

-- how many bytes a table has that has so many bytes of cells: these, and the count after them
abbrev pub table_bytes_for : ℕ → ℕ
table_bytes_for size = size + count_bytes

-- how many bytes the whole table of a sheet has; "20: table buffer too short", which "now means four bytes more"
abbrev pub table_bytes : List ℕ → ℕ
table_bytes s = table_bytes_for (cell_bytes s)

-- "cell (m, n, s) is byte (s × N + n) × (B + 1) + m"
abbrev pub position_of : List ℕ → Cell → ℕ
position_of r c = (c.state * node_count r + c.node) * marks r + c.mark

-- the cell whose byte this is (TableLayout, below)
abbrev pub cell_at : List ℕ → ℕ → Cell
cell_at r i = cell (i % marks r) (i / marks r % node_count r) (i / marks r / node_count r)

-- the cells that have a byte: mark at most B, node below N, state below S. Some of them are no cell of the sheet, since a mark "is used
-- only with nodes below" its binder
pub record InTable (s : List ℕ) (c : Cell) : Type 0 where
  pub mark_below : c.mark < marks (rule_body s)
  pub node_below : c.node < node_count (rule_body s)
  pub state_below : c.state < state_count (plan_body s)

-- "The table lies in the first S × N × (B + 1) bytes ..; cell (m, n, s) is byte (s × N + n) × (B + 1) + m": each of these bytes is that of
-- one cell (`table_layout` of proofs/Cells/CellLayout.antt)
pub record TableLayout : Type 0 where
  -- the cells of a sheet have one
  pub cells : (s : List ℕ) (c : Cell) → CellOf (plan_body s) (rule_body s) c → InTable s c
  pub inside : (s : List ℕ) (c : Cell) → InTable s c → position_of (rule_body s) c < cell_bytes s
  pub whole :
      (s : List ℕ) (i : ℕ) → i < cell_bytes s
      → InTable s (cell_at (rule_body s) i) × (position_of (rule_body s) (cell_at (rule_body s) i) ≡ i)
  pub apart : (s : List ℕ) (c d : Cell) → InTable s c → InTable s d → position_of (rule_body s) c ≡ position_of (rule_body s) d → c ≡ d
