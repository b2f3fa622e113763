-- What the code of an audit works with, asks and promises.
use Rattle.std.specs.Prelude.{◌≡◌, ℕ, zero, suc, ◌+◌, ◌*◌, ◌<◌, ◌≤◌, Bool, true, false, ◌&&◌, ◌≢◌, List, length, nat_lt, slice_index, Result, Ok, Err}
use Rattle.sheet.specs.Bytes.{pick}
use Rattle.sheet.specs.Contents.{plan_body, actions_body, rule_body}
use Rattle.sheet.specs.Plan.{state_count, action_count}
use Rattle.sheet.specs.Rule.{node_count, node_x, node_y}
use Rattle.sheet.specs.Reading.{sheet_check}
use Rattle.sheet.specs.TransitionSystem.{plan_of}
use Rattle.sheet.specs.declared.Refusal.{Refusal}
use Rattle.sheet.specs.declared.Refusal.TheVariants.{TableByte}
use Rattle.rows.specs.Tables.{byte_at, filled, known, count}
use Rattle.rows.specs.FollowsFrom.{enough_filled_with, follows_from}
use Rattle.graph.specs.Explored.{StartsFrom}
use Rattle.graph.specs.LoopTest.{loop_free}
use Rattle.judge.specs.Cells.{Cell, cell, following, written_rows, position_of, marks, cell_bytes}
use Rattle.judge.specs.Auditing.{every_below, mark_allowed}
use Rattle.judge.specs.Internal.Index.{Prepared}
use Rattle.judge.specs.declared.index.Index.{Index}
use Rattle.judge.specs.Internal.Preparing.{RuleTold}

-- ---- one cell

-- of the cells in the row of a "some" or an "every" at a state, whether one is filled with the value of byte b, or all are
unfoldable pub successors_hold : List ℕ → List ℕ → ℕ → ℕ → Bool → ℕ → Bool
successors_hold s t n state one b =
    enough_filled_with (position_of (rule_body s)) t one (known b)
    (following (action_count (plan_body s)) (actions_body s) (node_x (rule_body s) n) (node_y (rule_body s) n) state
    (plan_of (plan_body s)).transitions)

-- whether the value of byte b follows from filled cells of a cell's row
unfoldable pub row_follows : List ℕ → List ℕ → Cell → ℕ → Bool
row_follows s t c b = follows_from (position_of (rule_body s)) t (written_rows s c) (known b)

-- a mark is 0, or the index says that its binder stands above the node
abbrev pub mark_told : Index → ℕ → ℕ → Bool
mark_told index zero n = true
mark_told index (suc k) n = nat_lt (slice_index index.binders k) n && nat_lt n (slice_index index.ends k)

-- a cell is empty, or has a mark that its node may have and follows from filled cells of its row
abbrev pub cell_passes : List ℕ → List ℕ → Cell → Bool
cell_passes s t c =
    pick (filled (byte_at t (position_of (rule_body s) c)))
    (mark_allowed (rule_body s) c.mark c.node && row_follows s t c (byte_at t (position_of (rule_body s) c))) true

-- a byte that is not 0 is shown already to follow from the cell's row
abbrev pub ShownToFollow : List ℕ → List ℕ → Cell → ℕ → Type 0
ShownToFollow s t c shown = shown ≢ 0 → row_follows s t c shown ≡ true

-- what is shown of a node's rows once a cell filled with byte b has passed: for a "some" or an "every" that b follows
abbrev pub shown_after : ℕ → ℕ → ℕ → ℕ
shown_after kind b shown = pick (nat_lt kind 4) shown (pick (nat_lt 5 kind) shown b)

-- ---- all cells

abbrev pub node_passes : List ℕ → List ℕ → ℕ → ℕ → Bool
node_passes s t state n = every_below (marks (rule_body s)) (λ m. cell_passes s t (cell m n state))

abbrev pub state_passes : List ℕ → List ℕ → ℕ → Bool
state_passes s t state = every_below (node_count (rule_body s)) (λ n. node_passes s t state n)

abbrev pub table_passes : List ℕ → List ℕ → Bool
table_passes s t = every_below (state_count (plan_body s)) (λ state. state_passes s t state)

-- ---- what is asked

-- an accepted sheet, a table of it with bytes of at most 2, and all prepared for the rows at a state from which no loop can be reached
pub record StateRequires (s : List ℕ) (index : Index) (t : List ℕ) (state : ℕ) : Type 0 where
  pub accepted : sheet_check s ≡ Ok tt
  pub rule_told : RuleTold s index
  pub prepared : Prepared s index state
  pub state_below : state < state_count (plan_body s)
  pub loop_free_holds : loop_free (plan_body s) state ≡ true
  pub room : cell_bytes s ≤ length t
  pub small : (i : ℕ) → i < cell_bytes s → byte_at t i ≤ 2

-- a cell of such a state, and its byte
pub record CellRequires (s : List ℕ) (index : Index) (t : List ℕ) (c : Cell) (b : ℕ) : Type 0 where
  pub at_state : StateRequires s index t c.state
  pub node_below : c.node < node_count (rule_body s)
  pub mark_below : c.mark < marks (rule_body s)
  pub byte_is_holds : byte_at t (position_of (rule_body s) c) ≡ b

-- all prepared for each state that starts names, and no cell of another is filled
pub record CellsRequires (s : List ℕ) (index : Index) (t starts : List ℕ) : Type 0 where
  pub accepted : sheet_check s ≡ Ok tt
  pub started : (u : ℕ) → StartsFrom starts u → StateRequires s index t u
  pub others :
      (c : Cell) → c.state < state_count (plan_body s) → c.node < node_count (rule_body s) → c.mark < marks (rule_body s)
      → (StartsFrom starts c.state → ⊥) → filled (byte_at t (position_of (rule_body s) c)) ≡ false

-- ---- the pass that scans

-- the cells of at most 128 states, width bytes each, and no state named yet
pub record ScannedRequires (cells : List ℕ) (width : ℕ) (starts : List ℕ) : Type 0 where
  pub states : ℕ
  pub some_bytes : 0 < width
  pub exact : length cells ≡ states * width
  pub few_states : states ≤ 128
  pub sized : length starts ≡ 128
  pub none : (u : ℕ) → StartsFrom starts u → ⊥

-- a filled byte among the cells of a state
abbrev pub FilledIn : List ℕ → ℕ → ℕ → Type 0
FilledIn cells width u = (j : ℕ) × (j < width) × (filled (byte_at cells (u * width + j)) ≡ true)

-- a byte is over 2; or none is, so many are filled, and starts names the states that have a filled one
pub data StatesScanned (cells : List ℕ) (width : ℕ) (r : Result ℕ Refusal) (starts : List ℕ) : Type 0 where
  over : r ≡ Err TableByte → (i : ℕ) → i < length cells → 2 < byte_at cells i → StatesScanned cells width r starts
  counted :
      (n : ℕ) → r ≡ Ok n → ((i : ℕ) → i < length cells → byte_at cells i ≤ 2)
      → n ≡ count (length cells) (λ i. filled (byte_at cells i))
      → ((u : ℕ) → StartsFrom starts u → (u * width < length cells) × FilledIn cells width u)
      → ((u : ℕ) → u * width < length cells → FilledIn cells width u → StartsFrom starts u)
      → StatesScanned cells width r starts
