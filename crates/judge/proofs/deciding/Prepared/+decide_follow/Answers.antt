-- Deciding a cell and following its transitions meet their contracts, at a measure t. First places of the code, with what is known at each; then the
-- answers to its goals.
use Rattle.std.proofs.Common.{◌≡◌, ℕ, ◌*◌, ◌<◌, ◌≤◌, true, false, eqb, List, length, get_or, sym, refl, ap, ◌∙◌, arith, eq-eqb, ne_eqb}
use mathlib.Core.Bool.{beq}
use mathlib.Core.Logic.{inl, inr}
use Rattle.sheet.specs.Bytes.{pick}
use Rattle.sheet.specs.Contents.{rule_body}
use Rattle.sheet.specs.Rule.{binder_node}
use Rattle.sheet.specs.KindNumbers.{node_kind_number}
use Rattle.sheet.specs.declared.kinds.NodeKind.TheVariants as Kind
use Rattle.sheet.proofs.Steps.Kinds.{between_kinds}
use Rattle.judge.specs.declared.index.Index.{Index}
use Rattle.judge.specs.Cells.{Cell, cell, opened, outer, cell_bytes}
use Rattle.judge.specs.Internal.Deciding.{DecideRequires, FollowRequires}
use Rattle.judge.specs.Internal.Packed.{verdict_in}
use Rattle.judge.proofs.Steps.DecideSteps.{rank_at, kind_at, x_at, y_at}
use Rattle.judge.proofs.Steps.Turns.{walk_rank, meets_at, modal_node_at, state_at, transition_at_lem, met}
use Rattle.judge.proofs.deciding.Prepared.+decide_follow.Goals.{follow-then-has_bit+else-decides, follow-else-has_bit, decide-After-binder_of-binder, decide-After-cell_position-at, decide-After-decide-first, decide-After-decide-second, decide-After-decides, decide-After-follow-w, decide-After-follow-w-in-Box, decide-After-kind_of-k, decide-After-opening-inner, decide-After-constant-w, decide-In-Or, decide-In-Least, decide-Start, decide-Then-is_outer, follow-After-decide-w, follow-After-decides, follow-After-has_bit, follow-At-loop-i, follow-In-loop-i, follow-Start}
use Rattle.judge.specs.Internal.Index.{TransitionAt}
use Rattle.judge.proofs.Steps.FollowWalk.{WalkedTo, walk_start, walk_finish, sum_small, call_child, turn_decided, turn_on, turn_past}
use Rattle.judge.proofs.Steps.DecideCalls as calls
use Rattle.judge.proofs.Steps.DecideAnswers as answers
use Rattle.judge.proofs.deciding.Prepared.+decide_follow.Goals as goal

-- ---- deciding

-- ---- the start: the sheet, the index, the table and the cell
module _ {t : ℕ} (c : decide-Start t) where
  abbrev sheet : List ℕ
  sheet = c.args.self.now.sheet.now

  abbrev index : Index
  index = c.args.self.now.index.now

  abbrev table : List ℕ
  table = c.args.table.now

  abbrev node : ℕ
  node = c.args.node.0

  abbrev this : Cell
  this = cell c.args.mark node c.args.state.0

  abbrev its_kind : ℕ
  its_kind = kind_at sheet node

  abbrev its_x : ℕ
  its_x = x_at sheet node

  -- of a variable, the node of its binder
  abbrev its_binder : ℕ
  its_binder = binder_node (rule_body sheet) its_x

  asked : DecideRequires sheet index table this
  asked = c.requires

  -- a call on a smaller cell, and on the walk over the transitions
  called : {u : List ℕ} {d : Cell} → calls.Call asked u d → (2 * rank_at sheet d < t) × DecideRequires sheet index u d
  called w = (omega (arith, w.0, c.decreases), w.1)

  called_walk : 4 ≤ its_kind → its_kind < 6
      → (walk_rank sheet c.args.state.0 < t) × FollowRequires sheet index table node c.args.state.0
  called_walk h l = let w = calls.call_follow asked h l in (omega (arith, w.0, c.decreases), w.1)

-- ---- the cell's byte is found
module _ {t : ℕ} (c : decide-After-cell_position-at t) where
  abbrev start : decide-Start t
  start = (goal.at.decide-After-cell_position-at t c).Start

  found : answers.CellFound (sheet start) (index start) (table start) (this start) c.cell_position-at.result
  found = record {
    decidable = asked start;
    here = calls.placed (asked start).prepared start.args.mark (node start) start.args.state.0 c.cell_position-at.ensures;
  }

  inside : c.cell_position-at.result < length (table start)
  inside = calls.cell_inside (asked start) found.here

-- ---- it is empty, and the kind of the node is known
module _ {t : ℕ} (c : decide-After-kind_of-k t) where
  abbrev byte : decide-After-cell_position-at t
  byte = (goal.at.decide-After-kind_of-k t c).After-cell_position-at

  abbrev begun : decide-Start t
  begun = start byte

  here : answers.CellFound (sheet begun) (index begun) (table begun) (this begun) byte.cell_position-at.result
  here = found byte

  empty : get_or (table begun) byte.cell_position-at.result 0 ≡ 0
  empty = omega arith

  kind : c.kind_of-k.result ≡ its_kind begun
  kind = c.kind_of-k.ensures

  is : {k : ℕ} → c.kind_of-k.result ≡ k → its_kind begun ≡ k
  is e = sym kind ∙ e

  -- the byte is inside a table as long as the one at the start
  still : {size : ℕ} → size ≡ length (table begun) → byte.cell_position-at.result < size
  still e = omega (arith, inside byte)

-- ---- some and every: the walk over the transitions is done
module _ {t : ℕ} (c : decide-After-follow-w t) where
  abbrev some : decide-After-kind_of-k t
  some = (goal.at.decide-After-follow-w t c).After-kind_of-k

  is_some : its_kind (begun some) ≡ 4
  is_some = is some (sym c.in-Ok.ensures ∙ ap node_kind_number c.in-Diamond.is)

module _ {t : ℕ} (c : decide-After-follow-w-in-Box t) where
  abbrev every : decide-After-kind_of-k t
  every = (goal.at.decide-After-follow-w-in-Box t c).After-kind_of-k

  is_every : its_kind (begun every) ≡ 5
  is_every = is every (sym c.in-Ok.ensures ∙ ap node_kind_number c.in-Box.is)

-- ---- a variable: the node of its binder, and whether its binder is an outer one
module _ {t : ℕ} (c : decide-After-binder_of-binder t) where
  abbrev variable : decide-After-kind_of-k t
  variable = (goal.at.decide-After-binder_of-binder t c).After-kind_of-k

  is_variable : its_kind (begun variable) ≡ 6
  is_variable = is variable (sym c.in-Ok.ensures ∙ ap node_kind_number c.in-Variable.is)

  x_is : c.x_of-x-in-Variable.result ≡ its_x (begun variable)
  x_is = c.x_of-x-in-Variable.ensures

  binder_is : c.binder_of-binder.result.0 ≡ its_binder (begun variable)
  binder_is = calls.binder_found (asked (begun variable)) is_variable x_is c.binder_of-binder.ensures

module _ {t : ℕ} (c : decide-Then-is_outer t) where
  abbrev outer_one : decide-After-binder_of-binder t
  outer_one = (goal.at.decide-Then-is_outer t c).After-binder_of-binder

  is_outer_one : outer outer_one.x_of-x-in-Variable.result (begun (variable outer_one)).args.mark ≡ true
  is_outer_one = sym c.is_outer.ensures ∙ c.if-is_outer.true

module _ {t : ℕ} (c : decide-After-constant-w t) where
  abbrev inner : decide-After-binder_of-binder t
  inner = (goal.at.decide-After-constant-w t c).After-binder_of-binder

  is_inner : outer inner.x_of-x-in-Variable.result (begun (variable inner)).args.mark ≡ false
  is_inner = sym c.is_outer.ensures ∙ c.if-is_outer.false

  constant_is : c.constant-w.result.0
      ≡ pick (eqb (kind_at (sheet (begun (variable inner))) (its_binder (begun (variable inner)))) 8) 1 0
  constant_is =
      c.constant-w.ensures.0 ∙
      ap (λ (k : ℕ). pick (eqb k 8) 1 0) (c.kind_of.ensures ∙ ap (kind_at (sheet (begun (variable inner)))) (binder_is inner))

-- ---- or and and: its first cell is decided, and then its second
module _ {t : ℕ} (c : decide-In-Or t) where
  its_pair : (2 ≤ its_kind (begun (goal.at.decide-In-Or t c).After-kind_of-k)) × (its_kind (begun (goal.at.decide-In-Or t c).After-kind_of-k) ≤ 3)
  its_pair =
      between_kinds node_kind_number c.in-Ok.kind Kind.Or Kind.And _ (c.in-Ok.ensures ∙ kind (goal.at.decide-In-Or t c).After-kind_of-k) (omega arith) c.in-Or.is

  pair_low : 2 ≤ its_kind (begun (goal.at.decide-In-Or t c).After-kind_of-k)
  pair_low = its_pair.0

  pair_high : its_kind (begun (goal.at.decide-In-Or t c).After-kind_of-k) < 4
  pair_high = omega (arith, its_pair.1)

module _ {t : ℕ} (c : decide-After-decides t) where
  abbrev pair : decide-In-Or t
  pair = (goal.at.decide-After-decides t c).In-Or

  abbrev either : decide-After-kind_of-k t
  either = (goal.at.decide-In-Or t pair).After-kind_of-k

  abbrev first : decide-After-decide-first t
  first = (goal.at.decide-After-decides t c).After-decide-first

  first_x : first.x_of-x.result ≡ its_x (begun either)
  first_x = first.x_of-x.ensures

  first_decides : c.decides.result ≡ beq (verdict_in first.decide-first.result.0) (eqb (its_kind (begun either)) 2)
  first_decides =
      c.decides.ensures ∙
      ap (beq (verdict_in first.decide-first.result.0))
      (elim c.in-Or.is [
        | inl e ↦
            let h = rw e at c.eq.ensures in
            ◌∙◌ {b = true} h (sym (eq-eqb (its_kind (begun either)) 2 (is either (sym c.in-Ok.ensures ∙ ap node_kind_number e))))
        | inr e ↦
            let h = rw e at c.eq.ensures in
            let k : its_kind (begun either) ≡ 3 = is either (sym c.in-Ok.ensures ∙ ap node_kind_number e) in
            ◌∙◌ {b = false} h (sym (ne_eqb (its_kind (begun either)) 2 (λ q. omega arith)))
      ])

module _ {t : ℕ} (c : decide-After-decide-second t) where
  abbrev not_yet : decide-After-decides t
  not_yet = (goal.at.decide-After-decide-second t c).After-decides

  both_kept : length c.decide-second.new.table ≡ length (table (begun (either not_yet)))
  both_kept = c.decide-second.auto.table ∙ (first not_yet).decide-first.auto.table

-- ---- a binder: the mark under which its child is decided
module _ {t : ℕ} (c : decide-In-Least t) where
  its_binding : (7 ≤ its_kind (begun (goal.at.decide-In-Least t c).After-kind_of-k)) × (its_kind (begun (goal.at.decide-In-Least t c).After-kind_of-k) ≤ 8)
  its_binding =
      between_kinds node_kind_number c.in-Ok.kind Kind.Least Kind.Greatest _ (c.in-Ok.ensures ∙ kind (goal.at.decide-In-Least t c).After-kind_of-k) (omega arith) c.in-Least.is

  binder_low : 7 ≤ its_kind (begun (goal.at.decide-In-Least t c).After-kind_of-k)
  binder_low = its_binding.0

  binder_high : its_kind (begun (goal.at.decide-In-Least t c).After-kind_of-k) < 9
  binder_high = omega (arith, its_binding.1)

module _ {t : ℕ} (c : decide-After-opening-inner t) where
  abbrev binder : decide-In-Least t
  binder = (goal.at.decide-After-opening-inner t c).In-Least

  abbrev fixpoint : decide-After-kind_of-k t
  fixpoint = (goal.at.decide-In-Least t binder).After-kind_of-k

  mark_is : c.opening-inner.result ≡ opened (its_x (begun fixpoint)) (begun fixpoint).args.mark
  mark_is = c.opening-inner.ensures ∙ ap (λ (k : ℕ). opened k (begun fixpoint).args.mark) c.x_of-x-in-Least.ensures

-- ---- looking the cell up
pub decide-bounds-table-at : goal.decide-bounds-table-at
decide-bounds-table-at t c = inside (goal.at.decide-bounds-table-at t c).After-cell_position-at

pub decide-returns-then-filled-ne0 : goal.decide-returns-then-filled-ne0
decide-returns-then-filled-ne0 t c = answers.answer_known (found (goal.at.decide-returns-then-filled-ne0 t c).After-cell_position-at) refl c.if-filled-ne0.true c.known_verdict.ensures

pub decide-kind_of-k-requires : goal.decide-kind_of-k-requires
decide-kind_of-k-requires t c = calls.node_at (asked (goal.at.decide-kind_of-k-requires t c).Start)

-- ---- false, true and an unknown kind
pub decide-fill_cell-requires-in-False : goal.decide-fill_cell-requires-in-False
decide-fill_cell-requires-in-False t c = (still (goal.at.decide-fill_cell-requires-in-False t c).After-kind_of-k refl, omega arith)

pub decide-returns-in-False : goal.decide-returns-in-False
decide-returns-in-False t c =
    let k = c in
    answers.answer_false (here (goal.at.decide-returns-in-False t c).After-kind_of-k) (empty (goal.at.decide-returns-in-False t c).After-kind_of-k) (is (goal.at.decide-returns-in-False t c).After-kind_of-k (sym c.in-Ok.ensures ∙ ap node_kind_number c.in-False.is))
    (c.fill_cell-in-False.ensures.one_visit_more, c.fill_cell-in-False.ensures.table_after)

pub decide-fill_cell-requires-in-True : goal.decide-fill_cell-requires-in-True
decide-fill_cell-requires-in-True t c = (still (goal.at.decide-fill_cell-requires-in-True t c).After-kind_of-k refl, omega arith)

pub decide-returns-in-True : goal.decide-returns-in-True
decide-returns-in-True t c =
    let k = c in
    answers.answer_true (here (goal.at.decide-returns-in-True t c).After-kind_of-k) (empty (goal.at.decide-returns-in-True t c).After-kind_of-k) (is (goal.at.decide-returns-in-True t c).After-kind_of-k (sym c.in-Ok.ensures ∙ ap node_kind_number c.in-True.is))
    (c.fill_cell-in-True.ensures.one_visit_more, c.fill_cell-in-True.ensures.table_after)

pub decide-fill_cell-requires : goal.decide-fill_cell-requires
decide-fill_cell-requires t c = (still (goal.at.decide-fill_cell-requires t c).After-kind_of-k refl, omega arith)

pub decide-returns-in_default : goal.decide-returns-in_default
decide-returns-in_default t c =
    let k = c in
    answers.answer_unknown (here (goal.at.decide-returns-in_default t c).After-kind_of-k) (empty (goal.at.decide-returns-in_default t c).After-kind_of-k) (omega (arith, kind (goal.at.decide-returns-in_default t c).After-kind_of-k, c.in_default.ensures.1))
    (c.fill_cell.ensures.one_visit_more, c.fill_cell.ensures.table_after)

-- ---- some and every
pub decide-follow-w-requires : goal.decide-follow-w-requires
decide-follow-w-requires t c =
    let k = c in
    let e = is (goal.at.decide-follow-w-requires t c).After-kind_of-k (sym c.in-Ok.ensures ∙ ap node_kind_number c.in-Diamond.is) in
    let w = called_walk (begun (goal.at.decide-follow-w-requires t c).After-kind_of-k) (omega arith) (omega arith) in
    (w.0, (w.1, sym (eq-eqb (its_kind (begun (goal.at.decide-follow-w-requires t c).After-kind_of-k)) 4 e)))

pub decide-fill_cell-requires-in-Diamond : goal.decide-fill_cell-requires-in-Diamond
decide-fill_cell-requires-in-Diamond t c =
    let w = c in
    (still (some (goal.at.decide-fill_cell-requires-in-Diamond t c).After-follow-w) w.follow-w.auto.table, w.follow-w.ensures.small)

pub decide-returns-in-Diamond : goal.decide-returns-in-Diamond
decide-returns-in-Diamond t c =
    let w = c in
    let e = is_some (goal.at.decide-returns-in-Diamond t c).After-follow-w in
    answers.answer_modal (here (some (goal.at.decide-returns-in-Diamond t c).After-follow-w)) (empty (some (goal.at.decide-returns-in-Diamond t c).After-follow-w)) (omega arith) (omega arith) w.follow-w.ensures
    (c.fill_cell-in-Diamond.ensures.one_visit_more, c.fill_cell-in-Diamond.ensures.table_after)

pub decide-follow-w-requires-in-Box : goal.decide-follow-w-requires-in-Box
decide-follow-w-requires-in-Box t c =
    let k = c in
    let e = is (goal.at.decide-follow-w-requires-in-Box t c).After-kind_of-k (sym c.in-Ok.ensures ∙ ap node_kind_number c.in-Box.is) in
    let w = called_walk (begun (goal.at.decide-follow-w-requires-in-Box t c).After-kind_of-k) (omega arith) (omega arith) in
    (w.0, (w.1, sym (ne_eqb (its_kind (begun (goal.at.decide-follow-w-requires-in-Box t c).After-kind_of-k)) 4 (omega arith))))

pub decide-fill_cell-requires-in-Box : goal.decide-fill_cell-requires-in-Box
decide-fill_cell-requires-in-Box t c =
    let w = c in
    (still (every (goal.at.decide-fill_cell-requires-in-Box t c).After-follow-w-in-Box) w.follow-w-in-Box.auto.table, w.follow-w-in-Box.ensures.small)

pub decide-returns-in-Box : goal.decide-returns-in-Box
decide-returns-in-Box t c =
    let w = c in
    let e = is_every (goal.at.decide-returns-in-Box t c).After-follow-w-in-Box in
    answers.answer_modal (here (every (goal.at.decide-returns-in-Box t c).After-follow-w-in-Box)) (empty (every (goal.at.decide-returns-in-Box t c).After-follow-w-in-Box)) (omega arith) (omega arith) w.follow-w-in-Box.ensures
    (c.fill_cell-in-Box.ensures.one_visit_more, c.fill_cell-in-Box.ensures.table_after)

-- ---- a variable
pub decide-x_of-x-requires-in-Variable : goal.decide-x_of-x-requires-in-Variable
decide-x_of-x-requires-in-Variable t c = calls.node_at (asked (begun (goal.at.decide-x_of-x-requires-in-Variable t c).After-kind_of-k))

pub decide-binder_of-binder-requires : goal.decide-binder_of-binder-requires
decide-binder_of-binder-requires t c =
    calls.binder_asked (asked (begun (goal.at.decide-binder_of-binder-requires t c).After-kind_of-k)) (is (goal.at.decide-binder_of-binder-requires t c).After-kind_of-k (sym c.in-Ok.ensures ∙ ap node_kind_number c.in-Variable.is)) c.x_of-x-in-Variable.ensures

pub decide-decide-w-requires : goal.decide-decide-w-requires
decide-decide-w-requires t c =
    let o = c in
    let v = outer_one (goal.at.decide-decide-w-requires t c).Then-is_outer in
    let s = begun (variable v) in
    called s (calls.call_outer (asked s) (asked s).room (x_is v) (binder_is v) (is_variable v) (is_outer_one (goal.at.decide-decide-w-requires t c).Then-is_outer))

pub decide-fill_cell-requires-then-is_outer : goal.decide-fill_cell-requires-then-is_outer
decide-fill_cell-requires-then-is_outer t c =
    let d = c in
    (still (variable (outer_one (goal.at.decide-fill_cell-requires-then-is_outer t c).Then-is_outer)) d.decide-w.auto.table, omega (arith, d.decide-w.ensures.small))

pub decide-returns-then-is_outer : goal.decide-returns-then-is_outer
decide-returns-then-is_outer t c =
    let d = c in
    let v = outer_one (goal.at.decide-returns-then-is_outer t c).Then-is_outer in
    answers.answer_outer (here (variable v)) (empty (variable v)) (x_is v) (binder_is v) (is_variable v) (is_outer_one (goal.at.decide-returns-then-is_outer t c).Then-is_outer)
    d.decide-w.ensures (c.fill_cell-then-is_outer.ensures.one_visit_more, c.fill_cell-then-is_outer.ensures.table_after)

pub decide-kind_of-requires : goal.decide-kind_of-requires
decide-kind_of-requires t c =
    let v = c in
    calls.binder_at (asked (begun (variable (goal.at.decide-kind_of-requires t c).After-binder_of-binder))) (is_variable (goal.at.decide-kind_of-requires t c).After-binder_of-binder) (x_is (goal.at.decide-kind_of-requires t c).After-binder_of-binder) v.binder_of-binder.ensures

pub decide-fill_cell-requires-in-Variable : goal.decide-fill_cell-requires-in-Variable
decide-fill_cell-requires-in-Variable t c =
    let w = c in
    (still (variable (inner (goal.at.decide-fill_cell-requires-in-Variable t c).After-constant-w)) refl, omega (arith, w.constant-w.ensures.1))

pub decide-returns-else-is_outer : goal.decide-returns-else-is_outer
decide-returns-else-is_outer t c =
    let w = c in
    let v = inner (goal.at.decide-returns-else-is_outer t c).After-constant-w in
    answers.answer_constant (here (variable v)) (empty (variable v)) (x_is v) (is_variable v) (is_inner (goal.at.decide-returns-else-is_outer t c).After-constant-w) (constant_is (goal.at.decide-returns-else-is_outer t c).After-constant-w)
    (c.fill_cell-in-Variable.ensures.one_visit_more, c.fill_cell-in-Variable.ensures.table_after)

-- ---- or and and
pub decide-x_of-x-requires : goal.decide-x_of-x-requires
decide-x_of-x-requires t c = calls.node_at (asked (begun (goal.at.decide-x_of-x-requires t c).After-kind_of-k))

pub decide-decide-first-requires : goal.decide-decide-first-requires
decide-decide-first-requires t c =
    let p = c in
    let s = begun (goal.at.decide-decide-first-requires t c).After-kind_of-k in
    called s (calls.call_first (asked s) (asked s).room c.x_of-x.ensures (pair_low (goal.at.decide-decide-first-requires t c).In-Or) (pair_high (goal.at.decide-decide-first-requires t c).In-Or))

pub decide-fill_cell-requires-then-decides : goal.decide-fill_cell-requires-then-decides
decide-fill_cell-requires-then-decides t c =
    let p = c in
    (still (either (goal.at.decide-fill_cell-requires-then-decides t c).After-decides) (first (goal.at.decide-fill_cell-requires-then-decides t c).After-decides).decide-first.auto.table, omega (arith, (first (goal.at.decide-fill_cell-requires-then-decides t c).After-decides).decide-first.ensures.small))

pub decide-returns-then-decides : goal.decide-returns-then-decides
decide-returns-then-decides t c =
    let p = c in
    answers.answer_first (here (either (goal.at.decide-returns-then-decides t c).After-decides)) (empty (either (goal.at.decide-returns-then-decides t c).After-decides)) (first_x (goal.at.decide-returns-then-decides t c).After-decides) (pair_low (pair (goal.at.decide-returns-then-decides t c).After-decides)) (pair_high (pair (goal.at.decide-returns-then-decides t c).After-decides))
    (first (goal.at.decide-returns-then-decides t c).After-decides).decide-first.ensures (sym (first_decides (goal.at.decide-returns-then-decides t c).After-decides) ∙ c.if-decides.true)
    (c.fill_cell-then-decides.ensures.one_visit_more, c.fill_cell-then-decides.ensures.table_after)

pub decide-y_of-y-requires : goal.decide-y_of-y-requires
decide-y_of-y-requires t c = calls.node_at (asked (begun (either (goal.at.decide-y_of-y-requires t c).After-decides)))

pub decide-decide-second-requires : goal.decide-decide-second-requires
decide-decide-second-requires t c =
    let p = c in
    let s = begun (either (goal.at.decide-decide-second-requires t c).After-decides) in
    let room : cell_bytes (sheet s) ≤ length (first (goal.at.decide-decide-second-requires t c).After-decides).decide-first.new.table =
    omega (arith, (first (goal.at.decide-decide-second-requires t c).After-decides).decide-first.auto.table, (asked s).room) in
    called s (calls.call_second (asked s) room c.y_of-y.ensures (pair_low (pair (goal.at.decide-decide-second-requires t c).After-decides)) (pair_high (pair (goal.at.decide-decide-second-requires t c).After-decides)))

pub decide-then-w-requires : goal.decide-then-w-requires
decide-then-w-requires t c =
    let d = c in
    (omega (arith, (first (not_yet (goal.at.decide-then-w-requires t c).After-decide-second)).decide-first.ensures.small), omega (arith, d.decide-second.ensures.small))

pub decide-fill_cell-requires-in-Or : goal.decide-fill_cell-requires-in-Or
decide-fill_cell-requires-in-Or t c =
    let d = c in (
      still (either (not_yet (goal.at.decide-fill_cell-requires-in-Or t c).After-decide-second)) (both_kept (goal.at.decide-fill_cell-requires-in-Or t c).After-decide-second),
      omega (arith, c.then-w.ensures.small, (first (not_yet (goal.at.decide-fill_cell-requires-in-Or t c).After-decide-second)).decide-first.ensures.small, d.decide-second.ensures.small),
    )

pub decide-returns-else-decides : goal.decide-returns-else-decides
decide-returns-else-decides t c =
    let d = c in
    let p = not_yet (goal.at.decide-returns-else-decides t c).After-decide-second in
    answers.answer_second (here (either p)) (empty (either p)) (first_x p) (pair_low (pair p)) (pair_high (pair p))
    (first p).decide-first.ensures (sym (first_decides p) ∙ d.if-decides.false)
    d.y_of-y.ensures d.decide-second.ensures
    c.then-w.ensures (c.fill_cell-in-Or.ensures.one_visit_more, c.fill_cell-in-Or.ensures.table_after)

-- ---- a binder
pub decide-x_of-x-requires-in-Least : goal.decide-x_of-x-requires-in-Least
decide-x_of-x-requires-in-Least t c = calls.node_at (asked (begun (goal.at.decide-x_of-x-requires-in-Least t c).After-kind_of-k))

pub decide-y_of-y-requires-in-Least : goal.decide-y_of-y-requires-in-Least
decide-y_of-y-requires-in-Least t c = calls.node_at (asked (begun (goal.at.decide-y_of-y-requires-in-Least t c).After-kind_of-k))

pub decide-opening-inner-requires : goal.decide-opening-inner-requires
decide-opening-inner-requires t c =
    let b = c in
    omega (arith, c.x_of-x-in-Least.ensures, calls.binder_x (asked (begun (goal.at.decide-opening-inner-requires t c).After-kind_of-k)) (binder_low (goal.at.decide-opening-inner-requires t c).In-Least) (binder_high (goal.at.decide-opening-inner-requires t c).In-Least))

pub decide-decide-w-requires-in-Least : goal.decide-decide-w-requires-in-Least
decide-decide-w-requires-in-Least t c =
    let o = c in
    let s = begun (fixpoint (goal.at.decide-decide-w-requires-in-Least t c).After-opening-inner) in
    let b = binder (goal.at.decide-decide-w-requires-in-Least t c).After-opening-inner in
    called s (calls.call_body (asked s) (asked s).room (mark_is (goal.at.decide-decide-w-requires-in-Least t c).After-opening-inner) o.y_of-y-in-Least.ensures (binder_low b) (binder_high b))

pub decide-fill_cell-requires-in-Least : goal.decide-fill_cell-requires-in-Least
decide-fill_cell-requires-in-Least t c =
    let d = c in
    (still (fixpoint (goal.at.decide-fill_cell-requires-in-Least t c).After-opening-inner) d.decide-w-in-Least.auto.table, omega (arith, d.decide-w-in-Least.ensures.small))

pub decide-returns-in-Least : goal.decide-returns-in-Least
decide-returns-in-Least t c =
    let o = c in
    let k = fixpoint (goal.at.decide-returns-in-Least t c).After-opening-inner in
    let b = binder (goal.at.decide-returns-in-Least t c).After-opening-inner in
    answers.answer_body (here k) (empty k) (mark_is (goal.at.decide-returns-in-Least t c).After-opening-inner) o.y_of-y-in-Least.ensures (binder_low b) (binder_high b)
    c.decide-w-in-Least.ensures (c.fill_cell-in-Least.ensures.one_visit_more, c.fill_cell-in-Least.ensures.table_after)

-- ---- following

-- ---- the start: the walk_sheet, the walk_index, the walk_table, the walk_node and the state
module _ {t : ℕ} (c : follow-Start t) where
  abbrev walk_sheet : List ℕ
  walk_sheet = c.args.self.now.sheet.now

  abbrev walk_index : Index
  walk_index = c.args.self.now.index.now

  abbrev walk_table : List ℕ
  walk_table = c.args.table.now

  abbrev walk_node : ℕ
  walk_node = c.args.node.0

  abbrev state : ℕ
  state = c.args.state.0

  walk_asked : FollowRequires walk_sheet walk_index walk_table walk_node state
  walk_asked = c.requires.0

-- ---- the loop, a turn of it, and whether its transition's action meets the formula
module _ {t : ℕ} (c : follow-At-loop-i t) where
  abbrev walk_begin : follow-Start t
  walk_begin = (goal.at.follow-At-loop-i t c).Start

  abbrev walk_first : ℕ
  walk_first = c.transitions_begin-i.result

  abbrev end : ℕ
  end = c.transitions_end-i-end.result

  walked : WalkedTo (walk_sheet walk_begin) (walk_table walk_begin) (walk_node walk_begin) (state walk_begin) walk_first end c.loop-i.i c.loop-i.sum.0 c.loop-i.table
  walked = c.loop-i.invariant

module _ {t : ℕ} (c : follow-In-loop-i t) where
  abbrev loop : follow-At-loop-i t
  loop = (goal.at.follow-In-loop-i t c).At-loop-i

  transition : TransitionAt (walk_sheet (walk_begin loop)) loop.loop-i.i
  transition = transition_at_lem (walk_asked (walk_begin loop)) (walked loop).turn c.loop-i-test.true

module _ {t : ℕ} (c : follow-After-has_bit t) where
  abbrev turn : follow-In-loop-i t
  turn = (goal.at.follow-After-has_bit t c).In-loop-i

  abbrev entry : follow-Start t
  entry = walk_begin (loop turn)

  meeting : c.has_bit.result ≡ meets_at (walk_sheet entry) (walk_node entry) (loop turn).loop-i.i
  meeting =
      met (walk_asked entry) (walked (loop turn)).turn turn.loop-i-test.true c.has_bit.ensures c.mask_of.ensures
      c.label_of.ensures (loop turn).x_of-entry.ensures

-- ---- the transition's cell is decided
module _ {t : ℕ} (c : follow-After-decide-w t) where
  abbrev tested : follow-After-has_bit t
  tested = (goal.at.follow-After-decide-w t c).After-has_bit

  is_met : meets_at (walk_sheet (entry tested)) (walk_node (entry tested)) (loop (turn tested)).loop-i.i ≡ true
  is_met = sym (meeting tested) ∙ c.if-has_bit.true

  child_is_lem : (loop (turn tested)).y_of.result ≡ y_at (walk_sheet (entry tested)) (walk_node (entry tested))
  child_is_lem = (loop (turn tested)).y_of.ensures

  to_add : ((loop (turn tested)).loop-i.sum.0 < 1000000000) × (c.decide-w.result.0 < 1000000000)
  to_add = (sum_small (walked (loop (turn tested))), omega (arith, c.decide-w.ensures.small))

module _ {t : ℕ} (c : follow-After-decides t) where
  abbrev decided : follow-After-decide-w t
  decided = (goal.at.follow-After-decides t c).After-decide-w

  deciding : c.decides.result
      ≡ beq (verdict_in decided.decide-w.result.0) (eqb (kind_at (walk_sheet (entry (tested decided))) (walk_node (entry (tested decided)))) 4)
  deciding = c.decides.ensures ∙ ap (beq (verdict_in decided.decide-w.result.0)) (entry (tested decided)).requires.1

-- ---- before the loop
pub follow-x_of-entry-requires : goal.follow-x_of-entry-requires
follow-x_of-entry-requires t c = modal_node_at (walk_asked (goal.at.follow-x_of-entry-requires t c).Start)

pub follow-y_of-requires : goal.follow-y_of-requires
follow-y_of-requires t c = modal_node_at (walk_asked (goal.at.follow-y_of-requires t c).Start)

pub follow-loop-i-init : goal.follow-loop-i-init
follow-loop-i-init t c =
    let s = c in
    walk_start (walk_asked (goal.at.follow-loop-i-init t c).Start) (c.transitions_begin-i.ensures ∙ (state_at (walk_asked (goal.at.follow-loop-i-init t c).Start)).begins) (c.transitions_end-i-end.ensures ∙ (state_at (walk_asked (goal.at.follow-loop-i-init t c).Start)).ends)

-- ---- a transition's action
pub follow-label_of-requires : goal.follow-label_of-requires
follow-label_of-requires t c = transition (goal.at.follow-label_of-requires t c).In-loop-i

-- ---- it meets the formula
pub follow-target_of-requires : goal.follow-target_of-requires
follow-target_of-requires t c = transition (goal.at.follow-target_of-requires t c).In-loop-i

pub follow-decide-w-requires : goal.follow-decide-w-requires
follow-decide-w-requires t c =
    let m = c in
    let l = loop (turn (goal.at.follow-decide-w-requires t c).After-has_bit) in
    let w = call_child (walk_asked (entry (goal.at.follow-decide-w-requires t c).After-has_bit)) (walked l) (turn (goal.at.follow-decide-w-requires t c).After-has_bit).loop-i-test.true l.y_of.ensures
    c.target_of.ensures in
    (omega (arith, w.0, (entry (goal.at.follow-decide-w-requires t c).After-has_bit).decreases), w.1)

pub follow-then-sum-requires : goal.follow-then-sum-requires
follow-then-sum-requires t c = to_add (goal.at.follow-then-sum-requires t c).After-decide-w

pub follow-returns-then-decides : goal.follow-returns-then-decides
follow-returns-then-decides t c =
    let v = (goal.at.follow-returns-then-decides t c).After-decides in
    let d = decided v in
    let m = tested d in
    turn_decided (walk_asked (entry m)) (walked (loop (turn m))) (turn m).loop-i-test.true (child_is_lem d) d.target_of.ensures
    (is_met d) d.decide-w.ensures (sym (deciding v) ∙ c.if-decides.true) c.then-sum.ensures

pub follow-loop-i-preserved : goal.follow-loop-i-preserved
follow-loop-i-preserved t c =
    let m = (goal.at.follow-loop-i-preserved t c).After-has_bit in
    let s = walk_asked (entry m) in
    let w = walked (loop (turn m)) in
    let more = (turn m).loop-i-test.true in
    elim c.if-has_bit.branch [
      | follow-then-has_bit+else-decides b ↦
          rw (b.sum-is, b.table-is)
          (turn_on s w more c.y_of.ensures b.target_of.ensures (sym (meeting m) ∙ b.if-has_bit.true) b.decide-w.ensures
          (sym (b.decides.ensures ∙ ap (beq (verdict_in b.decide-w.result.0)) (entry m).requires.1) ∙ b.if-decides.false) b.then-sum.ensures b.decide-w.auto.table)
      | follow-else-has_bit b ↦ rw (b.sum-is, b.table-is) (turn_past s w more (sym (meeting m) ∙ b.if-has_bit.false))
    ]

-- ---- after the loop
pub follow-then-requires : goal.follow-then-requires
follow-then-requires t c = (sum_small (walked (goal.at.follow-then-requires t c).At-loop-i), omega (arith, c.constant.ensures.1))

pub follow-returns : goal.follow-returns
follow-returns t c =
    let l = c in
    let s = walk_begin (goal.at.follow-returns t c).At-loop-i in
    walk_finish (walk_asked s) (walked (goal.at.follow-returns t c).At-loop-i) c.loop-i-test.false s.requires.1 c.constant.ensures
    c.then.ensures
