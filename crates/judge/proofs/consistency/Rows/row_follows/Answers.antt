-- `judge::consistency::Rows::row_follows` meets its contract: the row by the kind of the node.
use Rattle.std.proofs.Common.{◌≡◌, ℕ, ◌<◌, ◌≤◌, sym, ap, ◌∙◌, arith, eqb, eq-eqb, ne_eqb}
use mathlib.Core.Bool.{Bool, true, false, beq}
use mathlib.Core.Logic.{inl, inr}
use Rattle.sheet.specs.KindNumbers.{node_kind_number}
use Rattle.sheet.specs.declared.kinds.NodeKind.TheVariants as Kind
use Rattle.sheet.proofs.Steps.Kinds.{between_kinds}
use Rattle.judge.specs.Cells.{cell, opened}
use Rattle.judge.specs.Internal.Deciding.{DecideRequires}
use Rattle.judge.proofs.Steps.DecideSteps.{kind_at}
use Rattle.judge.proofs.Steps.DecideCalls.{placed, node_at, cell_inside, call_first, call_second, call_outer, call_body, call_follow, binder_x, binder_asked, binder_found, binder_at}
use Rattle.judge.proofs.Steps.AuditRows.{row_false, row_true, row_unknown, row_outer, row_constant, row_body, row_modal, some_asks_one, every_asks_one, row_first, row_second}
use Rattle.judge.proofs.consistency.Rows.row_follows.Goals as goal
use Rattle.judge.proofs.consistency.Rows.row_follows.Goals.{After-kind_of-k, After-eq, In-Or, In-Variable, In-Least, Start}

-- ---- the start, and the kind of the node
module _ (c : Start) where
  asked : DecideRequires c.args.self.now.sheet.now c.args.self.now.index.now c.args.self.now.table.now (cell c.args.mark c.args.node.0 c.args.state.0)
  asked = c.requires.0

module _ (c : After-kind_of-k) where
  abbrev start : Start
  start = (goal.at.After-kind_of-k c).Start

  abbrev its_kind : ℕ
  its_kind = kind_at start.args.self.now.sheet.now start.args.node.0

  kind : c.kind_of-k.result ≡ its_kind
  kind = c.kind_of-k.ensures

  is : {k : ℕ} → c.kind_of-k.result ≡ k → its_kind ≡ k
  is e = sym kind ∙ e

pub kind_of-k-requires : goal.kind_of-k-requires
kind_of-k-requires c = node_at (asked (goal.at.kind_of-k-requires c).Start)

-- ---- a "some" or an "every"
pub successors_hold-requires : goal.successors_hold-requires
successors_hold-requires c =
    let e = is (goal.at.successors_hold-requires c).After-kind_of-k (sym c.in-Ok.ensures ∙ ap node_kind_number c.in-Diamond.is) in
    ((call_follow (asked (goal.at.successors_hold-requires c).Start) (omega (arith, e)) (omega (arith, e))).1, c.requires.1)

pub successors_hold-requires-in-Box : goal.successors_hold-requires-in-Box
successors_hold-requires-in-Box c =
    let e = is (goal.at.successors_hold-requires-in-Box c).After-kind_of-k (sym c.in-Ok.ensures ∙ ap node_kind_number c.in-Box.is) in
    ((call_follow (asked (goal.at.successors_hold-requires-in-Box c).Start) (omega (arith, e)) (omega (arith, e))).1, c.requires.1)

-- ---- a variable
pub x_of-x-requires-in-Variable : goal.x_of-x-requires-in-Variable
x_of-x-requires-in-Variable c = node_at (asked (goal.at.x_of-x-requires-in-Variable c).Start)

module _ (c : In-Variable) where
  is_variable : its_kind (goal.at.In-Variable c).After-kind_of-k ≡ 6
  is_variable = is (goal.at.In-Variable c).After-kind_of-k (sym c.in-Ok.ensures ∙ ap node_kind_number c.in-Variable.is)

pub binder_of-binder-requires : goal.binder_of-binder-requires
binder_of-binder-requires c = binder_asked (asked (goal.at.binder_of-binder-requires c).Start) (is_variable (goal.at.binder_of-binder-requires c).In-Variable) c.x_of-x-in-Variable.ensures

pub byte_is-requires-then-is_outer : goal.byte_is-requires-then-is_outer
byte_is-requires-then-is_outer c =
    let d = asked (goal.at.byte_is-requires-then-is_outer c).Start in
    let k = is_variable (goal.at.byte_is-requires-then-is_outer c).In-Variable in
    let x = c.x_of-x-in-Variable.ensures in
    cell_inside (call_outer d {u = c.args.self.now.table.now} d.room x (binder_found d k x c.binder_of-binder.ensures) k (sym c.is_outer.ensures ∙ c.if-is_outer.true)).1
    (placed d.prepared _ _ _ c.cell_position-then-is_outer.ensures)

pub returns-then-is_outer : goal.returns-then-is_outer
returns-then-is_outer c =
    row_outer (asked (goal.at.returns-then-is_outer c).Start) c.args.b c.requires.1 (is_variable (goal.at.returns-then-is_outer c).In-Variable) c.x_of-x-in-Variable.ensures c.binder_of-binder.ensures
    (sym c.is_outer.ensures ∙ c.if-is_outer.true) c.cell_position-then-is_outer.ensures c.byte_is-then-is_outer.ensures

pub kind_of-requires : goal.kind_of-requires
kind_of-requires c = binder_at (asked (goal.at.kind_of-requires c).Start) (is_variable (goal.at.kind_of-requires c).In-Variable) c.x_of-x-in-Variable.ensures c.binder_of-binder.ensures

-- ---- an "or" or an "and"
module _ (c : In-Or) where
  its_pair : (2 ≤ its_kind (goal.at.In-Or c).After-kind_of-k) × (its_kind (goal.at.In-Or c).After-kind_of-k ≤ 3)
  its_pair =
      between_kinds node_kind_number c.in-Ok.kind Kind.Or Kind.And _ (c.in-Ok.ensures ∙ kind (goal.at.In-Or c).After-kind_of-k) (omega arith) c.in-Or.is

  pair_low : 2 ≤ its_kind (goal.at.In-Or c).After-kind_of-k
  pair_low = its_pair.0

  pair_high : its_kind (goal.at.In-Or c).After-kind_of-k < 4
  pair_high = omega (arith, its_pair.1)

module _ (c : After-eq) where
  is_or : c.eq.result ≡ eqb c.kind_of-k.result 2
  is_or =
      elim c.in-Or.is [
        | inl e ↦
            let h = rw e at c.eq.ensures in
            let k : c.kind_of-k.result ≡ 2 = sym c.in-Ok.ensures ∙ ap node_kind_number e in
            ◌∙◌ {b = true} h (sym (eq-eqb c.kind_of-k.result 2 k))
        | inr e ↦
            let h = rw e at c.eq.ensures in
            let k : c.kind_of-k.result ≡ 3 = sym c.in-Ok.ensures ∙ ap node_kind_number e in
            ◌∙◌ {b = false} h (sym (ne_eqb c.kind_of-k.result 2 (λ q. omega arith)))
      ]

pub x_of-x-requires : goal.x_of-x-requires
x_of-x-requires c = node_at (asked (goal.at.x_of-x-requires c).Start)

pub byte_is-requires : goal.byte_is-requires
byte_is-requires c =
    let d = asked (goal.at.byte_is-requires c).Start in
    cell_inside (call_first d {u = c.args.self.now.table.now} d.room c.x_of-x.ensures (pair_low (goal.at.byte_is-requires c).In-Or) (pair_high (goal.at.byte_is-requires c).In-Or)).1 (placed d.prepared _ _ _ c.cell_position.ensures)

pub returns-then-byte_is-one : goal.returns-then-byte_is-one
returns-then-byte_is-one c =
    ap (λ (x : Bool). beq (eqb c.args.b 2) x) (is_or (goal.at.returns-then-byte_is-one c).After-eq) ∙
    row_first (asked (goal.at.returns-then-byte_is-one c).Start) c.args.b c.requires.1 (pair_low (goal.at.returns-then-byte_is-one c).In-Or) (pair_high (goal.at.returns-then-byte_is-one c).In-Or) (kind (goal.at.returns-then-byte_is-one c).After-kind_of-k) c.x_of-x.ensures
    c.cell_position.ensures c.byte_is.ensures (ap (λ (x : Bool). beq c.byte_is.result (beq (eqb c.args.b 2) x)) (sym (is_or (goal.at.returns-then-byte_is-one c).After-eq)) ∙ c.if-byte_is-one.true)

pub y_of-y-requires : goal.y_of-y-requires
y_of-y-requires c = node_at (asked (goal.at.y_of-y-requires c).Start)

pub byte_is-requires-in-Or : goal.byte_is-requires-in-Or
byte_is-requires-in-Or c =
    let d = asked (goal.at.byte_is-requires-in-Or c).Start in
    cell_inside (call_second d {u = c.args.self.now.table.now} d.room c.y_of-y.ensures (pair_low (goal.at.byte_is-requires-in-Or c).In-Or) (pair_high (goal.at.byte_is-requires-in-Or c).In-Or)).1 (placed d.prepared _ _ _ c.cell_position-in-Or.ensures)

-- ---- a binder
module _ (c : In-Least) where
  its_binding : (7 ≤ its_kind (goal.at.In-Least c).After-kind_of-k) × (its_kind (goal.at.In-Least c).After-kind_of-k ≤ 8)
  its_binding =
      between_kinds node_kind_number c.in-Ok.kind Kind.Least Kind.Greatest _ (c.in-Ok.ensures ∙ kind (goal.at.In-Least c).After-kind_of-k) (omega arith) c.in-Least.is

  binder_low : 7 ≤ its_kind (goal.at.In-Least c).After-kind_of-k
  binder_low = its_binding.0

  binder_high : its_kind (goal.at.In-Least c).After-kind_of-k < 9
  binder_high = omega (arith, its_binding.1)

pub x_of-x-requires-in-Least : goal.x_of-x-requires-in-Least
x_of-x-requires-in-Least c = node_at (asked (goal.at.x_of-x-requires-in-Least c).Start)

pub y_of-y-requires-in-Least : goal.y_of-y-requires-in-Least
y_of-y-requires-in-Least c = node_at (asked (goal.at.y_of-y-requires-in-Least c).Start)

pub opening-inner-requires : goal.opening-inner-requires
opening-inner-requires c = omega (arith, c.x_of-x-in-Least.ensures, binder_x (asked (goal.at.opening-inner-requires c).Start) (binder_low (goal.at.opening-inner-requires c).In-Least) (binder_high (goal.at.opening-inner-requires c).In-Least))

pub byte_is-requires-in-Least : goal.byte_is-requires-in-Least
byte_is-requires-in-Least c =
    let d = asked (goal.at.byte_is-requires-in-Least c).Start in
    cell_inside
    (call_body d {u = c.args.self.now.table.now} d.room (c.opening-inner.ensures ∙ ap (λ (x : ℕ). opened x c.args.mark) c.x_of-x-in-Least.ensures) c.y_of-y-in-Least.ensures
    (binder_low (goal.at.byte_is-requires-in-Least c).In-Least) (binder_high (goal.at.byte_is-requires-in-Least c).In-Least)).1
    (placed d.prepared _ _ _ c.cell_position-in-Least.ensures)

-- ---- what it returns
pub returns-in-False : goal.returns-in-False
returns-in-False c = row_false (asked (goal.at.returns-in-False c).Start) c.args.b c.requires.1 (is (goal.at.returns-in-False c).After-kind_of-k (sym c.in-Ok.ensures ∙ ap node_kind_number c.in-False.is))

pub returns-in-True : goal.returns-in-True
returns-in-True c = row_true (asked (goal.at.returns-in-True c).Start) c.args.b c.requires.1 (is (goal.at.returns-in-True c).After-kind_of-k (sym c.in-Ok.ensures ∙ ap node_kind_number c.in-True.is))

pub returns-in-Diamond : goal.returns-in-Diamond
returns-in-Diamond c =
    let e = is (goal.at.returns-in-Diamond c).After-kind_of-k (sym c.in-Ok.ensures ∙ ap node_kind_number c.in-Diamond.is) in
    row_modal (asked (goal.at.returns-in-Diamond c).Start) c.args.b c.requires.1 (omega (arith, e)) (omega (arith, e))
    (some_asks_one (asked (goal.at.returns-in-Diamond c).Start) c.args.b c.requires.1 e) c.successors_hold.ensures

pub returns-in-Box : goal.returns-in-Box
returns-in-Box c =
    let e = is (goal.at.returns-in-Box c).After-kind_of-k (sym c.in-Ok.ensures ∙ ap node_kind_number c.in-Box.is) in
    row_modal (asked (goal.at.returns-in-Box c).Start) c.args.b c.requires.1 (omega (arith, e)) (omega (arith, e))
    (every_asks_one (asked (goal.at.returns-in-Box c).Start) c.args.b c.requires.1 e) c.successors_hold-in-Box.ensures

pub returns-else-is_outer : goal.returns-else-is_outer
returns-else-is_outer c =
    row_constant (asked (goal.at.returns-else-is_outer c).Start) c.args.b c.requires.1 (is_variable (goal.at.returns-else-is_outer c).In-Variable) c.x_of-x-in-Variable.ensures c.binder_of-binder.ensures
    (sym c.is_outer.ensures ∙ c.if-is_outer.false) c.kind_of.ensures

pub returns-else-byte_is-one : goal.returns-else-byte_is-one
returns-else-byte_is-one c =
    row_second (asked (goal.at.returns-else-byte_is-one c).Start) c.args.b c.requires.1 (pair_low (goal.at.returns-else-byte_is-one c).In-Or) (pair_high (goal.at.returns-else-byte_is-one c).In-Or) (kind (goal.at.returns-else-byte_is-one c).After-kind_of-k) c.x_of-x.ensures
    c.cell_position.ensures c.byte_is.ensures (ap (λ (x : Bool). beq c.byte_is.result (beq (eqb c.args.b 2) x)) (sym (is_or (goal.at.returns-else-byte_is-one c).After-eq)) ∙ c.if-byte_is-one.false) c.y_of-y.ensures c.cell_position-in-Or.ensures
    c.byte_is-in-Or.ensures

pub returns-in-Least : goal.returns-in-Least
returns-in-Least c =
    row_body (asked (goal.at.returns-in-Least c).Start) c.args.b c.requires.1 (binder_low (goal.at.returns-in-Least c).In-Least) (binder_high (goal.at.returns-in-Least c).In-Least) c.x_of-x-in-Least.ensures c.opening-inner.ensures
    c.y_of-y-in-Least.ensures c.cell_position-in-Least.ensures c.byte_is-in-Least.ensures

pub returns-in_default : goal.returns-in_default
returns-in_default c =
    row_unknown (asked (goal.at.returns-in_default c).Start) c.args.b c.requires.1
    (omega (arith, kind (goal.at.returns-in_default c).After-kind_of-k, c.in_default.ensures.1))
