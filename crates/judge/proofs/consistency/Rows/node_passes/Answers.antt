-- `judge::consistency::Rows::node_passes` meets its contract.
use Rattle.std.proofs.Common.{◌+◌, ◌<◌, not, get_or, sym, refl, ap, ◌∙◌, arith}
use Rattle.sheet.specs.Contents.{rule_body}
use Rattle.sheet.proofs.Checks.Seeking.{seek_start, seek_next}
use Rattle.judge.specs.Cells.{cell, marks}
use Rattle.judge.specs.Internal.Auditing.{cell_passes, CellRequires}
use Rattle.judge.proofs.Steps.AuditCells.{every_fails, every_passes, marks_told, node_told, cell_room, cell_few, cell_asked, passes_empty, shown_on}
use Rattle.judge.proofs.consistency.Rows.node_passes.Goals as goal
use Rattle.judge.proofs.consistency.Rows.node_passes.Goals.{In-loop-m}

pub loop-m-init : goal.loop-m-init
loop-m-init c = (seek_start _ _ _ (marks_told c.requires.0 c.requires.1), λ m h. absurd (h refl))

-- the mark of a turn, and its cell
module _ (c : In-loop-m) where
  mark-told : c.loop-m.m < marks (rule_body c.args.self.now.sheet.now)
  mark-told = omega (arith, c.loop-m-test.true, marks_told c.requires.0 c.requires.1)

  its-cell : CellRequires c.args.self.now.sheet.now c.args.self.now.index.now c.args.self.now.table.now (cell c.loop-m.m c.args.node.0 c.args.state.0)
      (get_or c.args.self.now.table.now (c.cell_position-start.result + c.loop-m.m) 0)
  its-cell = cell_asked c.requires.0 c.requires.1 c.cell_position-start.ensures mark-told refl

pub overflow_add-b : goal.overflow_add-b
overflow_add-b c = omega (arith, cell_few c.requires.0 c.requires.1 c.cell_position-start.ensures (mark-told (goal.at.overflow_add-b c).In-loop-m))

pub bounds-self-start : goal.bounds-self-start
bounds-self-start c = cell_room c.requires.0 c.requires.1 c.cell_position-start.ensures (mark-told (goal.at.bounds-self-start c).In-loop-m)

-- it is empty
pub loop-m-preserved-then-b-eq0 : goal.loop-m-preserved-then-b-eq0
loop-m-preserved-then-b-eq0 c = (
  seek_next c.loop-m.invariant.0 c.loop-m-test.true
      (ap not (sym (passes_empty (its-cell (goal.at.loop-m-preserved-then-b-eq0 c).In-loop-m) c.if-b-eq0.true))),
  c.loop-m.invariant.1,
)

-- it is filled
pub cell_passes-requires : goal.cell_passes-requires
cell_passes-requires c = (its-cell (goal.at.cell_passes-requires c).In-loop-m, c.if-b-eq0.false, c.loop-m.invariant.1 c.loop-m.m)

pub returns-then-not-cell_passes : goal.returns-then-not-cell_passes
returns-then-not-cell_passes c =
    every_fails (λ j. cell_passes c.args.self.now.sheet.now c.args.self.now.table.now (cell j c.args.node.0 c.args.state.0))
    c.loop-m.invariant.0 (marks_told c.requires.0 c.requires.1) c.loop-m-test.true (sym c.cell_passes.ensures ∙ c.if-not-cell_passes.true)

pub kind_of-requires : goal.kind_of-requires
kind_of-requires c = node_told c.requires.0 c.requires.1

pub loop-m-preserved : goal.loop-m-preserved
loop-m-preserved c = (
  seek_next c.loop-m.invariant.0 c.loop-m-test.true (ap not (sym c.cell_passes.ensures ∙ c.if-not-cell_passes.false)),
  shown_on (its-cell (goal.at.loop-m-preserved c).In-loop-m) c.if-b-eq0.false c.loop-m.invariant.1 c.kind_of.ensures
      (sym (c.if-not-cell_passes.false) ∙ c.cell_passes.ensures) c.shown_after-shown.ensures,
)

pub returns : goal.returns
returns c =
    every_passes (λ j. cell_passes c.args.self.now.sheet.now c.args.self.now.table.now (cell j c.args.node.0 c.args.state.0))
    c.loop-m.invariant.0 (marks_told c.requires.0 c.requires.1) c.loop-m-test.false
