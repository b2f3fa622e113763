-- `judge::consistency::Rows::successors_hold` meets its contract.
use Rattle.std.proofs.Common.{◌≡◌, sym, ◌∙◌}
use Rattle.judge.proofs.Steps.Turns.{meets_at, modal_node_at, state_at, transition_at_lem, met}
use Rattle.judge.proofs.Steps.AuditRows.{successors_start, child_inside, child_has, successors_found, successors_on, successors_past, successors_end}
use Rattle.judge.proofs.consistency.Rows.successors_hold.Goals as goal
use Rattle.judge.proofs.consistency.Rows.successors_hold.Goals.{After-has_bit, then-has_bit+else-byte_is-one, else-has_bit}

-- ---- before the loop
pub x_of-entry-requires : goal.x_of-entry-requires
x_of-entry-requires c = modal_node_at c.requires.0

pub y_of-requires : goal.y_of-requires
y_of-requires c = modal_node_at c.requires.0

pub loop-i-init : goal.loop-i-init
loop-i-init c =
    let f = c.requires.0 in
    successors_start f (c.transitions_begin-i.ensures ∙ (state_at f).begins) (c.transitions_end-i-end.ensures ∙ (state_at f).ends)

-- ---- a transition's action
pub label_of-requires : goal.label_of-requires
label_of-requires c = transition_at_lem c.requires.0 c.loop-i.invariant.turn c.loop-i-test.true

module _ (c : After-has_bit) where
  meeting : c.has_bit.result ≡ meets_at c.args.self.now.sheet.now c.args.node.0 c.loop-i.i
  meeting =
      met c.requires.0 c.loop-i.invariant.turn c.loop-i-test.true c.has_bit.ensures c.mask_of.ensures
      c.label_of.ensures c.x_of-entry.ensures

-- ---- it meets the formula
pub target_of-requires : goal.target_of-requires
target_of-requires c = transition_at_lem c.requires.0 c.loop-i.invariant.turn c.loop-i-test.true

pub byte_is-requires : goal.byte_is-requires
byte_is-requires c =
    child_inside c.requires.0 c.loop-i.invariant c.loop-i-test.true c.y_of.ensures c.target_of.ensures c.cell_position-at.ensures

pub returns-then-byte_is-one : goal.returns-then-byte_is-one
returns-then-byte_is-one c =
    let f = c.requires.0 in
    let w = c.loop-i.invariant in
    let more = c.loop-i-test.true in
    successors_found f w more (sym (meeting (goal.at.returns-then-byte_is-one c).After-has_bit) ∙ c.if-has_bit.true)
    (child_has f w more c.y_of.ensures c.target_of.ensures c.cell_position-at.ensures c.requires.1 c.byte_is.ensures)
    c.if-byte_is-one.true

pub loop-i-preserved : goal.loop-i-preserved
loop-i-preserved c =
    let f = c.requires.0 in
    let w = c.loop-i.invariant in
    let more = c.loop-i-test.true in
    let m = sym (meeting (goal.at.loop-i-preserved c).After-has_bit) in
    elim c.if-has_bit.branch [
      | then-has_bit+else-byte_is-one b ↦
          successors_on f w more (m ∙ b.if-has_bit.true)
          (child_has f w more c.y_of.ensures b.target_of.ensures b.cell_position-at.ensures c.requires.1 b.byte_is.ensures)
          b.if-byte_is-one.false
      | else-has_bit b ↦ successors_past f w more (m ∙ b.if-has_bit.false)
    ]

-- ---- after the loop
pub returns : goal.returns
returns c = successors_end c.requires.0 c.loop-i.invariant c.loop-i-test.false
