-- `judge::consistency::Rows::successors_hold` meets its contract. Of the loop: what is left is whether enough cells from here on are filled.
use Rattle.judge.proofs.Steps.AuditRows.{SuccessorsLeft}
use Rattle.judge.proofs.consistency.Rows.successors_hold.Given as goal

abbrev pub invariant-loop-i : goal.invariant-loop-i
invariant-loop-i l = SuccessorsLeft l.self.sheet.now l.self.table.now l.fn.node.0 l.fn.state.0 l.one l.b l.initial.i l.i-end l.i
