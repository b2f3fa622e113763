-- `judge::consistency::Rows::mark_allowed` meets its contract.
use Rattle.std.proofs.Common.{refl, ◌-◌, ◌∙◌, le-ltb}
use Rattle.judge.proofs.Steps.AuditCells.{told_zero, told_above, told_not}
use Rattle.judge.proofs.consistency.Rows.mark_allowed.Goals as goal

pub returns-then-mark-eq0 : goal.returns-then-mark-eq0
returns-then-mark-eq0 c = told_zero c.args.self.now.index.now _ _ c.if-mark-eq0.true

pub returns-then-self-k : goal.returns-then-self-k
returns-then-self-k c = told_above c.args.self.now.index.now _ _ c.if-mark-eq0.false refl refl refl refl c.if-self-k.true

pub returns-else-self-k : goal.returns-else-self-k
returns-else-self-k c = le-ltb _ _ c.if-self-k.false ∙ told_not c.args.self.now.index.now _ _ c.if-mark-eq0.false {k = c.args.mark - 1} refl refl refl c.if-self-k.false
