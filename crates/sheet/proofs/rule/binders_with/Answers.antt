-- `sheet::rule::binders_with` meets its contract.
use mathlib.Core.Path.{sym, ◌∙◌}
use Rattle.sheet.proofs.Steps.Nodes.{counted_binder, counted_other}
use Rattle.sheet.proofs.rule.binders_with.Goals as goal

pub returns-then-is_binder : goal.returns-then-is_binder
returns-then-is_binder c = counted_binder c.requires (sym c.is_binder.ensures ∙ c.if-is_binder.true)

pub returns-else-is_binder : goal.returns-else-is_binder
returns-else-is_binder c = counted_other c.requires (sym c.is_binder.ensures ∙ c.if-is_binder.false)
