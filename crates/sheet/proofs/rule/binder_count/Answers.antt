-- `sheet::rule::binder_count` meets its contract.
use mathlib.Core.Path.{ap, ◌∙◌}
use Rattle.sheet.specs.Rule.{binders_before}
use Rattle.sheet.proofs.rule.binder_count.Goals as goal

pub returns : goal.returns
returns c = c.binders_before.ensures.is ∙ ap (binders_before _) c.byte_at.ensures.0
