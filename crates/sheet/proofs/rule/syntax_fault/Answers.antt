-- `sheet::rule::syntax_fault` meets its contract.
use native.Mathlib.Omega.{arith}
use mathlib.Core.Path.{sym, ap, ◌∙◌}
use Rattle.sheet.specs.Rule.{first_fault}
use Rattle.sheet.proofs.Steps.Subtrees.{root_fault, root_bound}
use Rattle.sheet.proofs.rule.syntax_fault.Goals as goal

pub returns-in-Err : goal.returns-in-Err
returns-in-Err c = (
  c.from.ensures ∙ (ap first_fault (sym c.in-Err.is) ∙ root_fault _ _ _ c.subtree_from.ensures),
  omega (arith, ap first_fault c.in-Err.is, root_bound _ _ _ c.subtree_from.ensures),
)

pub returns-in-Ok : goal.returns-in-Ok
returns-in-Ok c = (
  ap first_fault (sym c.in-Ok.is) ∙ root_fault _ _ _ c.subtree_from.ensures,
  omega (arith, ap first_fault c.in-Ok.is, root_bound _ _ _ c.subtree_from.ensures),
)
