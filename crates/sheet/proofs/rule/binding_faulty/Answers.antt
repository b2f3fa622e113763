-- `sheet::rule::binding_faulty` meets its contract.
use native.Mathlib.Omega.{arith}
use borrow.Author.Tests.{ne_eqb}
use mathlib.Core.Path.{sym}
use Rattle.sheet.proofs.Steps.Nodes.{binding_free, binding_variable, binding_unknown, binding_numbered, binding_misnumbered}
use Rattle.sheet.proofs.rule.binding_faulty.Goals as goal

pub returns-in-6 : goal.returns-in-6
returns-in-6 c = rw (c.below_binder.ensures, c.x_at-x.ensures.0) (sym (binding_variable _ _ (omega arith)))

pub returns-then-x-binders : goal.returns-then-x-binders
returns-then-x-binders c = rw (ne_eqb _ _ c.if-x-binders.true) (binding_misnumbered _ _ (omega arith) (omega arith) (omega arith))

pub returns-else-x-binders : goal.returns-else-x-binders
returns-else-x-binders c = rw c.requires (binding_numbered _ _ (omega arith) (omega arith) (omega arith))

pub returns-in_default : goal.returns-in_default
returns-in_default c = binding_free _ _ (omega arith)

pub returns-in_default-2 : goal.returns-in_default-2
returns-in_default-2 c = binding_unknown _ _ (omega arith)
