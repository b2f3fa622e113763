-- The recursion `sheet::rule::subtree_from` meets its contract. The measure is the number of nodes from n on.
use native.Mathlib.Omega.{arith}
use mathlib.Core.Path.{sym, ◌∙◌}
use Rattle.std.proofs.lemmas.Result.{err_from_is_err_and}
use Rattle.sheet.proofs.Steps.Subtrees.{ended_leaf, ended_leaf_fault, ended_variable, ended_variable_fault, ended_unknown}
use Rattle.sheet.proofs.Steps.Subtrees.{ended_modal, ended_modal_fault, ended_binder, ended_binder_fault}
use Rattle.sheet.proofs.Steps.Subtrees.{ended_pair, ended_pair_fault, ended_first_fault, ended_second_fault}
use Rattle.sheet.proofs.rule.+subtree_from.Goals as goal

pub returns-in_err-end-in-2-to-3 : goal.returns-in_err-end-in-2-to-3
returns-in_err-end-in-2-to-3 t c =
    let p = err_from_is_err_and c.from_residual.result c.from_residual.ensures.1 in
    rw (p.1, p.2) (ended_first_fault _ _ _ c.requires _ c.subtree_from.ensures (omega arith) (omega arith)
    (sym c.x_is_child.ensures ∙ c.if-x_is_child.true) _ c.in_err-end-in-2-to-3.was)

pub returns-in-6 : goal.returns-in-6
returns-in-6 t c = ended_variable _ _ _ c.requires (omega arith) (sym c.variable_right.ensures ∙ c.if-variable_right.true)

pub returns-in-0-to-1 : goal.returns-in-0-to-1
returns-in-0-to-1 t c = ended_leaf _ _ _ c.requires (omega arith) (sym c.leaf_right.ensures ∙ c.if-leaf_right.true)

pub returns-then-y_is_child : goal.returns-then-y_is_child
returns-then-y_is_child t c =
    ended_pair _ _ _ c.requires _ c.subtree_from.ensures (omega arith) (omega arith) (sym c.x_is_child.ensures ∙ c.if-x_is_child.true) _ _
    c.in_ok-end-in-2-to-3.was (sym c.y_is_child.ensures ∙ c.if-y_is_child.true) c.subtree_from-then-y_is_child.ensures

pub returns-else-y_is_child : goal.returns-else-y_is_child
returns-else-y_is_child t c =
    ended_second_fault _ _ _ c.requires _ c.subtree_from.ensures (omega arith) (omega arith) (sym c.x_is_child.ensures ∙ c.if-x_is_child.true) _
    c.in_ok-end-in-2-to-3.was (sym c.y_is_child.ensures ∙ c.if-y_is_child.false)

pub returns-in-4-to-5 : goal.returns-in-4-to-5
returns-in-4-to-5 t c =
    ended_modal _ _ _ c.requires _ c.subtree_from-in-4-to-5.ensures (omega arith) (omega arith) (sym c.modal_right.ensures ∙ c.if-modal_right.true)

pub returns-in-7-to-8 : goal.returns-in-7-to-8
returns-in-7-to-8 t c =
    ended_binder _ _ _ c.requires _ c.subtree_from-in-7-to-8.ensures (omega arith) (omega arith) (sym c.y_is_child-then-this-lt9.ensures ∙ c.if-y_is_child-2.true)

pub returns-in_default : goal.returns-in_default
returns-in_default t c = ended_variable_fault _ _ _ c.requires (omega arith) (sym c.variable_right.ensures ∙ c.if-variable_right.false)

pub returns-in_default-2 : goal.returns-in_default-2
returns-in_default-2 t c = ended_leaf_fault _ _ _ c.requires (omega arith) (sym c.leaf_right.ensures ∙ c.if-leaf_right.false)

pub returns-in_default-3 : goal.returns-in_default-3
returns-in_default-3 t c = ended_pair_fault _ _ _ c.requires (omega arith) (omega arith) (sym c.x_is_child.ensures ∙ c.if-x_is_child.false)

pub returns-in_default-4 : goal.returns-in_default-4
returns-in_default-4 t c = ended_modal_fault _ _ _ c.requires (omega arith) (omega arith) (sym c.modal_right.ensures ∙ c.if-modal_right.false)

pub returns-in_default-5 : goal.returns-in_default-5
returns-in_default-5 t c = ended_binder_fault _ _ _ c.requires (omega arith) (omega arith) (sym c.y_is_child-then-this-lt9.ensures ∙ c.if-y_is_child-2.false)

pub returns-in_default-6 : goal.returns-in_default-6
returns-in_default-6 t c = ended_unknown _ _ _ c.requires (omega arith)
