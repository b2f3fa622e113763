-- `patterns::nodes::moved` meets its contract: the kind says which case of `moved` holds.
use Rattle.std.proofs.Common.{sym, ap, ◌∙◌, arith}
use Rattle.sheet.specs.KindNumbers.{node_kind_number}
use Rattle.sheet.specs.declared.kinds.NodeKind.TheVariants as Kind
use Rattle.sheet.proofs.Steps.Kinds.{between_kinds}
use Rattle.patterns.proofs.Steps.Moving.{moved_leaf, moved_pair, moved_modal, moved_variable, moved_binder}
use Rattle.patterns.proofs.nodes.moved.Goals as goal

pub returns-in_default : goal.returns-in_default
returns-in_default c = absurd (omega (arith, c.in_default.ensures, c.requires.known))

pub returns-in-False : goal.returns-in-False
returns-in-False c =
    let kind = between_kinds node_kind_number c.in-Ok.kind Kind.False Kind.True _ c.in-Ok.ensures (omega arith) c.in-False.is in
    sym (moved_leaf _ _ _ (omega (arith, kind)))

pub returns-in-Or : goal.returns-in-Or
returns-in-Or c =
    let kind = between_kinds node_kind_number c.in-Ok.kind Kind.Or Kind.And _ c.in-Ok.ensures (omega arith) c.in-Or.is in
    sym (moved_pair _ _ _ (omega (arith, kind)) (omega (arith, kind)))

pub returns-in-Diamond : goal.returns-in-Diamond
returns-in-Diamond c =
    let kind = between_kinds node_kind_number c.in-Ok.kind Kind.Diamond Kind.Box _ c.in-Ok.ensures (omega arith) c.in-Diamond.is in
    sym (moved_modal _ _ _ (omega (arith, kind)) (omega (arith, kind)))

pub returns-in-Variable : goal.returns-in-Variable
returns-in-Variable c = sym (moved_variable _ _ _ (sym c.in-Ok.ensures ∙ ap node_kind_number c.in-Variable.is))

pub returns-in-Least : goal.returns-in-Least
returns-in-Least c =
    let kind = between_kinds node_kind_number c.in-Ok.kind Kind.Least Kind.Greatest _ c.in-Ok.ensures (omega arith) c.in-Least.is in
    sym (moved_binder _ _ _ (omega (arith, kind)))
