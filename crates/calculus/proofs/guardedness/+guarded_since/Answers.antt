-- The recursion `calculus::guardedness::guarded_since` meets its contract. The measure is the number of nodes from n on.
use native.Mathlib.Omega.{arith}
use mathlib.Core.Path.{ap, sym, ◌∙◌}
use mathlib.Core.Bool.{Bool, ◌&&◌}
use Rattle.calculus.proofs.Definition2.GuardSteps.{call_first, call_second, call_modal, call_binder, step_constant, step_pair, step_failed, step_modal, step_variable, step_binder, step_unknown}
use Rattle.sheet.specs.KindNumbers.{node_kind_number}
use Rattle.sheet.specs.declared.kinds.NodeKind.TheVariants as Kind
use Rattle.sheet.proofs.Steps.Kinds.{between_kinds}
use Rattle.calculus.proofs.guardedness.+guarded_since.Goals as goal

pub guarded_since-requires : goal.guarded_since-requires
guarded_since-requires t c =
    let kind = between_kinds node_kind_number c.in-Ok.kind Kind.Or Kind.And _ c.in-Ok.ensures (omega arith) c.in-Or.is in
    let k = call_first _ _ _ c.requires _ c.node-kind.ensures (omega (arith, kind)) (omega (arith, kind)) in
    (omega (arith, k.fewer), k.asked)

pub guarded_since-requires-then-guarded_since : goal.guarded_since-requires-then-guarded_since
guarded_since-requires-then-guarded_since t c =
    let kind = between_kinds node_kind_number c.in-Ok.kind Kind.Or Kind.And _ c.in-Ok.ensures (omega arith) c.in-Or.is in
    let k = call_second _ _ _ c.requires _ c.node-kind.ensures (omega (arith, kind)) (omega (arith, kind)) in
    (omega (arith, k.fewer), k.asked)

pub guarded_since-requires-in-Diamond : goal.guarded_since-requires-in-Diamond
guarded_since-requires-in-Diamond t c =
    let kind = between_kinds node_kind_number c.in-Ok.kind Kind.Diamond Kind.Box _ c.in-Ok.ensures (omega arith) c.in-Diamond.is in
    let k = call_modal _ _ _ c.requires _ c.node-kind.ensures (omega (arith, kind)) (omega (arith, kind)) in
    (omega (arith, k.fewer), k.asked)

pub guarded_since-requires-in-Least : goal.guarded_since-requires-in-Least
guarded_since-requires-in-Least t c =
    let kind = between_kinds node_kind_number c.in-Ok.kind Kind.Least Kind.Greatest _ c.in-Ok.ensures (omega arith) c.in-Least.is in
    let k = call_binder _ _ _ c.requires _ c.node-kind.ensures (omega (arith, kind)) (omega (arith, kind)) in
    (omega (arith, k.fewer), k.asked)

pub returns-in-Variable : goal.returns-in-Variable
returns-in-Variable t c =
    step_variable _ _ _ c.requires _ c.node-kind.ensures (sym c.in-Ok.ensures ∙ ap node_kind_number c.in-Variable.is) _ c.bound_before.ensures

pub returns-in-False : goal.returns-in-False
returns-in-False t c =
    let kind = between_kinds node_kind_number c.in-Ok.kind Kind.False Kind.True _ c.in-Ok.ensures (omega arith) c.in-False.is in
    step_constant _ _ _ c.requires _ c.node-kind.ensures (omega (arith, kind))

pub returns-then-guarded_since : goal.returns-then-guarded_since
returns-then-guarded_since t c =
    let kind = between_kinds node_kind_number c.in-Ok.kind Kind.Or Kind.And _ c.in-Ok.ensures (omega arith) c.in-Or.is in
    step_pair _ _ _ c.requires _ c.node-kind.ensures (omega (arith, kind)) (omega (arith, kind)) _ _ _ c.guarded_since.ensures
    c.guarded_since-then-guarded_since.ensures (sym (ap (λ (x : Bool). x && c.guarded_since-then-guarded_since.result) c.if-guarded_since.true))

pub returns-else-guarded_since : goal.returns-else-guarded_since
returns-else-guarded_since t c =
    let kind = between_kinds node_kind_number c.in-Ok.kind Kind.Or Kind.And _ c.in-Ok.ensures (omega arith) c.in-Or.is in
    step_failed _ _ _ c.requires _ c.node-kind.ensures (omega (arith, kind)) (omega (arith, kind)) _ c.guarded_since.ensures c.if-guarded_since.false

pub returns-in-Diamond : goal.returns-in-Diamond
returns-in-Diamond t c =
    let kind = between_kinds node_kind_number c.in-Ok.kind Kind.Diamond Kind.Box _ c.in-Ok.ensures (omega arith) c.in-Diamond.is in
    step_modal _ _ _ c.requires _ c.node-kind.ensures (omega (arith, kind)) (omega (arith, kind)) _ c.guarded_since-in-Diamond.ensures

pub returns-in-Least : goal.returns-in-Least
returns-in-Least t c =
    let kind = between_kinds node_kind_number c.in-Ok.kind Kind.Least Kind.Greatest _ c.in-Ok.ensures (omega arith) c.in-Least.is in
    step_binder _ _ _ c.requires _ c.node-kind.ensures (omega (arith, kind)) (omega (arith, kind)) _ c.guarded_since-in-Least.ensures

pub returns-in_default : goal.returns-in_default
returns-in_default t c = step_unknown _ _ _ c.requires _ c.node-kind.ensures (omega (arith, c.in_default.ensures.1)) _
