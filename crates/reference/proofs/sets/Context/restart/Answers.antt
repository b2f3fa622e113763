-- `reference::sets::Context::restart` meets its contract.
use Rattle.std.proofs.Common.{◌≡◌, refl, sym, ap, ◌∙◌, arith}
use denote.Enum.Declared.{tag_of}
use Rattle.sheet.specs.KindNumbers.{node_kind_number}
use Rattle.sheet.specs.declared.Fields.{Fields}
use Rattle.sheet.specs.declared.kinds.NodeKind.{NodeKind}
use Rattle.sheet.specs.declared.kinds.NodeKind.TheVariants as Kind
use Rattle.sheet.specs.contracts.kinds.NodeKind.{the_type}
use Rattle.reference.proofs.Evaluation.Restarting.{restart_none, restart_more, restart_still, restart_whole}
use Rattle.reference.proofs.sets.Context.restart.Goals as goal
use Rattle.reference.proofs.sets.Context.restart.Goals.{then-fields-kind, else-fields-kind}

-- the number that a cast of a kind gives
cast_number : (k : NodeKind) → tag_of the_type k ≡ node_kind_number k
cast_number Kind.False = refl
cast_number Kind.True = refl
cast_number Kind.Or = refl
cast_number Kind.And = refl
cast_number Kind.Diamond = refl
cast_number Kind.Box = refl
cast_number Kind.Variable = refl
cast_number Kind.Least = refl
cast_number Kind.Greatest = refl

pub loop-n-init : goal.loop-n-init
loop-n-init c = restart_none _ _ _ _ _

pub put-requires : goal.put-requires
put-requires c =
    let x = ap (λ (f : Fields). f.x) c.node-fields.ensures in
    let kind = ap (λ (f : Fields). f.kind) c.node-fields.ensures in
    omega (arith, x, c.requires.six c.loop-n.n (omega arith) (sym kind ∙ (c.if-fields-kind.true ∙ cast_number c.args.kind)))

pub loop-n-preserved : goal.loop-n-preserved
loop-n-preserved c =
    elim c.if-fields-kind.branch [
      | then-fields-kind w ↦ restart_more _ _ _ _ _ _ _ c.loop-n.invariant _ c.node-fields.ensures c.loop-n.auto.n (w.if-fields-kind.true ∙ cast_number c.args.kind) _ (w.self-is ∙ w.put.ensures)
      | else-fields-kind w ↦
          rw w.self-is (restart_still _ _ _ _ _ _ _ c.loop-n.invariant _ c.node-fields.ensures (λ e. w.if-fields-kind.false (e ∙ sym (cast_number c.args.kind))))
    ]

pub returns : goal.returns
returns c = restart_whole _ _ _ _ _ _ _ (omega (arith, c.requires.among)) c.loop-n.invariant
