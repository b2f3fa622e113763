-- `patterns::pattern_check::is_readable` meets its contract.
use Rattle.std.proofs.Common.{sym, ap, ◌∙◌, arith}
use Rattle.sheet.proofs.Steps.Kinds.{between_kinds}
use Rattle.patterns.specs.Internal.PartKinds.{part_kind_number}
use Rattle.patterns.specs.declared.parts.PartKind.TheVariants as Kind
use Rattle.patterns.proofs.Reading.Passing.{reading_empty, reading_unknown}
use Rattle.patterns.proofs.Steps.Passes.{pass_start, action_first, pass_action, pass_two, pass_one}
use Rattle.patterns.proofs.Steps.Passes.{pass_left_over, pass_cut, pass_high_entry, pass_unknown, pass_end}
use Rattle.patterns.proofs.pattern_check.is_readable.Goals as goal

pub returns-in_default : goal.returns-in_default
returns-in_default c = sym (reading_empty _ _ (omega (arith, c.in_default.ensures.cases)))

pub returns-then-every-gt1 : goal.returns-then-every-gt1
returns-then-every-gt1 c = sym (reading_unknown _ c.in-Some.ensures.cases.0 (omega arith))

pub loop-op-init : goal.loop-op-init
loop-op-init c = pass_start _ c.in-Some.ensures.cases.0 (omega arith)

pub returns-then-missing-eq0 : goal.returns-then-missing-eq0
returns-then-missing-eq0 c = pass_left_over c.loop-op.invariant c.in-Some-split_first.ensures.cases.0 (omega arith)

pub returns-in_default-try_from : goal.returns-in_default-try_from
returns-in_default-try_from c =
    pass_unknown c.loop-op.invariant c.in-Some-split_first.ensures.cases.0 (omega (arith, c.in_default-try_from.ensures))

pub returns-in_default-split_first-2 : goal.returns-in_default-split_first-2
returns-in_default-split_first-2 c =
    pass_cut c.loop-op.invariant c.in-Some-split_first.ensures.cases.0 (sym c.in-Ok.ensures ∙ ap part_kind_number c.in-Entry.is)
    c.in_default-split_first-2.ensures.cases

pub returns-then-entries-entry : goal.returns-then-entries-entry
returns-then-entries-entry c =
    pass_high_entry c.loop-op.invariant
    (action_first c.in-Some-split_first.ensures.cases.0 (sym c.in-Ok.ensures ∙ ap part_kind_number c.in-Entry.is)
    c.in-Some-split_first-2.ensures.cases.0) (omega arith)

pub loop-op-preserved-in-Entry : goal.loop-op-preserved-in-Entry
loop-op-preserved-in-Entry c =
    pass_action c.loop-op.invariant
    (action_first c.in-Some-split_first.ensures.cases.0 (sym c.in-Ok.ensures ∙ ap part_kind_number c.in-Entry.is)
    c.in-Some-split_first-2.ensures.cases.0) (omega arith) (omega arith)

pub loop-op-preserved-in-Sequence : goal.loop-op-preserved-in-Sequence
loop-op-preserved-in-Sequence c =
    let kind = between_kinds part_kind_number c.in-Ok.kind Kind.Sequence Kind.Choice _ c.in-Ok.ensures (omega arith) c.in-Sequence.is in
    pass_two c.loop-op.invariant c.in-Some-split_first.ensures.cases.0 kind.0 kind.1 (omega arith)

pub loop-op-preserved : goal.loop-op-preserved
loop-op-preserved c =
    let three = sym c.in-Ok.ensures ∙ ap part_kind_number c.in-Repetition.is in
    pass_one c.loop-op.invariant (rw three at c.in-Some-split_first.ensures.cases.0) (omega arith)

pub returns : goal.returns
returns c = pass_end c.loop-op.invariant (omega (arith, c.in_default-split_first.ensures.cases))
