-- The recursion `patterns::second_parts::note_seconds` meets its contract. The measure is the number of bytes from the place on.
use Rattle.std.proofs.Common.{sym, ap, ◌∙◌, arith}
use Rattle.sheet.proofs.Steps.Kinds.{between_kinds}
use Rattle.patterns.specs.Internal.PartKinds.{part_kind_number}
use Rattle.patterns.specs.declared.parts.PartKind.TheVariants as Kind
use Rattle.patterns.proofs.Steps.Parts.{part_known}
use Rattle.patterns.proofs.Steps.SecondSteps.{here_place, noted_action, here_one, noted_one}
use Rattle.patterns.proofs.Steps.SecondSteps.{here_first, here_second, first_bounds, noted_two}
use Rattle.patterns.proofs.second_parts.+note_seconds.Goals as goal

pub note_seconds-second-requires : goal.note_seconds-second-requires
note_seconds-second-requires t c =
    let kind = between_kinds part_kind_number c.in-Ok.kind Kind.Sequence Kind.Choice _ c.in-Ok.ensures (omega arith) c.in-Sequence.is in
    (omega (arith, here_place c.requires), here_first c.requires kind.0 kind.1)

pub overflow_cast-seconds : goal.overflow_cast-seconds
overflow_cast-seconds t c =
    let kind = between_kinds part_kind_number c.in-Ok.kind Kind.Sequence Kind.Choice _ c.in-Ok.ensures (omega arith) c.in-Sequence.is in
    omega (arith, c.requires.short, first_bounds c.requires kind.0 kind.1 c.note_seconds-second.ensures)

pub note_seconds-requires : goal.note_seconds-requires
note_seconds-requires t c =
    let kind = between_kinds part_kind_number c.in-Ok.kind Kind.Sequence Kind.Choice _ c.in-Ok.ensures (omega arith) c.in-Sequence.is in (
      omega (arith, first_bounds c.requires kind.0 kind.1 c.note_seconds-second.ensures),
      here_second c.requires kind.0 kind.1 c.note_seconds-second.ensures,
    )

pub note_seconds-requires-in-Repetition : goal.note_seconds-requires-in-Repetition
note_seconds-requires-in-Repetition t c =
    (omega (arith, here_place c.requires), here_one c.requires (sym c.in-Ok.ensures ∙ ap part_kind_number c.in-Repetition.is))

pub returns-in_default : goal.returns-in_default
returns-in_default t c = absurd (omega (arith, c.in_default.ensures, part_known c.requires.part))

pub returns-in-Entry : goal.returns-in-Entry
returns-in-Entry t c = noted_action c.requires (sym c.in-Ok.ensures ∙ ap part_kind_number c.in-Entry.is)

pub returns-in-Sequence : goal.returns-in-Sequence
returns-in-Sequence t c =
    let kind = between_kinds part_kind_number c.in-Ok.kind Kind.Sequence Kind.Choice _ c.in-Ok.ensures (omega arith) c.in-Sequence.is in
    noted_two c.requires kind.0 kind.1 c.note_seconds-second.ensures c.note_seconds.ensures

pub returns-in-Repetition : goal.returns-in-Repetition
returns-in-Repetition t c =
    noted_one c.requires (sym c.in-Ok.ensures ∙ ap part_kind_number c.in-Repetition.is) c.note_seconds-in-Repetition.ensures
