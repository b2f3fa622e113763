-- Putting a part and putting what follows it meet their contracts.
use Rattle.std.proofs.Common.{refl, sym, ap, ◌∙◌, arith}
use Rattle.std.proofs.lemmas.Result.{err_from_is_err_and}
use mathlib.Core.Logic.{inl, inr}
use Rattle.patterns.specs.Internal.PartKinds.{part_kind_number}
use Rattle.patterns.proofs.Steps.PartKinds.{sequence_read, other_read}
use Rattle.patterns.proofs.Steps.Parts.{part_known}
use Rattle.patterns.proofs.Steps.PartSteps.{part_place, put_full, call_sequence, put_sequence, put_action}
use Rattle.patterns.proofs.Steps.ChoiceSteps.{call_first, put_first_exceeded, second_bounds, call_second, put_choice}
use Rattle.patterns.proofs.Steps.RepetitionSteps.{put_over, call_follow, put_follow_exceeded}
use Rattle.patterns.proofs.Steps.RepetitionSteps.{repeat_bounds, call_repeat, put_repetition}
use Rattle.patterns.proofs.Steps.AfterSteps.{after_full, after_rule, after_place_holds, after_part, after_variable}
use Rattle.patterns.proofs.draft.Draft.+put_after_put_part.Goals as goal

pub put_after-returns-then-after-eq0 : goal.put_after-returns-then-after-eq0
put_after-returns-then-after-eq0 t c = rw c.put_rule.ensures.slots (after_rule (omega arith) c.put_rule.ensures.made)

pub put_after-bounds-self-after : goal.put_after-bounds-self-after
put_after-bounds-self-after t c = omega (arith, after_place_holds c.requires (omega arith))

pub put_after-bounds-source-after : goal.put_after-bounds-source-after
put_after-bounds-source-after t c = omega (arith, after_place_holds c.requires (omega arith))

pub put_after-returns-then-eq : goal.put_after-returns-then-eq
put_after-returns-then-eq t c =
    after_part c.requires (omega arith) (sequence_read _ _ c.try_from.ensures c.if-eq.ensures) c.put_part.ensures

pub put_after-returns-in_err-node : goal.put_after-returns-in_err-node
put_after-returns-in_err-node t c =
    let p = err_from_is_err_and c.from_residual.result c.from_residual.ensures.1 in
    let e = c.in_err-node.ensures in
    rw (p.1, e.1) (after_full e.0)

pub put_after-returns : goal.put_after-returns
put_after-returns t c =
    let e = c.in_ok-node.ensures in
    rw (c.put_node.ensures, e.2)
    (after_variable c.requires (omega arith) (other_read _ _ c.try_from.ensures c.if-eq.ensures) e.0 (rw (e.1, c.variable.ensures) refl))

pub put_part-bounds-source-0 : goal.put_part-bounds-source-0
put_part-bounds-source-0 t c = omega (arith, part_place c.requires)

pub put_part-bounds-source-at : goal.put_part-bounds-source-at
put_part-bounds-source-at t c = omega (arith, part_place c.requires)

pub put_part-returns-in_default : goal.put_part-returns-in_default
put_part-returns-in_default t c = absurd (omega (arith, c.in_default.ensures, part_known c.requires.part))

-- ---- an action

pub put_part-returns-in_err-node-in-Entry : goal.put_part-returns-in_err-node-in-Entry
put_part-returns-in_err-node-in-Entry t c =
    let p = err_from_is_err_and c.from_residual.result c.from_residual.ensures.1 in
    let e = c.in_err-node-in-Entry.ensures in
    rw (p.1, e.1) (put_full c.requires e.0)

pub put_part-returns-in_ok-node-in-Entry : goal.put_part-returns-in_ok-node-in-Entry
put_part-returns-in_ok-node-in-Entry t c =
    let e = c.in_ok-node-in-Entry.ensures in
    put_action c.requires (sym c.in-Ok.ensures ∙ ap part_kind_number c.in-Entry.is) e.0 refl
    (rw (c.put_node.ensures, e.2, c.modal.ensures, e.1) at c.put_after.ensures)

-- ---- a sequence

pub put_part-put_part-requires : goal.put_part-put_part-requires
put_part-put_part-requires t c =
    (omega (arith, part_place c.requires), call_sequence c.requires (sym c.in-Ok.ensures ∙ ap part_kind_number c.in-Sequence.is))

pub put_part-returns-in-Sequence : goal.put_part-returns-in-Sequence
put_part-returns-in-Sequence t c =
    put_sequence c.requires (sym c.in-Ok.ensures ∙ ap part_kind_number c.in-Sequence.is) c.put_part.ensures

-- ---- a choice

pub put_part-returns-in_err-node-in-Choice : goal.put_part-returns-in_err-node-in-Choice
put_part-returns-in_err-node-in-Choice t c =
    let back = c.from_residual-in_err-node-in-Choice in
    let p = err_from_is_err_and back.result back.ensures.1 in
    let e = c.in_err-node-in-Choice.ensures in
    rw (p.1, e.1) (put_full c.requires e.0)

pub put_part-put_part-requires-in-Choice : goal.put_part-put_part-requires-in-Choice
put_part-put_part-requires-in-Choice t c =
    let e = c.in_ok-node-in-Choice.ensures in
    rw e.2 (omega (arith, part_place c.requires), call_first c.requires (sym c.in-Ok.ensures ∙ ap part_kind_number c.in-Choice.is) e.0)

pub put_part-returns-in_err-put_part-in-Choice : goal.put_part-returns-in_err-put_part-in-Choice
put_part-returns-in_err-put_part-in-Choice t c =
    let back = c.from_residual-in_err-put_part-in-Choice in
    let p = err_from_is_err_and back.result back.ensures.1 in
    let e = c.in_ok-node-in-Choice.ensures in
    rw p.1 (put_first_exceeded c.requires (sym c.in-Ok.ensures ∙ ap part_kind_number c.in-Choice.is) (rw e.2 at c.in_err-put_part-in-Choice.ensures) refl)

pub put_part-put_part-requires-in-Choice-2 : goal.put_part-put_part-requires-in-Choice-2
put_part-put_part-requires-in-Choice-2 t c =
    let e = c.in_ok-node-in-Choice.ensures in
    let first = rw e.2 at c.in_ok-put_part-in-Choice.ensures in
    rw (c.put_node-in-Choice.ensures, c.pair.ensures, e.1) (
      omega (arith, part_place c.requires, second_bounds c.requires (sym c.in-Ok.ensures ∙ ap part_kind_number c.in-Choice.is) first refl refl),
      call_second c.requires (sym c.in-Ok.ensures ∙ ap part_kind_number c.in-Choice.is) first refl refl,
    )

pub put_part-returns-in_ok-put_part-in-Choice : goal.put_part-returns-in_ok-put_part-in-Choice
put_part-returns-in_ok-put_part-in-Choice t c =
    let e = c.in_ok-node-in-Choice.ensures in
    let first = rw e.2 at c.in_ok-put_part-in-Choice.ensures in
    put_choice c.requires (sym c.in-Ok.ensures ∙ ap part_kind_number c.in-Choice.is) first refl refl (rw (c.put_node-in-Choice.ensures, c.pair.ensures, e.1) at c.put_part-in-Choice-2.ensures)

-- ---- a repetition

pub put_part-returns-in_err-node-in-Repetition : goal.put_part-returns-in_err-node-in-Repetition
put_part-returns-in_err-node-in-Repetition t c =
    let back = c.from_residual-in_err-node-in-Repetition in
    let p = err_from_is_err_and back.result back.ensures.1 in
    let e = c.in_err-node-in-Repetition.ensures in
    rw (p.1, e.1) (put_full c.requires e.0)

pub put_part-returns-in_err-bound-in-Repetition : goal.put_part-returns-in_err-bound-in-Repetition
put_part-returns-in_err-bound-in-Repetition t c =
    let back = c.from_residual-in_err-bound-in-Repetition in
    let p = err_from_is_err_and back.result back.ensures.1 in
    let e = c.in_ok-node-in-Repetition.ensures in
    let b = rw e.2 at c.in_err-bound-in-Repetition.ensures in
    rw (p.1, b.1) (put_over c.requires (sym c.in-Ok.ensures ∙ ap part_kind_number c.in-Repetition.is) (inr b.0))

pub put_part-returns-in_err-inner-in-Repetition : goal.put_part-returns-in_err-inner-in-Repetition
put_part-returns-in_err-inner-in-Repetition t c =
    let back = c.from_residual-in_err-inner-in-Repetition in
    let p = err_from_is_err_and back.result back.ensures.1 in
    let e = c.in_ok-node-in-Repetition.ensures in
    let b = rw e.2 at c.in_ok-bound-in-Repetition.ensures in
    let i = rw b.2 at c.in_err-inner-in-Repetition.ensures in
    rw (p.1, i.1) (put_over c.requires (sym c.in-Ok.ensures ∙ ap part_kind_number c.in-Repetition.is) (inl i.0))

pub put_part-put_after-requires-in-Repetition : goal.put_part-put_after-requires-in-Repetition
put_part-put_after-requires-in-Repetition t c =
    let e = c.in_ok-node-in-Repetition.ensures in
    let b = rw e.2 at c.in_ok-bound-in-Repetition.ensures in
    let i = rw b.2 at c.in_ok-inner-in-Repetition.ensures in
    let w = rw (i.2, c.binder.ensures, e.1, b.1) at c.put_node-in-Repetition.ensures in
    rw (w, b.1) (omega (arith, part_place c.requires), call_follow c.requires (sym c.in-Ok.ensures ∙ ap part_kind_number c.in-Repetition.is) i.0 b.0 refl)

pub put_part-returns-in_err-put_after-in-Repetition : goal.put_part-returns-in_err-put_after-in-Repetition
put_part-returns-in_err-put_after-in-Repetition t c =
    let back = c.from_residual-in_err-put_after-in-Repetition in
    let p = err_from_is_err_and back.result back.ensures.1 in
    let e = c.in_ok-node-in-Repetition.ensures in
    let b = rw e.2 at c.in_ok-bound-in-Repetition.ensures in
    let i = rw b.2 at c.in_ok-inner-in-Repetition.ensures in
    let w = rw (i.2, c.binder.ensures, e.1, b.1) at c.put_node-in-Repetition.ensures in
    rw p.1 (put_follow_exceeded c.requires (sym c.in-Ok.ensures ∙ ap part_kind_number c.in-Repetition.is) i.0 b.0 refl (rw (w, b.1) at c.in_err-put_after-in-Repetition.ensures) refl)

pub put_part-put_part-requires-in-Repetition : goal.put_part-put_part-requires-in-Repetition
put_part-put_part-requires-in-Repetition t c =
    let e = c.in_ok-node-in-Repetition.ensures in
    let b = rw e.2 at c.in_ok-bound-in-Repetition.ensures in
    let i = rw b.2 at c.in_ok-inner-in-Repetition.ensures in
    let w = rw (i.2, c.binder.ensures, e.1, b.1) at c.put_node-in-Repetition.ensures in
    let follow = rw (w, b.1) at c.in_ok-put_after-in-Repetition.ensures in
    rw (c.put_node-in-Repetition-2.ensures, c.pair-in-Repetition.ensures, i.1) (
      omega (arith, part_place c.requires, repeat_bounds c.requires (sym c.in-Ok.ensures ∙ ap part_kind_number c.in-Repetition.is) i.0 b.0 refl follow refl refl),
      call_repeat c.requires (sym c.in-Ok.ensures ∙ ap part_kind_number c.in-Repetition.is) i.0 b.0 refl follow refl refl,
    )

pub put_part-returns-in_ok-put_after-in-Repetition : goal.put_part-returns-in_ok-put_after-in-Repetition
put_part-returns-in_ok-put_after-in-Repetition t c =
    let e = c.in_ok-node-in-Repetition.ensures in
    let b = rw e.2 at c.in_ok-bound-in-Repetition.ensures in
    let i = rw b.2 at c.in_ok-inner-in-Repetition.ensures in
    let w = rw (i.2, c.binder.ensures, e.1, b.1) at c.put_node-in-Repetition.ensures in
    let follow = rw (w, b.1) at c.in_ok-put_after-in-Repetition.ensures in
    put_repetition c.requires (sym c.in-Ok.ensures ∙ ap part_kind_number c.in-Repetition.is) i.0 b.0 refl follow refl refl
    (rw (c.put_node-in-Repetition-2.ensures, c.pair-in-Repetition.ensures, i.1) at c.put_part-in-Repetition.ensures)
