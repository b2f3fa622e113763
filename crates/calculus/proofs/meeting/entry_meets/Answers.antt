-- `calculus::meeting::entry_meets` meets its contract: the kind that was matched says which entry it is.
use Rattle.std.proofs.Common.{sym, ap, ◌∙◌, arith}
use Rattle.std.proofs.lemmas.Grind.{common_steps}
use Rattle.calculus.proofs.Masks.MeetingMask.{meets_false, meets_true, meets_action, meets_or, meets_and, meets_not, meets_range, meets_unknown}
use Rattle.sheet.specs.KindNumbers.{entry_kind_number}
use Rattle.calculus.proofs.meeting.entry_meets.Goals as goal

pub returns-in-False : goal.returns-in-False
returns-in-False c = meets_false _ _ _ _ _ c.entry-kind.ensures (sym c.in-Ok.ensures ∙ ap entry_kind_number c.in-False.is)

pub returns-in-True : goal.returns-in-True
returns-in-True c = meets_true _ _ _ _ _ c.entry-kind.ensures (sym c.in-Ok.ensures ∙ ap entry_kind_number c.in-True.is)

pub returns-in-Action : goal.returns-in-Action
returns-in-Action c = meets_action _ _ _ _ _ c.entry-kind.ensures (sym c.in-Ok.ensures ∙ ap entry_kind_number c.in-Action.is)

pub returns-then-has_bit : goal.returns-then-has_bit
returns-then-has_bit c = grind (arith, common_steps, meets_or _ _ _ _ _ c.entry-kind.ensures _ c.requires (sym c.in-Ok.ensures ∙ ap entry_kind_number c.in-Or.is))

pub returns-else-has_bit : goal.returns-else-has_bit
returns-else-has_bit c = grind (arith, common_steps, meets_or _ _ _ _ _ c.entry-kind.ensures _ c.requires (sym c.in-Ok.ensures ∙ ap entry_kind_number c.in-Or.is))

pub returns-then-has_bit-2 : goal.returns-then-has_bit-2
returns-then-has_bit-2 c = grind (arith, common_steps, meets_and _ _ _ _ _ c.entry-kind.ensures _ c.requires (sym c.in-Ok.ensures ∙ ap entry_kind_number c.in-And.is))

pub returns-else-has_bit-2 : goal.returns-else-has_bit-2
returns-else-has_bit-2 c = grind (arith, common_steps, meets_and _ _ _ _ _ c.entry-kind.ensures _ c.requires (sym c.in-Ok.ensures ∙ ap entry_kind_number c.in-And.is))

pub returns-then-action-count : goal.returns-then-action-count
returns-then-action-count c = grind (arith, common_steps, meets_not _ _ _ _ _ c.entry-kind.ensures _ c.requires (sym c.in-Ok.ensures ∙ ap entry_kind_number c.in-Not.is))

pub returns-else-action-count : goal.returns-else-action-count
returns-else-action-count c = grind (arith, common_steps, meets_not _ _ _ _ _ c.entry-kind.ensures _ c.requires (sym c.in-Ok.ensures ∙ ap entry_kind_number c.in-Not.is))

pub returns-in-Range : goal.returns-in-Range
returns-in-Range c = grind (arith, common_steps, meets_range c.args.count c.args.actions.now c.args.e c.args.action.0 _ c.entry-kind.ensures (sym c.in-Ok.ensures ∙ ap entry_kind_number c.in-Range.is))

pub returns-in_default : goal.returns-in_default
returns-in_default c = meets_unknown _ _ _ _ _ c.entry-kind.ensures (omega (arith, c.in_default.ensures.1))
