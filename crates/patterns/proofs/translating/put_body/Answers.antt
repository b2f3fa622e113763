-- `patterns::translating::put_body` meets its contract.
use Rattle.std.proofs.Common.{refl, arith}
use Rattle.std.proofs.lemmas.Result.{err_from_is_err_and}
use Rattle.patterns.proofs.Steps.BodySteps.{here_whole, call_whole, answered_exceeded, made_bounds, answered_written, answered_long}
use Rattle.patterns.proofs.translating.put_body.Goals as goal

pub returns-then-pattern-gt-LONGEST_PATTERN : goal.returns-then-pattern-gt-LONGEST_PATTERN
returns-then-pattern-gt-LONGEST_PATTERN c = answered_long c.requires (omega arith) _

pub note_seconds-requires : goal.note_seconds-requires
note_seconds-requires c = here_whole c.requires (omega arith) (omega arith)

pub put_part-requires : goal.put_part-requires
put_part-requires c =
    let d = c.new-draft.ensures in
    rw (d.no_node, d.no_binder) (call_whole c.requires (omega arith) c.note_seconds.ensures (omega arith) (omega arith))

pub returns-in_err-put_part : goal.returns-in_err-put_part
returns-in_err-put_part c =
    let d = c.new-draft.ensures in
    let p = err_from_is_err_and c.from_residual.result c.from_residual.ensures.1 in
    let g = rw (d.no_node, d.no_binder) at c.in_err-put_part.ensures in
    rw (p.1, p.2) (answered_exceeded c.requires (omega arith) c.note_seconds.ensures g refl _)

pub write-requires : goal.write-requires
write-requires c =
    let d = c.new-draft.ensures in
    let g = rw (d.no_node, d.no_binder) at c.in_ok-put_part.ensures in
    (made_bounds c.requires (omega arith) c.note_seconds.ensures g refl (omega arith)).0

pub returns : goal.returns
returns c =
    let d = c.new-draft.ensures in
    let g = rw (d.no_node, d.no_binder) at c.in_ok-put_part.ensures in
    answered_written c.requires (omega arith) c.note_seconds.ensures g refl (omega arith) c.write.ensures
