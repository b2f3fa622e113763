use Rattle.std.proofs.Common.{◌≡◌, refl, sym, subst, ℕ, List, true}
use Rattle.std.proofs.lemmas.Result.{err_from_is_err_and}
use Rattle.text.specs.Numerals.{is_decimal}
use Rattle.aut.specs.Scanning.{rest}
use Rattle.aut.specs.Internal.Answering.{BodyWritten}
use Rattle.aut.proofs.Reading.Lines.{first_line_read}
use Rattle.aut.proofs.Steps.Checking.{bounded_test}
use Rattle.aut.proofs.Steps.Answering.{heading_unread, lines_unread, refused, written}
use Rattle.aut.proofs.converting.convert.Goals as goal

pub returns-in_default : goal.returns-in_default
returns-in_default c = heading_unread c.args.text.now c.args.out.now c.in_default.ensures

pub pass_over-requires-clause-states_read : goal.pass_over-requires-clause-states_read
pass_over-requires-clause-states_read c =
    let h = c.in-Some.ensures in (
      subst (λ (ds : List ℕ). is_decimal ds ≡ true) (sym h.0.states_is) (first_line_read (rest c.args.text.now) h.1).2,
      bounded_test _ _ c.value-states.ensures,
    )

pub returns-in_default-pass_over : goal.returns-in_default-pass_over
returns-in_default-pass_over c =
    lines_unread c.args.text.now c.args.out.now _ c.in-Some.ensures.1 c.in_default-pass_over.ensures

pub returns-in_err-check_text : goal.returns-in_err-check_text
returns-in_err-check_text c =
    let h = c.in-Some.ensures in
    let p = err_from_is_err_and c.from_residual.result c.from_residual.ensures.1 in
    rw (p.1, p.2)
    (refused c.args.text.now c.args.out.now _ h.1 c.in-Some.first h.0 _ _ _ c.in-Some-pass_over.ensures _ c.value-states.ensures refl
    (sym c.in_err-check_text.ensures))

pub returns : goal.returns
returns c =
    let h = c.in-Some.ensures in
    let g = c.pass_over.new.gathered in
    written c.args.text.now c.args.out.now _ h.1 c.in-Some.first h.0 _ _ g c.in-Some-pass_over.ensures _ c.value-states.ensures refl
    (sym c.in_ok-check_text.ensures)
    (subst (λ (n : ℕ). BodyWritten c.value-states.result n g.keys c.args.out.now c.write_body.result c.write_body.new.out) c.len.ensures
    (subst (λ (ks : List ℕ). BodyWritten c.value-states.result c.len.result ks c.args.out.now c.write_body.result c.write_body.new.out) c.as_slice.ensures
    c.write_body.ensures))
