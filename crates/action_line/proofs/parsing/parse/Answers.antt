-- `action_line::parsing::parse` meets its contract.
use Rattle.std.proofs.Common.{sym, subst, arith}
use Rattle.std.proofs.lemmas.Result.{err_from_is_err_and}
use Rattle.action_line.proofs.Steps.Answering.{Found, found_out, answers_refused, written_answers}
use Rattle.action_line.proofs.parsing.parse.Goals as goal

pub returns-in_err-entries : goal.returns-in_err-entries
returns-in_err-entries c =
    let a = c.args in
    let p = err_from_is_err_and c.from_residual.result c.from_residual.ensures.1 in
    rw (p.1, p.2) (answers_refused a.actions a.line.now (omega arith) a.out.now c.in_err-entries.ensures.found)

pub returns : goal.returns
returns c =
    let a = c.args in
    let f = subst (Found a.actions a.line.now) (sym c.in_ok-entries.ensures.found) (found_out a.actions a.line.now (omega arith)) in
    written_answers a.actions a.line.now (omega arith) f.1.1 f.2 f.1.0 _ _ a.out.now _ _ _ (omega arith) c.in_ok-entries.ensures f.3 c.write_body.ensures
