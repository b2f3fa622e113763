-- `plan_judge::judging::judge_start` meets its contract.
use mathlib.Core.Path.{sym}
use native.Mathlib.Omega.{arith}
use Rattle.std.proofs.lemmas.Result.{err_from_is_err_and}
use Rattle.plan_judge.proofs.Room.{program_queries, program_stops}
use Rattle.plan_judge.proofs.judging.judge_start.Goals as goal

pub returns-in_err-clear : goal.returns-in_err-clear
returns-in_err-clear c =
    let p = err_from_is_err_and c.from_residual.result c.from_residual.ensures.1 in
    rw (p.1, p.2) (program_stops c.args.sheet.now _ c.clear.ensures.1.1 (omega arith) (sym c.in_err-clear.ensures.0))

pub returns : goal.returns
returns c = program_queries c.args.sheet.now _ c.clear.ensures.1.1 (omega arith) (sym c.in_ok-clear.ensures.0) c.query.ensures.0
