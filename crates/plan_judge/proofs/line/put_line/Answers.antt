-- `plan_judge::line::put_line` meets its contract.
use mathlib.Core.Path.{sym, ap, ap₂, ◌∙◌}
use Rattle.text.specs.RefusalLine.{refusal_line}
use Rattle.text.proofs.Placing.{puts_counted}
use Rattle.text.proofs.RefusalLines.{refusal_at_start}
use Rattle.plan_judge.specs.Line.{line_of}
use Rattle.plan_judge.proofs.Lines.{refused_line}
use Rattle.plan_judge.proofs.line.put_line.Goals as goal

pub returns-in-Ok : goal.returns-in-Ok
returns-in-Ok c =
    let both = puts_counted c.args.out.now (ap line_of (sym c.in-Ok.is)) c.put_verdict.ensures in
    record { prefix_len = both.0; puts = both.1 }

pub returns-in-Err : goal.returns-in-Err
returns-in-Err c =
    let put = c.put_refusal.ensures in
    let line = ap₂ refusal_line c.number.ensures c.place.ensures ∙ refused_line c.in-Err.e ∙ ap line_of (sym c.in-Err.is) in
    let both = puts_counted c.args.out.now line (refusal_at_start _ _ c.args.out.now c.requires (put.value, put.out_after)) in
    record { prefix_len = both.0; puts = both.1 }
