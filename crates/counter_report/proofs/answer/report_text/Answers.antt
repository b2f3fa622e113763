-- `counter_report::answer::report_text` meets its contract.
use mathlib.Core.Path.{◌≡◌, sym, ap, ◌∙◌}
use mathlib.Core.Logic.{◌≢◌}
use native.Mathlib.Omega.{arith}
use Rattle.std.specs.Prelude.{Err}
use Rattle.sheet.proofs.Acceptance.Numbers.{refused_number}
use Rattle.report.specs.Reporting.{Report, reported_text}
use Rattle.report.specs.declared.ReportError.{ReportError}
use Rattle.report.specs.declared.ReportError.TheVariants.{TooManyQueries, Refused}
use Rattle.counter_report.specs.Program.{own_table}
use Rattle.counter_report.proofs.Texts.{written_puts, refusal_puts}
use Rattle.counter_report.proofs.answer.report_text.Goals as goal

refused_lem : (e : ReportError) → (reported_text (Err e)).number ≢ 0
refused_lem TooManyQueries z = absurd (omega (arith, z))
refused_lem (Refused x) z = absurd (omega (arith, z, refused_number x))

pub returns-in-Ok : goal.returns-in-Ok
unfolding own_table
returns-in-Ok c =
    let both = written_puts c.args.sheet.now c.args.states.now c.args.text.now c.requires c.report.ensures c.in-Ok.is in
    record { prefix_len = both.0; puts = both.1 }

pub returns-in-Err : goal.returns-in-Err
unfolding own_table
returns-in-Err c =
    let e = c.in-Err.e in
    let number : (reported_text (Err e)).number ≡ (reported_text c.report.result).number = ap (λ (r : Report). (reported_text r).number) (sym c.in-Err.is) in
    let place : (reported_text (Err e)).place ≡ (reported_text c.report.result).place = ap (λ (r : Report). (reported_text r).place) (sym c.in-Err.is) in
    let both =
    refusal_puts c.args.sheet.now c.args.states.now c.args.text.now c.requires c.report.ensures (λ z. refused_lem e (number ∙ z)) (c.number.ensures ∙ number) (c.place.ensures ∙ place)
    (c.put_refusal.ensures.value, c.put_refusal.ensures.out_after) in
    record { prefix_len = both.0; puts = both.1 }
