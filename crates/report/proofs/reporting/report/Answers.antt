use borrow.Author.Rules.{rules}
use mathlib.Core.Path.{refl}
use native.Mathlib.Omega.{arith}
use Rattle.report.proofs.Steps.ReportAnswers.{too_many, too_short, counting_refuses, clearing_refuses, lines_require, total_requires, writes}
use Rattle.report.proofs.reporting.report.Goals as goal

pub returns-then-states-gt-MOST_QUERIES : goal.returns-then-states-gt-MOST_QUERIES
returns-then-states-gt-MOST_QUERIES c =
    too_many c.args.sheet.now c.args.states.now c.args.table.now c.args.out.now (record { at = λ k. omega (arith, c.type_inv.states k) })
    c.if-states-gt-MOST_QUERIES.true

pub returns-in_err-stored_count : goal.returns-in_err-stored_count
returns-in_err-stored_count c =
    counting_refuses c.args.sheet.now c.args.states.now c.args.table.now c.args.out.now (record { at = λ k. omega (arith, c.type_inv.states k) })
    c.if-states-gt-MOST_QUERIES.false c.in_err-stored_count.ensures.0 refl (search rules)

pub returns-then-out-lt-LEAST_OUTPUT : goal.returns-then-out-lt-LEAST_OUTPUT
returns-then-out-lt-LEAST_OUTPUT c =
    too_short c.args.sheet.now c.args.states.now c.args.table.now c.args.out.now (record { at = λ k. omega (arith, c.type_inv.states k) })
    c.if-states-gt-MOST_QUERIES.false c.in_ok-stored_count.ensures.0 refl c.if-out-lt-LEAST_OUTPUT.true

pub returns-in_err-clear : goal.returns-in_err-clear
returns-in_err-clear c =
    clearing_refuses c.args.sheet.now c.args.states.now c.args.table.now c.args.out.now (record { at = λ k. omega (arith, c.type_inv.states k) })
    c.if-states-gt-MOST_QUERIES.false c.in_err-clear.ensures.0 c.in_err-clear.ensures.1.1 refl (search rules)

pub put_lines-tally-requires : goal.put_lines-tally-requires
put_lines-tally-requires c =
    lines_require c.args.sheet.now c.args.states.now c.args.table.now c.args.out.now (record { at = λ k. omega (arith, c.type_inv.states k) })
    c.if-states-gt-MOST_QUERIES.false c.in_ok-clear.ensures.0 c.in_ok-clear.ensures.1.1 c.if-out-lt-LEAST_OUTPUT.false refl

pub put_total-requires : goal.put_total-requires
put_total-requires c =
    total_requires c.args.sheet.now c.args.states.now c.args.table.now c.args.out.now (record { at = λ k. omega (arith, c.type_inv.states k) })
    c.if-states-gt-MOST_QUERIES.false c.in_ok-clear.ensures.0 c.in_ok-clear.ensures.1.1 c.if-out-lt-LEAST_OUTPUT.false refl c.put_lines-tally.ensures

pub returns : goal.returns
returns c =
    writes c.args.sheet.now c.args.states.now c.args.table.now c.args.out.now (record { at = λ k. omega (arith, c.type_inv.states k) })
    c.if-states-gt-MOST_QUERIES.false c.in_ok-clear.ensures.0 c.in_ok-clear.ensures.1.1 c.if-out-lt-LEAST_OUTPUT.false refl c.put_lines-tally.ensures
    c.put_total.ensures
