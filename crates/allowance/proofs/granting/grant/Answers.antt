use borrow.Author.Rules.{rules}
use native.Mathlib.Omega.{arith}
use mathlib.Core.List.{◌++◌}
use lib.ListN.{length, drop, replicate}
use Rattle.allowance.specs.declared.Bench.{Bench}
use mathlib.Core.Path.{refl, sym, ap, ◌∙◌}
use Rattle.allowance.specs.Granting.{most_benches}
use Rattle.allowance.proofs.Steps.Accepting.{wrong_bench_count, no_benches_given, too_many_given, sheet_turned_down, needs_turned_down, take_none, dealt_to_all}
use Rattle.allowance.proofs.granting.grant.Goals as goal
use Rattle.allowance.proofs.granting.grant.Goals.{then-k-eq0-via-then-k-eq0, then-k-eq0-via-else-k-eq0+then-k-gt-MOST_BENCHES}

pub returns-then-k-eq0 : goal.returns-then-k-eq0
returns-then-k-eq0 c = wrong_bench_count c.args.sheet.now c.args.states.now c.args.tables.now c.args.allowance
    (elim c.then-k-eq0.branch [
      | then-k-eq0-via-then-k-eq0 w ↦ no_benches_given c.args.states.now w.if-k-eq0.true
      | then-k-eq0-via-else-k-eq0+then-k-gt-MOST_BENCHES w ↦ too_many_given c.args.states.now w.if-k-eq0.false w.if-k-gt-MOST_BENCHES.true
    ])
    refl

pub returns-in_err-check : goal.returns-in_err-check
returns-in_err-check c =
    sheet_turned_down c.args.sheet.now c.args.states.now c.args.tables.now (sym c.in_err-check.ensures.value) c.if-k-eq0.false c.if-k-gt-MOST_BENCHES.false
    c.args.allowance (search rules)

pub find_needs-requires : goal.find_needs-requires
find_needs-requires c = record {
  right = record { accepted = sym c.in_ok-check.ensures.value; some = omega (arith, c.if-k-eq0.false); few = c.if-k-gt-MOST_BENCHES.false };
  sized = c.table_size-size.ensures;
  unknown = take_none c.default-benches.result (length c.args.states.now) most_benches (omega (arith, c.if-k-gt-MOST_BENCHES.false))
      ∙ ap (replicate (length c.args.states.now)) (search rules);
}

pub returns-in_err-find_needs : goal.returns-in_err-find_needs
returns-in_err-find_needs c =
    needs_turned_down c.args.sheet.now c.args.states.now c.args.tables.now c.args.allowance
    (record { accepted = sym c.in_ok-check.ensures.value; some = omega (arith, c.if-k-eq0.false); few = c.if-k-gt-MOST_BENCHES.false })
    c.in_err-find_needs.ensures (search rules)

pub returns : goal.returns
returns c =
    dealt_to_all
    (record { accepted = sym c.in_ok-check.ensures.value; some = omega (arith, c.if-k-eq0.false); few = c.if-k-gt-MOST_BENCHES.false })
    c.in_ok-find_needs.ensures c.args.allowance c.deal.new.benches c.deal.ensures.needs_same c.deal.ensures.verdicts_same c.deal.ensures.dealt
    c.query_granted.ensures
    (ap (λ (b : Bench). c.query_granted.new.benches ++ drop (length c.args.states.now) (replicate most_benches b)) (search rules))
