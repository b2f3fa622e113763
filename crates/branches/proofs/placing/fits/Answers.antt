use Rattle.std.proofs.Common.{ℕ, ltb, ◌∙◌, sym, ap, rules}
use borrow.Author.Tests.{not-true}
use Rattle.sheet.proofs.Checks.Bools.{differ}
use Rattle.branches.specs.Branches.{labelled}
use Rattle.branches.proofs.Steps.Placing.{not_in_range, stands_already, by_count}
use Rattle.branches.proofs.placing.fits.Goals as goal
use Rattle.branches.proofs.placing.fits.Goals.{then-in_range, else-in_range}

pub returns-then-not-stands_at : goal.returns-then-not-stands_at
returns-then-not-stands_at c = let a = c.args in
    elim c.if-in_range.branch [
      | then-in_range w ↦
          ap (λ (n : ℕ). ltb n 2048) c.transition_count.ensures
          ∙ by_count a.plan.now (labelled a.branch) c.requires.well_formed_plan a.place c.requires.place_value.0
          (sym c.in_range.ensures ∙ w.if-in_range.true)
          (sym w.stands_at.ensures ∙ not-true w.stands_at.result (sym w.value-is ∙ c.if-not-stands_at.true))
      | else-in_range w ↦ absurd (differ c.if-in_range.value c.if-not-stands_at.true (w.value-is ∙ w.if-in_range.false))
    ]

pub returns-else-not-stands_at : goal.returns-else-not-stands_at
returns-else-not-stands_at c = let a = c.args in
    c.if-not-stands_at.false ∙ elim c.if-in_range.branch [
      | then-in_range w ↦
          stands_already a.plan.now (labelled a.branch) c.requires.well_formed_plan a.place c.requires.place_value.0
          (sym c.in_range.ensures ∙ w.if-in_range.true) (sym w.stands_at.ensures ∙ search rules)
      | else-in_range w ↦ not_in_range a.plan.now (labelled a.branch) (sym c.in_range.ensures ∙ w.if-in_range.false)
    ]
