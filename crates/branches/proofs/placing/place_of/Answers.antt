use Rattle.std.proofs.Common.{◌≡◌, ◌+◌, ◌-◌, ◌/◌, ◌∙◌, true, sym, ap, arith}
use Rattle.std.proofs.lemmas.Bool.Decides.{nat_tests}
use Rattle.sheet.specs.TransitionSystem.{precedes}
use Rattle.sheet.specs.declared.Transition.{Transition}
use Rattle.branches.specs.Branches.{labelled}
use Rattle.branches.proofs.Steps.Placing.{search_low, search_end}
use Rattle.branches.proofs.placing.place_of.Goals as goal

pub loop-low-preserved-then-lt : goal.loop-low-preserved-then-lt
loop-low-preserved-then-lt c =
    let l = c.loop-low in
    let a = c.args in
    let e : precedes (labelled c.transition-held.result) (labelled a.branch) ≡ true = grind (arith, nat_tests) in
    search_low a.plan.now (labelled a.branch) c.requires l.invariant (l.low + (l.high - l.low) / 2) (omega (arith, c.loop-low-test.true))
    (sym (ap (λ (u : Transition). precedes (labelled u) (labelled a.branch)) c.transition-held.ensures) ∙ e)

pub returns : goal.returns
returns c = search_end c.args.plan.now (labelled c.args.branch) c.loop-low.invariant (omega (arith, c.loop-low-test.false))
