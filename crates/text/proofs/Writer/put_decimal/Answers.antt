use mathlib.Core.Path.{ap, ◌∙◌}
use Prim.Native.Nat.{ℕ}
use mathlib.Core.List.{List}
use Rattle.text.specs.Placing.{buffer_after, place_after}
use Rattle.text.proofs.DigitsFound.{one_found, all_found}
use Rattle.text.proofs.Writer.put_decimal.Goals as goal

pub loop-rest-preserved : goal.loop-rest-preserved
loop-rest-preserved c = one_found _ _ c.loop-rest.invariant c.loop-rest-test.true

pub returns-clause-place : goal.returns-clause-place
returns-clause-place c =
    let a = c.args.self.now in
    c.put.ensures.place ∙ ap (λ (text : List ℕ). place_after text a.place a.out.now) (all_found _ _ c.loop-rest.invariant c.loop-rest-test.false)

pub returns-clause-out_after : goal.returns-clause-out_after
returns-clause-out_after c =
    let a = c.args.self.now in
    c.put.ensures.out_after ∙ ap (λ (text : List ℕ). buffer_after text a.place a.out.now) (all_found _ _ c.loop-rest.invariant c.loop-rest-test.false)
