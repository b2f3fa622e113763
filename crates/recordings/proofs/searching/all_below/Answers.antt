use Prim.Native.Nat.{◌<◌, ◌≤◌}
use borrow.Author.Rules.{rules}
use borrow.Author.Tests.{tests}
use Rattle.std.proofs.lemmas.Iterator.{cases_from_all, YieldsList-from_slice}
use Rattle.recordings.proofs.Steps.Searching.{all_tell}
use Rattle.recordings.proofs.searching.all_below.Goals as goal

pub returns : goal.returns
returns c =
    all_tell c.args.actions c.args.run.now c.all.result
    (cases_from_all _ _ c.all.result (λ action. action < c.args.actions) (λ action. c.args.actions ≤ action) c.all.ensures.ran (YieldsList-from_slice c.args.run.now cc)
    (λ x q k. search (rules, tests)) (λ x q k. search (rules, tests)))
