use native.Mathlib.Omega.{arith}
use Prim.Native.Nat.{◌<◌}
use mathlib.Core.Path.{◌∙◌}
use Rattle.sheet.specs.Plan.{action_count}
use Rattle.graph.proofs.Search.Retaining.{blank_sized}
use Rattle.graph.proofs.Search.SearchRight.{search_right}
use Rattle.branches.proofs.examining.is_free.Goals as goal

pub returns : goal.returns
returns c = let s = c in
    let few : action_count s.args.plan.now < 256 = omega (arith, c.type_inv.plan 1) in
    c.explore.ensures.value
    ∙ (search_right s.args.plan.now _ 0
    (record { kept = s.requires; few_actions = few; sized = blank_sized c.new-index.ensures; state_below = s.requires.some_states })).answer
