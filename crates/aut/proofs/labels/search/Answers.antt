use Rattle.std.proofs.Common.{◌∙◌, rules, tests, length}
use Rattle.std.proofs.lemmas.Iterator.{YieldsList-from_slice}
use Rattle.std.proofs.lemmas.Iterator.Search.{position_from_yields_List}
use Rattle.std.proofs.lemmas.List.Sums.{prefix_len-le-length}
use Rattle.aut.specs.Internal.Held.{is_held}
use Rattle.aut.proofs.Steps.HeldLabels.{found_or}
use Rattle.aut.proofs.labels.search.Goals as goal

pub returns : goal.returns
returns c =
    c.unwrap_or.ensures
    ∙ found_or _ (length c.args.held.now) c.position.result (prefix_len-le-length _ c.args.held.now)
    (position_from_yields_List (is_held c.args.label.now c.args.sum) _ _ c.position.result c.position.ensures.ran
    (YieldsList-from_slice c.args.held.now cc) (λ x b q k. search (rules, tests)))
