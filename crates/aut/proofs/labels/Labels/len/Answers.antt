use Rattle.std.proofs.Common.{◌∙◌, sym, ap, length}
use Rattle.aut.proofs.Steps.HeldLabels.{many}
use Rattle.aut.proofs.labels.Labels.len.Goals as goal

pub returns : goal.returns
returns c = let i = c.self.inside in sym (many i.held i.count c.self.invariant) ∙ ap length c.self.view_is
