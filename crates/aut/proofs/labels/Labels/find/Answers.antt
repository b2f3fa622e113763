use Rattle.std.proofs.Common.{◌∙◌, sym, ap}
use Rattle.aut.specs.Plans.{label_number}
use Rattle.aut.proofs.Steps.HeldLabels.{number_found, hint_right}
use Rattle.aut.proofs.labels.Labels.find.Goals as goal

pub returns-then-is : goal.returns-then-is
returns-then-is c =
    let a = c.args in
    let i = c.self.inside in
    hint_right a.label.now a.sum c.requires i.held i.count c.self.invariant a.hint _ c.if-hint-self.true
    (sym c.is.ensures ∙ c.if-is.true)
    ∙ ap (label_number a.label.now) c.self.view_is

pub returns : goal.returns
returns c =
    let a = c.args in
    c.search.ensures ∙ number_found a.label.now a.sum c.requires _ c.self.invariant.summed ∙ ap (label_number a.label.now) c.self.view_is
