use Rattle.std.proofs.Common.{◌≡◌, ◌<◌, ◌∙◌, refl, sym, ap, length, take, arith}
use Rattle.aut.specs.Plans.{label_number, with_label}
use Rattle.aut.specs.Internal.Held.{labels_in}
use Rattle.aut.proofs.Steps.HeldLabels.{many, number_within, held_already, label_added, still_holding}
use Rattle.aut.proofs.labels.Labels.number_of.Goals as goal
use Rattle.aut.proofs.labels.Labels.number_of.Goals.{After-find-number}

module _ (c : After-find-number) where
  number_is : c.find-number.result ≡ label_number c.args.label.now (labels_in (take c.self.inside.count c.self.inside.held))
  number_is = c.find-number.ensures ∙ ap (label_number c.args.label.now) (sym c.self.view_is)

  room : c.self.inside.count < 256
  room = omega (arith, c.requires, many c.self.inside.held c.self.inside.count c.self.invariant, ap length c.self.view_is)

pub overflow_cast-self : goal.overflow_cast-self
overflow_cast-self c =
    let i = c.self.inside in
    omega (arith, room c, number_within i.held i.count c.self.invariant c.args.label.now _ (number_is c))

pub bounds-self-inside-number : goal.bounds-self-inside-number
bounds-self-inside-number c = omega (arith, room (goal.at.bounds-self-inside-number c).After-find-number)

pub invariant_of-self : goal.invariant_of-self
invariant_of-self c =
    let i = c.self.inside in
    let a = (goal.at.invariant_of-self c).After-find-number in
    still_holding i.held i.count c.self.invariant c.args.label.now _ (number_is a) _ refl (room a) c.if-number-self.true c.checksum-sum.ensures

pub returns-then-number-self-clause-after : goal.returns-then-number-self-clause-after
returns-then-number-self-clause-after c =
    let i = c.self.inside in
    let a = (goal.at.returns-then-number-self-clause-after c).After-find-number in
    label_added i.held i.count c.self.invariant c.args.label.now _ (number_is a) _ refl (room a) c.if-number-self.true
    ∙ ap (with_label c.args.label.now) c.self.view_is

pub returns-else-number-self-clause-after : goal.returns-else-number-self-clause-after
returns-else-number-self-clause-after c =
    let i = c.self.inside in
    let a = (goal.at.returns-else-number-self-clause-after c).After-find-number in
    held_already i.held i.count c.self.invariant c.args.label.now _ (number_is a) (λ e. c.if-number-self.false e)
    ∙ ap (with_label c.args.label.now) c.self.view_is
