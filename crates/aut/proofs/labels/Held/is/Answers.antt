use Rattle.std.proofs.Common.{◌∙◌, sym, refl, arith}
use borrow.Author.Tests.{eq-eqb}
use Rattle.aut.proofs.Steps.HeldLabels.{compared}
use Rattle.aut.proofs.labels.Held.is.Goals as goal

pub returns-then-self-sum : goal.returns-then-self-sum
returns-then-self-sum c =
    let a = c.args in
    compared a.self.now.label.now a.label.now _ c.eq.ensures ∙ sym (rw (eq-eqb a.self.now.sum a.sum (omega arith)) refl)
