use Rattle.std.proofs.Common.{arith}
use Rattle.text.specs.Numerals.{decimal_value}
use Rattle.aut.proofs.Plans.Labels.{number_bound}
use Rattle.aut.proofs.Steps.Adding.{min_small}
use Rattle.aut.proofs.pass.Gathered.add.Goals as goal

pub key_of-requires : goal.key_of-requires
key_of-requires c =
    let a = c.args in (
      omega (arith, c.value-origin.ensures, min_small (decimal_value a.line.from.now)),
      (
        omega (arith, c.number_of-action.ensures.number, number_bound a.line.label.now a.self.now.labels, c.requires.few_labels),
        omega (arith, c.value-target.ensures, min_small (decimal_value a.line.to.now)),
      ),
    )
