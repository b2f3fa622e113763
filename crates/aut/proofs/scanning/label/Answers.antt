use Rattle.std.proofs.Common.{◌∙◌, ap, ℕ, take, drop, arith}
use Rattle.std.proofs.lemmas.List.Sums.{prefix_len-le-length}
use Rattle.aut.specs.Texts.{is_label_byte}
use Rattle.aut.proofs.Steps.Pieces.{front_passes}
use Rattle.aut.proofs.scanning.label.Goals as goal

pub split_at-requires : goal.split_at-requires
split_at-requires c = omega (arith, c.label_length.ensures, prefix_len-le-length is_label_byte c.args.text.now)

pub returns-clause-label : goal.returns-clause-label
returns-clause-label c =
    c.split_at.ensures.front ∙ ap (λ (n : ℕ). take n c.args.text.now) c.label_length.ensures
    ∙ (front_passes is_label_byte c.args.text.now).0

pub returns-clause-left : goal.returns-clause-left
returns-clause-left c =
    c.split_at.ensures.back ∙ ap (λ (n : ℕ). drop n c.args.text.now) c.label_length.ensures
    ∙ (front_passes is_label_byte c.args.text.now).1
