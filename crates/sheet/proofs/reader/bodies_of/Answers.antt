-- `sheet::reader::bodies_of` meets its contract.
use Rattle.sheet.proofs.reader.bodies_of.Goals as goal

pub returns : goal.returns
returns c = rw (c.word_at-plan.ensures.0, c.word_at-actions.ensures.0, c.word_at-rule.ensures.0)
