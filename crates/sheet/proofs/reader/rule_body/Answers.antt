-- `sheet::reader::rule_body` meets its contract.
use Rattle.sheet.proofs.reader.rule_body.Goals as goal

pub returns : goal.returns
returns c = rw (← c.word_at.ensures.0, ← c.word_at-2.ensures.0, ← c.word_at-3.ensures.0) c.slice_of.ensures
