-- `sheet::reader::actions_body` meets its contract.
use Rattle.sheet.proofs.reader.actions_body.Goals as goal

pub returns : goal.returns
returns c = rw (← c.word_at.ensures.0, ← c.word_at-2.ensures.0) c.slice_of.ensures
