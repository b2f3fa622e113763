-- `sheet::reader::plan_body` meets its contract.
use Rattle.sheet.proofs.reader.plan_body.Goals as goal

pub returns : goal.returns
returns c = rw (← c.word_at.ensures.0) c.slice_of.ensures
