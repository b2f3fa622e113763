-- `sheet::actions::entry_faulty` meets its contract.
use Rattle.sheet.specs.Actions.{entry_faulty}
use Rattle.sheet.proofs.actions.entry_faulty.Goals as goal

pub returns : goal.returns
unfolding entry_faulty
returns c = rw (c.entry_right.ensures, c.byte_at-k.ensures.0, c.byte_at-x.ensures.0, c.byte_at-y.ensures.0)
