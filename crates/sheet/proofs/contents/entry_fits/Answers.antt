use Rattle.std.proofs.Common.{rules}
use Rattle.sheet.specs.Internal.Entry.{entry_fits}
use Rattle.sheet.proofs.contents.entry_fits.Goals as goal

pub returns-then-e-kind : goal.returns-then-e-kind
unfolding entry_fits
returns-then-e-kind c = search rules

pub returns-else-e-kind : goal.returns-else-e-kind
unfolding entry_fits
returns-else-e-kind c = search rules
