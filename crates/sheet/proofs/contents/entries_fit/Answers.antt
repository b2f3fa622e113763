use Rattle.std.proofs.Common.{rules}
use Rattle.sheet.specs.Internal.Entry.{entries_fit}
use Rattle.sheet.proofs.contents.entries_fit.Goals as goal

pub returns-then-end-third : goal.returns-then-end-third
unfolding entries_fit
returns-then-end-third c = search rules

pub returns-else-end-third : goal.returns-else-end-third
unfolding entries_fit
returns-else-end-third c = search rules
