use Rattle.std.proofs.Common.{rules}
use Rattle.sheet.specs.Internal.Entry.{check_taken}
use Rattle.sheet.proofs.contents.check_taken.Goals as goal

pub returns-then-not-heading : goal.returns-then-not-heading
unfolding check_taken
returns-then-not-heading c = search rules

pub returns-then-not-entries_fit : goal.returns-then-not-entries_fit
unfolding check_taken
returns-then-not-entries_fit c = search rules

pub returns : goal.returns
unfolding check_taken
returns c = search rules
