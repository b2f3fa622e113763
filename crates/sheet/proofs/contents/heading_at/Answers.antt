use Rattle.std.proofs.Common.{rules}
use Rattle.sheet.specs.Internal.Entry.{heading_at}
use Rattle.sheet.proofs.contents.heading_at.Goals as goal

pub returns-then-byte_at-eq1 : goal.returns-then-byte_at-eq1
unfolding heading_at
returns-then-byte_at-eq1 c = search rules

pub returns-else-byte_at-eq1 : goal.returns-else-byte_at-eq1
unfolding heading_at
returns-else-byte_at-eq1 c = search rules
