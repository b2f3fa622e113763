-- The measure is the number of bytes from the place on.
use Rattle.std.proofs.Common.{◌-◌, length}
use Rattle.patterns.proofs.second_parts.+note_seconds.Given as goal

abbrev pub decreases-note_seconds : goal.decreases-note_seconds
decreases-note_seconds l = length l.pattern.now - l.at
