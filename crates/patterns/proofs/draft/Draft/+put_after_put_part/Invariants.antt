-- The measures: a part with n nodes made has that of the nodes left, then of its place; what follows, a greater one than every part.
use Rattle.std.proofs.Common.{◌+◌, ◌*◌, ◌-◌}
use Rattle.patterns.proofs.draft.Draft.+put_after_put_part.Given as goal

abbrev pub decreases-put_after : goal.decreases-put_after
decreases-put_after l = (64 - l.self.now.nodes) * 512 + 300

abbrev pub decreases-put_part : goal.decreases-put_part
decreases-put_part l = (64 - l.self.now.nodes) * 512 + (256 - l.at)
