use Rattle.std.proofs.Common.{◌≡◌, drop}
use Rattle.branches.specs.Tags.{tag_from, tag_of}
use Rattle.branches.proofs.tagging.tag.Given as goal

abbrev pub invariant-loop-byte : goal.invariant-loop-byte
invariant-loop-byte l = tag_of l.sheet ≡ tag_from l.tag (drop l.byte-index l.sheet)
