-- Tags that are known, worked out.
use mathlib.Core.Path.{refl}
use Rattle.branches.specs.Tags.{tag_from, KnownTags}

pub known_tags : KnownTags
unfolding tag_from
known_tags = record { empty = refl; a = refl; foobar = refl }
