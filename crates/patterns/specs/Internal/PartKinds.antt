-- The number of each kind of a pattern's parts, and what reading a number gives. Contracts of private functions cite these; no promise of a
-- public call does.
use Rattle.std.specs.Prelude.{◌≡◌, ℕ, ◌<◌, Result, MatchResult}
use Rattle.sheet.specs.declared.kinds.UnknownKind.{UnknownKind}
use Rattle.patterns.specs.declared.parts.PartKind.{PartKind}
use Rattle.patterns.specs.declared.parts.PartKind.TheVariants.{Entry, Sequence, Choice, Repetition}

-- "0 and an action entry's number; 1, one part after another; 2, a choice of two; 3, any number of times"
abbrev pub part_kind_number : PartKind → ℕ
part_kind_number Entry = 0
part_kind_number Sequence = 1
part_kind_number Choice = 2
part_kind_number Repetition = 3

-- the kind of a part with this number; an error with a number over 3, which no kind has
abbrev pub ReadsPartKind : ℕ → Result PartKind UnknownKind → Type 0
ReadsPartKind k r = MatchResult r (λ kind. part_kind_number kind ≡ k) (λ e. (e.0 ≡ k) × (3 < k))
