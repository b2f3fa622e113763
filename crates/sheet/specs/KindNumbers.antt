-- Document 01, "Kind 2, action formulas" and "Kind 3, rule": the number of each kind that the code names, and what reading a number gives.
use Rattle.std.specs.Prelude.{◌≡◌, ℕ, ◌<◌, Result, MatchResult}
use Rattle.sheet.specs.declared.kinds.NodeKind.{NodeKind}
use Rattle.sheet.specs.declared.kinds.NodeKind.TheVariants as Node
use Rattle.sheet.specs.declared.kinds.EntryKind.{EntryKind}
use Rattle.sheet.specs.declared.kinds.EntryKind.TheVariants as Entry
use Rattle.sheet.specs.declared.kinds.UnknownKind.{UnknownKind}

-- "0 F, 1 T, 2 or, 3 and (children x, y), 4 some (diamond), 5 every (box) (x an action entry below the count, y the child), 6 variable x,
-- 7 least, 8 greatest fixed point (x the variable bound, y the child)."
abbrev pub node_kind_number : NodeKind → ℕ
node_kind_number Node.False = 0
node_kind_number Node.True = 1
node_kind_number Node.Or = 2
node_kind_number Node.And = 3
node_kind_number Node.Diamond = 4
node_kind_number Node.Box = 5
node_kind_number Node.Variable = 6
node_kind_number Node.Least = 7
node_kind_number Node.Greatest = 8

-- the kind of a node with this number; an error with a number over 8, which no kind has
abbrev pub ReadsNodeKind : ℕ → Result NodeKind UnknownKind → Type 0
ReadsNodeKind k r = MatchResult r (λ kind. node_kind_number kind ≡ k) (λ e. (e.0 ≡ k) × (8 < k))

-- "Kinds: 0 false, 1 true, 2 action x (x below A), 3 x or y, 4 x and y, 5 not x."; document 02 (a): "kind 6: every action from x to y"
abbrev pub entry_kind_number : EntryKind → ℕ
entry_kind_number Entry.False = 0
entry_kind_number Entry.True = 1
entry_kind_number Entry.Action = 2
entry_kind_number Entry.Or = 3
entry_kind_number Entry.And = 4
entry_kind_number Entry.Not = 5
entry_kind_number Entry.Range = 6

-- the kind of an entry with this number; an error with a number over 6, which no kind has
abbrev pub ReadsEntryKind : ℕ → Result EntryKind UnknownKind → Type 0
ReadsEntryKind k r = MatchResult r (λ kind. entry_kind_number kind ≡ k) (λ e. (e.0 ≡ k) × (6 < k))
