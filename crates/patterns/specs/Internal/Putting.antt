-- What is asked and promised where the parts of a pattern become nodes. Contracts of private functions cite these; no promise of a public
-- call does.
use Rattle.std.specs.Prelude.{ℕ, ◌<◌, ◌≤◌, ◌≡◌, Bool, List, length, eqb, Result}
use Rattle.sheet.specs.Bytes.{byte}
use Rattle.calculus.specs.Trees.{Tree, tree_of}
use Rattle.patterns.specs.Patterns.{Pattern}
use Rattle.patterns.specs.Translation.{raised, before}
use Rattle.patterns.specs.Internal.SecondParts.{PartAt, Noted}
use Rattle.patterns.specs.Internal.Nodes.{Progress, Making, Progressed}
use Rattle.patterns.specs.Internal.Drafts.{progress_of}
use Rattle.patterns.specs.declared.Oversize.{Oversize}
use Rattle.patterns.specs.declared.draft.Draft.{Draft}
use Rattle.patterns.specs.declared.putting.Source.{Source}

-- the flag that the leading byte says
abbrev pub every_of : List ℕ → Bool
every_of p = eqb (byte p 0) 1

-- What follows a part that belongs to the byte at a place i, as a function of the binders before it; every part in it begins at the floor
-- or after it. At the place of a sequence the slots have the place that says what follows the sequence, at that of a repetition its
-- variable.
pub data Follows (p seconds slots : List ℕ) (every : Bool) (t : Tree) : ℕ → ℕ → (ℕ → Tree) → Type 0 where
  -- after the whole pattern: the rule
  rule : {floor i : ℕ} → i ≡ 0 → Follows p seconds slots every t floor i (λ n. raised n t)
  -- after the part of a repetition: its variable
  variable : {floor i X : ℕ} → 1 ≤ i → i < length p → byte p i ≡ 3 → byte slots i ≡ X
      → Follows p seconds slots every t floor i (λ n. Tree.variable X)
  -- after the first part of a sequence: the second, before what follows the sequence
  part : {floor i j m end : ℕ} {Q : Pattern} {k : ℕ → Tree} → 1 ≤ i → i < m → byte p i ≡ 1 → byte seconds i ≡ m → floor ≤ m
      → PartAt p (Noted seconds) Q m end → byte slots i ≡ j → j < i → Follows p seconds slots every t end j k
      → Follows p seconds slots every t floor i (before every Q k)

-- a part begins at a place, what follows it is known, and there are n nodes and b binders
pub record PartRequires (r p seconds slots : List ℕ) (at after n b : ℕ) (out : List ℕ) : Type 0 where
  pub making : Making r n b out
  pub short : length p ≤ 189
  pub room : length slots ≡ 189
  pub pattern : Pattern
  pub end : ℕ
  pub part : PartAt p (Noted seconds) pattern at end
  pub next : ℕ → Tree
  pub follows : Follows p seconds slots (every_of p) (tree_of r) end after next
  pub belongs : after < at

-- the part before what follows it is put; slots before its place are as they were
pub record PartPut (r p seconds slots slots' : List ℕ) (at after n b : ℕ) (out out' : List ℕ) (x : Progress) : Type 0 where
  pub made : (R : Pattern) (end : ℕ) (k : ℕ → Tree) → PartAt p (Noted seconds) R at end
      → Follows p seconds slots (every_of p) (tree_of r) end after k → Progressed (before (every_of p) R k b) n b out out' x
  pub same : (i : ℕ) → i < at → byte slots' i ≡ byte slots i
  pub sized : length slots' ≡ length slots

-- what follows is known
pub record AfterRequires (r p seconds slots : List ℕ) (after n b : ℕ) (out : List ℕ) : Type 0 where
  pub making : Making r n b out
  pub short : length p ≤ 189
  pub room : length slots ≡ 189
  pub floor : ℕ
  pub next : ℕ → Tree
  pub follows : Follows p seconds slots (every_of p) (tree_of r) floor after next

-- what follows is put; slots before the floor are as they were
pub record AfterPut (r p seconds slots slots' : List ℕ) (after n b : ℕ) (out out' : List ℕ) (x : Progress) : Type 0 where
  pub made : (floor : ℕ) (k : ℕ → Tree) → Follows p seconds slots (every_of p) (tree_of r) floor after k → Progressed (k b) n b out out' x
  pub same : (floor : ℕ) (k : ℕ → Tree) → Follows p seconds slots (every_of p) (tree_of r) floor after k
      → (i : ℕ) → i < floor → byte slots' i ≡ byte slots i
  pub sized : length slots' ≡ length slots

-- ---- the same, of the code's values

abbrev pub PartReady : Source → Draft → ℕ → ℕ → Type 0
PartReady s d at after = PartRequires s.rule.now s.pattern.now s.seconds.now d.slots at after d.nodes d.binders d.body

abbrev pub PartDone : Source → Draft → ℕ → ℕ → Result (Unit {0}) Oversize → Draft → Type 0
PartDone s d at after x d' =
    PartPut s.rule.now s.pattern.now s.seconds.now d.slots d'.slots at after d.nodes d.binders d.body d'.body (progress_of x d'.nodes d'.binders)

abbrev pub AfterReady : Source → Draft → ℕ → Type 0
AfterReady s d after = AfterRequires s.rule.now s.pattern.now s.seconds.now d.slots after d.nodes d.binders d.body

abbrev pub AfterDone : Source → Draft → ℕ → Result (Unit {0}) Oversize → Draft → Type 0
AfterDone s d after x d' =
    AfterPut s.rule.now s.pattern.now s.seconds.now d.slots d'.slots after d.nodes d.binders d.body d'.body (progress_of x d'.nodes d'.binders)
