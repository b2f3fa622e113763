-- The parts of a pattern at their places, and what noting the second parts promises. Contracts of private functions cite these; no promise
-- of a public call does.
use Rattle.std.specs.Prelude.{ℕ, ◌+◌, ◌<◌, ◌≤◌, ◌≡◌, List, ◌⊎◌, length}
use Rattle.sheet.specs.Bytes.{byte}
use Rattle.patterns.specs.Patterns.{Pattern}

-- The bytes of p from one place up to another are the pattern; of each sequence and choice in it, Second holds of its place and that of its
-- second part.
pub data PartAt (p : List ℕ) (Second : ℕ → ℕ → Type 0) : Pattern → ℕ → ℕ → Type 0 where
  action : {e at end : ℕ} → byte p at ≡ 0 → byte p (at + 1) ≡ e → end ≡ at + 2 → end ≤ length p → PartAt p Second (Pattern.action e) at end
  sequence : {R Q : Pattern} {at m end : ℕ} → byte p at ≡ 1 → Second at m → PartAt p Second R (at + 1) m → PartAt p Second Q m end
      → PartAt p Second (Pattern.sequence R Q) at end
  choice : {R Q : Pattern} {at m end : ℕ} → byte p at ≡ 2 → Second at m → PartAt p Second R (at + 1) m → PartAt p Second Q m end
      → PartAt p Second (Pattern.choice R Q) at end
  repetition : {R : Pattern} {at end : ℕ} → byte p at ≡ 3 → PartAt p Second R (at + 1) end → PartAt p Second (Pattern.repetition R) at end

-- nothing is known of the second part
abbrev pub AnyPlace : ℕ → ℕ → Type 0
AnyPlace i m = Unit {0}

-- its place is noted
abbrev pub Noted : List ℕ → ℕ → ℕ → Type 0
Noted seconds i m = byte seconds i ≡ m

-- a part begins there, in a pattern of at most 189 bytes, and there is room to note as many places
pub record PartHere (p : List ℕ) (at : ℕ) (seconds : List ℕ) : Type 0 where
  pub pattern : Pattern
  pub end : ℕ
  pub part : PartAt p AnyPlace pattern at end
  pub short : length p ≤ 189
  pub room : length seconds ≡ 189

-- the part at a place ends there, its second parts are noted, and nothing else changed
pub record SecondsNoted (p : List ℕ) (at : ℕ) (seconds seconds' : List ℕ) (r : ℕ) : Type 0 where
  pub ends : (R : Pattern) (end : ℕ) → PartAt p AnyPlace R at end → r ≡ end
  pub noted : (R : Pattern) (end : ℕ) → PartAt p AnyPlace R at end → PartAt p (Noted seconds') R at end
  pub same : (i : ℕ) → (i < at) ⊎ (r ≤ i) → byte seconds' i ≡ byte seconds i
  pub sized : length seconds' ≡ length seconds
