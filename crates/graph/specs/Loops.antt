-- Ways and loops, as document 01 has them under "Lists of queries", and what can be reached, of which document 02 (b) speaks. What follows
-- s in one step is `next s`.
use mathlib.Core.List.{List, Memᴰ}
use Rattle.std.specs.Prelude.{◌⊎◌, ◌≡◌, ℕ}

-- "a way of one or more transitions", and a "chain of rows": one or more steps, each to one of the next
pub data Way {C : Type 0} (next : C → List C) : C → C → Type 0 where
  last : {s t : C} → Memᴰ t (next s) → Way next s t
  first : {s u t : C} → Memᴰ u (next s) → Way next u t → Way next s t

-- t "can be reached from" s: it is s, or a way leads there from s
abbrev pub Reachable : {C : Type 0} → (C → List C) → C → C → Type 0
Reachable next s t = (t ≡ s) ⊎ Way next s t

module _ (next : ℕ → List ℕ) where
  -- "A loop is a way of one or more transitions from a state back to it."
  abbrev pub Loop : ℕ → Type 0
  Loop s = Way next s s

  -- Document 02 (b): "a loop can be reached from" s: s lies on one, or a way leads from s to a state that does
  abbrev pub LoopReachable : ℕ → Type 0
  LoopReachable s = (t : ℕ) × Reachable next s t × Loop t
