-- What a tree must keep to be the rule of a sheet.
use Prim.Native.Nat.{ℕ, suc, ◌+◌, ◌<◌}
use mathlib.Core.Path.{◌≡◌}
use mathlib.Core.Logic.{◌⊎◌}
use Rattle.calculus.specs.Trees.{Tree, constant, pair, modal, variable, binder, binders}

-- its modalities name entries below the count
unfoldable pub TreeEntriesBelow : ℕ → Tree → Type 0
TreeEntriesBelow entries (constant b) = Unit {0}
TreeEntriesBelow entries (pair b l r) = TreeEntriesBelow entries l × TreeEntriesBelow entries r
TreeEntriesBelow entries (modal b e t) = (e < entries) × TreeEntriesBelow entries t
TreeEntriesBelow entries (variable X) = Unit {0}
TreeEntriesBelow entries (binder b X t) = TreeEntriesBelow entries t

-- its binders, in preorder, bind the variables k, k + 1, k + 2 and so on
unfoldable pub InOrder : ℕ → Tree → Type 0
InOrder k (constant b) = Unit {0}
InOrder k (pair b l r) = InOrder k l × InOrder (k + binders l) r
InOrder k (modal b e t) = InOrder k t
InOrder k (variable X) = Unit {0}
InOrder k (binder b X t) = (X ≡ k) × InOrder (suc k) t

-- the variable is free in it
unfoldable pub FreeIn : ℕ → Tree → Type 0
FreeIn Y (constant b) = ⊥
FreeIn Y (pair b l r) = FreeIn Y l ⊎ FreeIn Y r
FreeIn Y (modal b e t) = FreeIn Y t
FreeIn Y (variable X) = Y ≡ X
FreeIn Y (binder b X t) = FreeIn Y t × (Y ≡ X → ⊥)
