-- Document 02 (k): "each filled cell follows from filled cells of its row: one that decides it, or all of them where none does". Cells are
-- any type, as in Rows.antt; t is a table, and position says where a cell's byte is.
use Rattle.std.specs.Prelude.{Bool, true, false, not, ◌&&◌, ◌||◌, ◌↔◌, ◌≡◌, ℕ, eqb}
use mathlib.Core.List.{List, [], ◌∷◌, Memᴰ}
use Rattle.rows.specs.Rows.{Row, deciding, decides}
use Rattle.rows.specs.Tables.{byte_at, byte_of}

module _ {C : Type 0} (position : C → ℕ) (t : List ℕ) where
  -- a cell is filled with a value
  abbrev pub FilledWith : Bool → C → Type 0
  FilledWith v d = byte_at t (position d) ≡ byte_of v

  -- a value follows from filled cells of a row
  pub data FollowsFrom (row : Row C) (v : Bool) : Type 0 where
    -- "one that decides it": an entry filled with the value that decides the row, which then is the row's value
    by_one :
        (d : C) → Memᴰ d row.entries → FilledWith (deciding row.connective) d → v ≡ deciding row.connective
        → FollowsFrom row v
    -- "or all of them where none does": each entry is filled, with the value that does not decide, which then is the row's value
    by_all :
        ((d : C) → Memᴰ d row.entries → FilledWith (not (deciding row.connective)) d) → v ≡ not (deciding row.connective)
        → FollowsFrom row v

  -- ---- the same computed, for contracts to cite

  abbrev pub filled_with : Bool → C → Bool
  filled_with v d = eqb (byte_at t (position d)) (byte_of v)

  -- an entry of a list is filled with a value
  unfoldable pub some_filled_with : Bool → List C → Bool
  some_filled_with v [] = false
  some_filled_with v (d ∷ ds) = filled_with v d || some_filled_with v ds

  -- all entries of a list are
  unfoldable pub all_filled_with : Bool → List C → Bool
  all_filled_with v [] = true
  all_filled_with v (d ∷ ds) = filled_with v d && all_filled_with v ds

  -- as many as are asked for: one of them, where one is enough, or all
  abbrev pub enough_filled_with : Bool → Bool → List C → Bool
  enough_filled_with one v ds = elim one [ true ↦ some_filled_with v ds | false ↦ all_filled_with v ds ]

  -- a value that decides the row has to stand in one of its entries, the other value in all of them
  abbrev pub follows_from : Row C → Bool → Bool
  follows_from row v = enough_filled_with (decides row.connective v) v row.entries

-- it is the same (`follows_exactly` of proofs/Follows/Follows.antt)
abbrev pub FollowsExactly : Type 1
FollowsExactly =
    (C : Type 0) (position : C → ℕ) (t : List ℕ) (row : Row C) (v : Bool)
    → (follows_from position t row v ≡ true) ↔ FollowsFrom position t row v
