-- Tables of cells and queries on them, as document 01 has them under "Guard check, clearing, query". A table is a list of bytes: the
-- memo table of the local resolution (document 000, Figure 1).
use Rattle.std.specs.Prelude.{Bool, true, false, ◌&&◌, ◌||◌, List, [], ◌∷◌, ℕ, zero, suc, eqb, get_or}
use Rattle.rows.specs.Rows.{Row, disjunction, conjunction, value, need}

-- "cell (m, n, s) is byte ..": the byte at a position
abbrev pub byte_at : List ℕ → ℕ → ℕ
byte_at t i = get_or t i 0

-- "0 empty"
abbrev pub empty : ℕ → Bool
empty b = eqb b 0

-- "A cell is filled when its byte is 1 or 2."
abbrev pub filled : ℕ → Bool
filled b = eqb b 1 || eqb b 2

-- "1 false, 2 true": the byte of a value
abbrev pub byte_of : Bool → ℕ
byte_of false = 1
byte_of true = 2

-- "1 false, 2 true": the value that a filled byte holds
abbrev pub known : ℕ → Bool
known b = eqb b 2

-- "how many it filled": how many positions below n pass a test
unfoldable pub count : ℕ → (ℕ → Bool) → ℕ
count zero p = 0
count (suc n) p = elim (p n) [ true ↦ suc (count n p) | false ↦ count n p ]

-- the first n bytes rewritten, each from its position and what it was; "Bytes after these are never changed"
unfoldable pub rewritten : ℕ → (ℕ → ℕ → ℕ) → List ℕ → List ℕ
rewritten zero f t = t
rewritten (suc n) f [] = []
rewritten (suc n) f (b ∷ bs) = f 0 b ∷ rewritten n (λ i. f (suc i)) bs

-- "It gives the solution .. and reports how many it filled as its visits": verdict, visits (the variables newly decided) and the table it
-- leaves
pub data Result : Type 0 where
  out : Bool → ℕ → List ℕ → Result

-- the parts of a result
abbrev pub verdict : Result → Bool
verdict (out v n t) = v

abbrev pub visits : Result → ℕ
visits (out v n t) = n

abbrev pub table : Result → List ℕ
table (out v n t) = t

module _ {C : Type 0} (position : C → ℕ) where
  -- the cell at position i is in a list
  unfoldable pub among : List C → ℕ → Bool
  among [] i = false
  among (d ∷ ds) i = eqb (position d) i || among ds i

-- "an empty "or" (false) or an empty "and" (true)"
abbrev pub constant : {C : Type 0} → Bool → Row C
constant false = record { connective = disjunction; entries = [] }
constant true = record { connective = conjunction; entries = [] }

module _ {C : Type 0} (position : C → ℕ) (rows : C → Row C) where
  -- "a filled cell has, in place of its row, an empty "or" (false) or an empty "and" (true)"; a byte over 2 is refused (21), so a cell is
  -- empty or filled
  unfoldable pub changed : List ℕ → C → Row C
  changed t c = elim (empty (byte_at t (position c))) [ true ↦ rows c | false ↦ constant (known (byte_at t (position c))) ]

module _ {C : Type 0} (position : C → ℕ) where
  -- "the needed cells that were empty", for a list of needed cells
  unfoldable pub fills : List ℕ → List C → ℕ → Bool
  fills t l i = empty (byte_at t i) && among position l i

module _ {C : Type 0} (position : C → ℕ) (size : ℕ) (cell_at : ℕ → C) where
  -- "fills exactly the needed cells that were empty, each with its own solution, changes no other cell"
  unfoldable pub filling : (C → Bool) → List C → List ℕ → List ℕ
  filling v l t = rewritten size (λ i b. elim (fills position t l i) [ true ↦ byte_of (v (cell_at i)) | false ↦ b ]) t

  -- "It gives the solution at (0, 0, s), fills exactly the needed cells that were empty, each with its own solution, changes no other cell,
  -- and reports how many it filled as its visits"; "solution and need are those of the rows so changed"
  unfoldable pub query : (C → Row C) → ℕ → List ℕ → C → Result
  query rows fuel t c =
      let r : C → Row C = changed position rows t in
      let l : List C = need r fuel c in
      out (value r fuel c) (count size (fills position t l)) (filling (value r fuel) l t)
