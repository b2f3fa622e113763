-- Rows of cells, their solution and need, as document 01 has them under "Rows". Cells are any type; nothing is said here of marks, nodes
-- and states.
use Rattle.std.specs.Prelude.{Bool, true, false, not, List, [], ◌∷◌, ◌++◌, ◌≡◌, ℕ, zero, suc}
use Rattle.std.specs.Bool.{beq}

-- the "or" and the "and" of rows
pub data Connective : Type 0 where
  disjunction conjunction : Connective

-- "the row is: ..": an "or" or an "and" of cells; the right-hand side of a boolean equation (document 000, Table 2)
pub record Row (C : Type 0) : Type 0 where
  pub connective : Connective
  pub entries : List C

-- "the first entry that decides it (a true one under "or", a false one under "and")"
abbrev pub deciding : Connective → Bool
deciding disjunction = true
deciding conjunction = false

-- whether an entry of this value decides a row of this connective
abbrev pub decides : Connective → Bool → Bool
decides k b = beq b (deciding k)

module _ {C : Type 0} where
  -- an "or" of no entry is false, an "and" of none is true; what stands after the first entry that decides is not looked at
  unfoldable pub joined : Connective → (C → Bool) → List C → Bool
  joined k v [] = not (deciding k)
  joined k v (d ∷ ds) = elim (decides k (v d)) [ true ↦ deciding k | false ↦ joined k v ds ]

  -- "taking its row in order up to the first entry that decides it .., the cells needed for each entry looked at"
  unfoldable pub looked : Connective → (C → Bool) → (C → List C) → List C → List C
  looked k v n [] = []
  looked k v n (d ∷ ds) = n d ++ elim (decides k (v d)) [ true ↦ [] | false ↦ looked k v n ds ]

module _ {C : Type 0} (k : Connective) (v : C → Bool) where
  -- "taking its row in order up to the first entry that decides it": of a list of entries d is looked at, since none before it decides
  pub data LookedAt (d : C) : List C → Type 0 where
    now : {ds : List C} → LookedAt d (d ∷ ds)
    later : {e : C} {ds : List C} → decides k (v e) ≡ false → LookedAt d ds → LookedAt d (e ∷ ds)

module _ {C : Type 0} (rows : C → Row C) where
  -- a solution: every cell that counts has the value that its row gives
  pub record Solution (Counts : C → Type 0) (v : C → Bool) : Type 0 where
    pub row : (c : C) → Counts c → v c ≡ joined (rows c).connective v (rows c).entries

  -- "The cells needed for a cell are itself and, taking its row in order up to the first entry that decides it .., the cells needed for
  -- each entry looked at": d is needed for c, where v is the solution; the variables that local resolution explores (document 000,
  -- Figure 1)
  pub data Needed (v : C → Bool) : C → C → Type 0 where
    itself : {c : C} → Needed v c c
    entry : {c d e : C} → LookedAt (rows c).connective v e (rows c).entries → Needed v e d → Needed v c d

  -- The same two computed, for contracts to cite; what a query computes so is what is said above by QueriesCorrect of the crate judge. The
  -- solution, by following chains of at most f rows: where no chain returns and f is large enough, it is the rows' one solution.
  unfoldable pub value : ℕ → C → Bool
  value zero c = false
  value (suc f) c = joined (rows c).connective (λ d. value f d) (rows c).entries

  -- the cells needed for a cell, in the order in which they are looked at; there, those that `Needed` says
  unfoldable pub need : ℕ → C → List C
  need zero c = []
  need (suc f) c = c ∷ looked (rows c).connective (λ d. value f d) (λ d. need f d) (rows c).entries
