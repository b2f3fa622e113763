-- Of an "and" of the cells of states in order, those that are looked at are the ones up to the answer.
use Prim.Native.Nat.{ℕ}
use mathlib.Core.Path.{◌≡◌, refl, sym, ap, subst}
use mathlib.Core.Bool.{Bool, true, false, true≢false}
use mathlib.Core.List.Memᴰ
use mathlib.Core.List.{List, [], ◌∷◌, Memᴰ}
use mathlib.Core.Logic.{◌⊎◌, inl, inr}
use native.Mathlib.Omega.{arith}
use Rattle.sheet.specs.Bytes.{pick}
use Rattle.rows.specs.Rows.{conjunction, decides, LookedAt, now, later}
use Rattle.judge.specs.Cells.{Cell, cell}
use Rattle.judge.specs.InTurn.{root_cells}
use Rattle.closest.specs.Steps.{Reached, After, InOrder, none, next}
use Rattle.closest.specs.Finding.{Found, everywhere, fails_at, states_of, first_failing}
use Rattle.closest.proofs.Ways.Order.{not_both}
use Rattle.closest.proofs.Queries.InRow.{up_to_failing}

-- the cell of a state's query
abbrev root_cell : Reached → Cell
root_cell x = cell 0 0 x.state

-- a state is the answer or comes before it
abbrev pub UpTo : Found → Reached → Type 0
UpTo everywhere x = Unit {0}
UpTo (fails_at y) x = (x ≡ y) ⊎ After y x

undecided : (b : Bool) → decides conjunction b ≡ false → b ≡ true
undecided true e = refl
undecided false e = absurd (true≢false e)

module _ (v : Cell → Bool) where
  abbrev holds : ℕ → Bool
  holds state = v (cell 0 0 state)

  -- the answer is one of the list
  answer_listed : (l : List Reached) (y : Reached) → first_failing holds l ≡ fails_at y → Memᴰ y l
  unfolding first_failing
  answer_listed [] y e = let w : ◌≡◌ {A = ℕ} 0 1 = cc in absurd (omega arith)
  answer_listed (x ∷ l) y e = go (holds x.state) e (answer_listed l y)
    where
      go : (b : Bool) → pick b (first_failing holds l) (fails_at x) ≡ fails_at y → (first_failing holds l ≡ fails_at y → Memᴰ y l) → Memᴰ y (x ∷ l)
      go true q rest = Memᴰ.tail (rest q)
      go false q rest = let same : y ≡ x = cc in Memᴰ.head same

  pub record Looked (l : List Reached) (c : Cell) : Type 0 where
    pub by : Reached
    pub cell_is : c ≡ root_cell by
    pub listed : Memᴰ by l
    pub up_to : UpTo (first_failing holds l) by

  pub looked_up_to : {l : List Reached} → InOrder l → {c : Cell} → LookedAt conjunction v c (root_cells (states_of l)) → Looked l c
  unfolding first_failing
  looked_up_to none {c = c} h = elim h [ ]
  looked_up_to (next {x = x} {l = l} after i) now = record { by = x; cell_is = refl; listed = Memᴰ.head refl; up_to = here (holds x.state) (first_failing holds l) refl }
    where
      here : (b : Bool) (f : Found) → first_failing holds l ≡ f → UpTo (pick b f (fails_at x)) x
      here true everywhere e = tt
      here true (fails_at y) e = inr (after y (answer_listed l y e))
      here false f e = inl refl
  looked_up_to (next {x = x} {l = l} after i) (later q h) =
      let r = looked_up_to i h in
      record {
        by = r.by;
        cell_is = r.cell_is;
        listed = Memᴰ.tail r.listed;
        up_to = subst (λ (b : Bool). UpTo (pick b (first_failing holds l) (fails_at x)) r.by) (sym (undecided (holds x.state) q)) r.up_to;
      }

  pub up_to_looked : {l : List Reached} → InOrder l → (x : Reached) → Memᴰ x l → UpTo (first_failing holds l) x → LookedAt conjunction v (root_cell x) (root_cells (states_of l))
  unfolding first_failing
  up_to_looked none x m u = absurd (Memᴰ.not-nil m)
  up_to_looked (next {x = y} {l = l} after i) x m u = go (holds y.state) refl (Memᴰ.cases_cons m) u (up_to_looked i x)
    where
      same : x ≡ y → LookedAt conjunction v (root_cell x) (root_cells (states_of (y ∷ l)))
      same e = subst (λ (z : Reached). LookedAt conjunction v (root_cell z) (root_cells (states_of (y ∷ l)))) (sym e) now

      go : (b : Bool) → holds y.state ≡ b → (x ≡ y) ⊎ Memᴰ x l → UpTo (pick b (first_failing holds l) (fails_at y)) x
          → (Memᴰ x l → UpTo (first_failing holds l) x → LookedAt conjunction v (root_cell x) (root_cells (states_of l)))
          → LookedAt conjunction v (root_cell x) (root_cells (states_of (y ∷ l)))
      go b q (inl e) u rest = same e
      go true q (inr k) u rest = later (ap (decides conjunction) q) (rest k u)
      go false q (inr k) (inl e) rest = same e
      go false q (inr k) (inr a) rest = absurd (not_both a (after x k))

  -- ---- the same of a list of states

  pub failing_looked : (l : List ℕ) (x : ℕ) → Memᴰ x (up_to_failing holds l) → LookedAt conjunction v (cell 0 0 x) (root_cells l)
  unfolding up_to_failing
  failing_looked [] x m = absurd (Memᴰ.not-nil m)
  failing_looked (y ∷ l) x m = go (holds y) refl (Memᴰ.cases_cons m) (failing_looked l x)
    where
      go : (b : Bool) → holds y ≡ b → (x ≡ y) ⊎ Memᴰ x (pick b (up_to_failing holds l) []) → (Memᴰ x (up_to_failing holds l) → LookedAt conjunction v (cell 0 0 x) (root_cells l))
          → LookedAt conjunction v (cell 0 0 x) (root_cells (y ∷ l))
      go b q (inl e) rest = subst (λ (z : ℕ). LookedAt conjunction v (cell 0 0 z) (root_cells (y ∷ l))) (sym e) now
      go true q (inr k) rest = later (ap (decides conjunction) q) (rest k)
      go false q (inr k) rest = absurd (Memᴰ.not-nil k)

  pub looked_failing : (l : List ℕ) {c : Cell} → LookedAt conjunction v c (root_cells l) → Memᴰ c.state (up_to_failing holds l)
  unfolding up_to_failing
  looked_failing [] {c = c} h = elim h [ ]
  looked_failing (y ∷ l) now = Memᴰ.head refl
  looked_failing (y ∷ l) {c} (later q h) =
      Memᴰ.tail (subst (λ (b : Bool). Memᴰ c.state (pick b (up_to_failing holds l) [])) (sym (undecided (holds y) q)) (looked_failing l h))
