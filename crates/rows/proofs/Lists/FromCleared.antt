-- A list of queries on a table just cleared: verdicts, filled cells and visits are those of the rows as written.
use mathlib.Core.Bool.{Bool, true, false, ◌||◌}
use mathlib.Core.List.{List, [], ◌∷◌, map}
use mathlib.Core.Path.{◌≡◌, refl, sym, ap, ap₂, subst, ◌∙◌}
use Prim.Native.Nat.{ℕ, ◌≤◌, ◌<◌}
use native.Mathlib.Omega.{arith}
use lib.ListN.{length}
use borrow.Author.Tests.{eq-eqb}
use Rattle.rows.specs.Rows.{Row, value, need}
use Rattle.rows.specs.Tables.{byte_at, empty, filled, byte_of, changed, among, fills, count, verdict}
use Rattle.rows.proofs.Systems.Systems.{Each, queries, total, final, needed_for, Solvable}
use Rattle.rows.proofs.Systems.Fuel.{each_map, value_agree, need_agree}
use Rattle.rows.proofs.Systems.Changed.{changed_empty, filled_byte}
use Rattle.rows.proofs.Tables.Among.{among_append, among_find}
use Rattle.rows.proofs.Tables.Counting.{count_none, count_cong}
use Rattle.rows.proofs.Systems.Needs.{solution, needed, changed_solvable}
use Rattle.rows.proofs.Tables.Filling.{fill, fill_length, fill_above, fill_new, fill_old, fills_empty}
use Rattle.rows.proofs.Solver.Walks.{fills_nil}
use Rattle.rows.proofs.Lists.Lists.{needs, needs_whole, ran_all}

map_each : {C : Type 0} (v w : C → Bool) (l : List C) → Each (λ d. v d ≡ w d) l → map v l ≡ map w l
map_each v w [] e = refl
map_each v w (d ∷ l) e = ap₂ ◌∷◌ e.0 (map_each v w l e.1)

module _ {C : Type 0} {position : C → ℕ} {rows : C → Row C} {size : ℕ} {cell_at : ℕ → C} {Valid : C → Type 0} {rank : C → ℕ} {F : ℕ} (s : Solvable position rows size cell_at Valid rank F)
    (t : List ℕ) (fits : size ≤ length t) (clear : (i : ℕ) → i < size → byte_at t i ≡ 0) where
  free : (i : ℕ) → i < size → empty (byte_at t i) ≡ true
  free i h = eq-eqb (byte_at t i) 0 (clear i h)

  -- a cleared table leaves the rows as written
  written : (c : C) → Valid c → changed position rows t c ≡ rows c
  written c vc = changed_empty position rows t c (free (position c) (s.layout.inside c vc))

  pub cleared_value : (c : C) → Valid c → solution s t c ≡ value rows F c
  cleared_value c vc = value_agree (changed position rows t) (changed_solvable s t).falling rows written F c vc

  pub cleared_need : (c : C) → Valid c → needed s t c ≡ need rows F c
  cleared_need c vc = need_agree (changed position rows t) (changed_solvable s t).falling rows written F c vc

  cleared_needs : (cs : List C) → Each Valid cs → (i : ℕ) → among position (needs s t cs) i ≡ needed_for position rows F cs i
  unfolding needs needed_for among
  cleared_needs [] e i = refl
  cleared_needs (c ∷ cs) e i = among_append position (needed s t c) (needs s t cs) i ∙ ap₂ ◌||◌ (ap (λ (l : List C). among position l i) (cleared_need c e.0)) (cleared_needs cs e.1 i)

  -- what a list of queries gives, and the table u it leaves
  pub record Cleared (cs : List C) (u : List ℕ) : Type 0 where
    pub verdicts : map verdict (queries position size cell_at rows F t cs) ≡ map (value rows F) cs
    pub exactly : (i : ℕ) → i < size → filled (byte_at u i) ≡ needed_for position rows F cs i
    pub solved : (i : ℕ) → i < size → needed_for position rows F cs i ≡ true → byte_at u i ≡ byte_of (value rows F (cell_at i))
    pub unsolved : (i : ℕ) → i < size → needed_for position rows F cs i ≡ false → byte_at u i ≡ 0
    pub sum : total (queries position size cell_at rows F t cs) ≡ count size (λ i. filled (byte_at u i))
    pub above : (i : ℕ) → size ≤ i → byte_at u i ≡ byte_at t i
    pub long : length u ≡ length t

  pub cleared : (cs : List C) → Each Valid cs → Cleared cs (final t (queries position size cell_at rows F t cs))
  cleared cs e =
      subst (Cleared cs) (sym (ran_all s t fits cs e).end)
      (record {
        verdicts = (ran_all s t fits cs e).verdicts ∙ map_each _ _ cs (each_map (λ d vd. cleared_value d vd) cs e);
        exactly = λ i h. fills_needed i h (needed_for position rows F cs i) refl;
        solved = solved;
        unsolved = unsolved;
        sum = sum;
        above = λ i h. fill_above s t l i h;
        long = fill_length s t l;
      })
    where
      l : List C
      l = needs s t cs

      passes : (i : ℕ) → i < size → fills position t l i ≡ needed_for position rows F cs i
      passes i h = fills_empty position t l i (free i h) ∙ cleared_needs cs e i

      solved : (i : ℕ) → i < size → needed_for position rows F cs i ≡ true → byte_at (fill s t l) i ≡ byte_of (value rows F (cell_at i))
      solved i h n =
          let found : (d : C) × Valid d × (position d ≡ i) = among_find position l (needs_whole s t cs e).valid i (cleared_needs cs e i ∙ n) in
          let cell : found.0 ≡ cell_at i = sym (s.layout.back found.0 found.1) ∙ ap cell_at found.2 in
          fill_new s t l fits i h (passes i h ∙ n) ∙ ap byte_of (subst (λ (d : C). solution s t d ≡ value rows F d) cell (cleared_value found.0 found.1))

      unsolved : (i : ℕ) → i < size → needed_for position rows F cs i ≡ false → byte_at (fill s t l) i ≡ 0
      unsolved i h n = fill_old s t l fits i (passes i h ∙ n) ∙ clear i h

      fills_needed : (i : ℕ) → i < size → (b : Bool) → needed_for position rows F cs i ≡ b → filled (byte_at (fill s t l) i) ≡ needed_for position rows F cs i
      fills_needed i h true n = ap filled (solved i h n) ∙ filled_byte (value rows F (cell_at i)) ∙ sym n
      fills_needed i h false n = ap filled (unsolved i h n) ∙ sym n

      sum : total (queries position size cell_at rows F t cs) ≡ count size (λ i. filled (byte_at (fill s t l) i))
      sum =
          let none : count size (fills position t []) ≡ 0 = count_none size _ (λ i h. fills_nil position t i) in
          let all : count size (fills position t l) ≡ count size (λ i. filled (byte_at (fill s t l) i)) =
          count_cong size _ _ (λ i h. passes i h ∙ sym (fills_needed i h (needed_for position rows F cs i) refl)) in
          omega (arith, (ran_all s t fits cs e).sum)
