-- What is needed for a cell: valid cells of no greater rank, and with each all that is needed for it.
use mathlib.Core.Bool.{Bool, true, false, true≢false}
use mathlib.Core.List.{List, [], ◌∷◌, ◌++◌, Memᴰ}
use mathlib.Core.Path.{◌≡◌, sym, ap, subst, ◌∙◌}
use Prim.Native.Nat.{ℕ, zero, suc, ◌≤◌, ◌<◌}
use native.Mathlib.Omega.{arith}
use lib.Dec.{eqb}
use borrow.Author.Tests.{eqb-true}
use Rattle.rows.specs.Rows.{Connective, Row, decides, looked, value, need}
use Rattle.rows.specs.Tables.{among, changed}
use Rattle.rows.proofs.Systems.Systems.{Each, Layout, Solvable}
use Rattle.rows.proofs.Systems.Fuel.{each_map, need_row}
use Rattle.rows.proofs.Systems.Changed.{changed_falling}
use Rattle.rows.proofs.Tables.Among.{or_cases, or_left, or_right, among_append, among_none}

module _ {C : Type 0} where
  pub each_append : (P : C → Type 0) (l m : List C) → Each P l → Each P m → Each P (l ++ m)
  each_append P [] m p q = q
  each_append P (d ∷ l) m p q = (p.0, each_append P l m p.1 q)

  -- what holds of the needs of every entry, of the empty list and of two lists joined, holds of the entries looked at
  pub looked_all : (Q : List C → Type 0) → Q [] → ((l m : List C) → Q l → Q m → Q (l ++ m)) → (k : Connective) (v : C → Bool) (n : C → List C) (l : List C) → Each (λ d. Q (n d)) l → Q (looked k v n l)
  unfolding looked
  looked_all Q none and_parts k v n [] e = none
  looked_all Q none and_parts k v n (d ∷ l) e =
      and_parts (n d) _ e.0 (elim (decides k (v d)) as (λ b. Q (elim b as (λ b. List C) [ true ↦ [] | false ↦ looked k v n l ])) [ true ↦ none | false ↦ looked_all Q none and_parts k v n l e.1 ])

-- a list of cells that holds, with a cell, all that is needed for it
pub record Closed {C : Type 0} (position : C → ℕ) (Valid : C → Type 0) (n : C → List C) (l : List C) : Type 0 where
  pub whole : (d : C) → Valid d → among position l (position d) ≡ true → (i : ℕ) → among position (n d) i ≡ true → among position l i ≡ true

module _ {C : Type 0} (position : C → ℕ) (Valid : C → Type 0) (n : C → List C) where
  pub closed_nil : Closed position Valid n []
  unfolding among
  closed_nil = record { whole = λ d vd h i q. absurd (true≢false (sym h)) }

  pub closed_append : (l m : List C) → Closed position Valid n l → Closed position Valid n m → Closed position Valid n (l ++ m)
  closed_append l m p q =
      record {
        whole = λ d vd h i a. rw among_append (or_cases (among position l (position d)) (among position m (position d)) (sym (among_append position l m (position d)) ∙ h)
            (λ x. or_left (among position l i) (among position m i) (p.whole d vd x i a)) (λ y. or_right (among position l i) (among position m i) (q.whole d vd y i a)));
      }

module _ {C : Type 0} {position : C → ℕ} {size : ℕ} {cell_at : ℕ → C} {Valid : C → Type 0} (lay : Layout Valid position size cell_at) where
  pub index_injective : (c d : C) → Valid c → Valid d → position c ≡ position d → c ≡ d
  index_injective c d vc vd e = sym (lay.back c vc) ∙ ap cell_at e ∙ lay.back d vd

  -- a valid cell is in a list of valid cells where its position is
  pub among_mem : (c : C) (l : List C) → Valid c → Each Valid l → among position l (position c) ≡ true → Memᴰ c l
  unfolding among
  among_mem c [] vc e h = absurd (true≢false (sym h))
  among_mem c (d ∷ l) vc e h =
      or_cases (eqb (position d) (position c)) (among position l (position c)) h (λ q. Memᴰ.head (sym (index_injective d c e.0 vc (eqb-true (position d) (position c) q))))
      (λ q. Memᴰ.tail (among_mem c l vc e.1 q))

module _ {C : Type 0} {position : C → ℕ} {rows : C → Row C} {size : ℕ} {cell_at : ℕ → C} {Valid : C → Type 0} {rank : C → ℕ} {F : ℕ} (s : Solvable position rows size cell_at Valid rank F) where
  pub changed_solvable : (t : List ℕ) → Solvable position (changed position rows t) size cell_at Valid rank F
  changed_solvable t = record { falling = changed_falling position rows s.falling t; layout = s.layout; fuelled = s.fuelled }

  -- by the rows as table t changes them
  abbrev pub solution : List ℕ → C → Bool
  solution t = value (changed position rows t) F

  abbrev pub needed : List ℕ → C → List C
  needed t = need (changed position rows t) F

  abbrev AtMost : ℕ → C → Type 0
  AtMost b d = Valid d × (rank d ≤ b)

  -- the cells needed for the entries of c's row
  abbrev pub entries_need : C → List C
  entries_need c = looked (rows c).connective (value rows F) (need rows F) (rows c).entries

  pub need_unfold : (c : C) → Valid c → need rows F c ≡ c ∷ entries_need c
  need_unfold c vc = need_row rows s.falling F c vc (s.fuelled c vc)

  pub need_each : (c : C) → Valid c → Each (AtMost (rank c)) (need rows F c)
  need_each c vc = go (suc (rank c)) c vc (omega arith)
    where
      go : (b : ℕ) (c : C) → Valid c → rank c < b → Each (AtMost (rank c)) (need rows F c)
      go zero c vc h = absurd (omega arith)
      go (suc b) c vc h =
          rw (need_unfold c vc) (
            (vc, omega arith),
            looked_all (Each (AtMost (rank c))) tt (each_append (AtMost (rank c))) _ _ _ (rows c).entries
                (each_map (λ d (q : Valid d × (rank d < rank c)). each_map (λ e (a : AtMost (rank d) e). (a.0, omega arith)) (need rows F d) (go b d q.0 (omega arith)))
                (rows c).entries (s.falling.falls c vc)),
          )

  -- a cell is not needed for the entries of its own row
  pub entries_apart : (c : C) → Valid c → among position (entries_need c) (position c) ≡ false
  entries_apart c vc =
      among_none position (entries_need c) (position c)
      (looked_all (Each Apart) tt (each_append Apart) _ _ _ (rows c).entries
      (each_map (λ d (q : Valid d × (rank d < rank c)). each_map {Q = Apart} (λ e (a : AtMost (rank d) e). lower e a.0 (omega arith)) (need rows F d) (need_each d q.0))
      (rows c).entries (s.falling.falls c vc)))
    where
      Apart : C → Type 0
      Apart e = position e ≡ position c → ⊥

      lower : (e : C) → Valid e → rank e < rank c → position e ≡ position c → ⊥
      lower e ve l x = let same : rank e ≡ rank c = ap rank (index_injective s.layout e c ve vc x) in omega arith

  -- need is transitive
  pub need_closed : (c : C) → Valid c → Closed position Valid (need rows F) (need rows F c)
  unfolding among
  need_closed c vc = go (suc (rank c)) c vc (omega arith)
    where
      Whole : List C → Type 0
      Whole = Closed position Valid (need rows F)

      top : (c : C) → Valid c → Whole (entries_need c) → Whole (c ∷ entries_need c)
      top c vc w = record {
        whole = λ d vd h i a. or_cases (eqb (position c) (position d)) (among position (entries_need c) (position d)) h
            (λ x. subst (λ (l : List C). among position l i ≡ true) (ap (need rows F) (index_injective s.layout d c vd vc (sym (eqb-true (position c) (position d) x))) ∙ need_unfold c vc) a)
            (λ y. or_right (eqb (position c) i) (among position (entries_need c) i) (w.whole d vd y i a));
      }

      go : (b : ℕ) (c : C) → Valid c → rank c < b → Whole (need rows F c)
      go zero c vc h = absurd (omega arith)
      go (suc b) c vc h =
          rw (need_unfold c vc) (top c vc (looked_all Whole (closed_nil position Valid (need rows F)) (closed_append position Valid (need rows F)) _ _ _ (rows c).entries
          (each_map (λ d (q : Valid d × (rank d < rank c)). go b d q.0 (omega arith)) (rows c).entries (s.falling.falls c vc))))
