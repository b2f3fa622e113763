-- The walk along a row's entries gives the row's value and fills what the entries looked at need.
use mathlib.Core.Bool.{Bool, true, false, beq, true≢false, and-false}
use mathlib.Core.List.{List, [], ◌∷◌, ◌++◌, append-nil}
use mathlib.Core.Path.{◌≡◌, refl, sym, ap, ◌∙◌}
use Prim.Native.Nat.{ℕ, ◌≤◌}
use lib.ListN.{length}
use lib.Seq.{ext_get_or}
use Rattle.rows.specs.Rows.{Connective, Row, deciding, decides, joined, looked}
use Rattle.rows.specs.Tables.{byte_at, empty, among, fills, count, query, Result, out}
use Rattle.rows.proofs.Systems.Fuel.{each_map, joined_cong}
use Rattle.rows.proofs.Tables.Counting.{count_none}
use Rattle.rows.proofs.Systems.Needs.{closed_nil, closed_append, need_closed, need_each, each_append, looked_all, changed_solvable, solution, needed}
use Rattle.rows.proofs.Tables.Extension.{Extends, extension_value, extension_need, looked_among}
use Rattle.rows.proofs.Tables.Filling.{fill, fill_length, fill_old, fill_extends, fill_count, fill_fill, Whole}
use Rattle.rows.specs.Internal.Solver.{walk, after}
use Rattle.rows.proofs.Systems.Systems.{Each, Solvable}
use Rattle.rows.proofs.Solver.Solver.{walk_decided, walk_on}

pub beq_true : (a b : Bool) → beq a b ≡ true → a ≡ b
beq_true true true e = refl
beq_true true false e = absurd (true≢false (sym e))
beq_true false true e = absurd (true≢false (sym e))
beq_true false false e = refl

module _ {C : Type 0} (k : Connective) (v : C → Bool) (d : C) (l : List C) where
  pub joined_decided : decides k (v d) ≡ true → joined k v (d ∷ l) ≡ v d
  unfolding joined
  joined_decided e = rw (e, joined) (sym (beq_true (v d) (deciding k) e))

  pub joined_on : decides k (v d) ≡ false → joined k v (d ∷ l) ≡ joined k v l
  unfolding joined
  joined_on e = rw (e, joined)

  pub looked_decided : (n : C → List C) → decides k (v d) ≡ true → looked k v n (d ∷ l) ≡ n d
  unfolding looked
  looked_decided n e = rw e (append-nil (n d))

  pub looked_on : (n : C → List C) → decides k (v d) ≡ false → looked k v n (d ∷ l) ≡ n d ++ looked k v n l
  unfolding looked
  looked_on n e = rw e

pub out_path : {v w : Bool} {n m : ℕ} {t u : List ℕ} → v ≡ w → n ≡ m → t ≡ u → out v n t ≡ out w m u
out_path p q r = λ i. out (p i) (q i) (r i)

pub fills_nil : {C : Type 0} (position : C → ℕ) (t : List ℕ) (i : ℕ) → fills {C = C} position t [] i ≡ false
unfolding fills among
fills_nil position t i = and-false (empty (byte_at t i))

module _ {C : Type 0} {position : C → ℕ} {rows : C → Row C} {size : ℕ} {cell_at : ℕ → C} {Valid : C → Type 0} {rank : C → ℕ} {F : ℕ} (s : Solvable position rows size cell_at Valid rank F) where
  -- what fills no cell leaves the table
  pub fill_none : (t : List ℕ) (l : List C) → size ≤ length t → ((i : ℕ) → fills position t l i ≡ false) → fill s t l ≡ t
  fill_none t l fits none = ext_get_or 0 (fill s t l) t (fill_length s t l) (λ i h. fill_old s t l fits i (none i))

  pub whole_append : (t : List ℕ) (l m : List C) → Whole s t l → Whole s t m → Whole s t (l ++ m)
  whole_append t l m p q = record { valid = each_append Valid l m p.valid q.valid; closed = closed_append position Valid (needed s t) l m p.closed q.closed }

  pub whole_nil : (t : List ℕ) → Whole s t []
  whole_nil t = record { valid = tt; closed = closed_nil position Valid (needed s t) }

  pub need_whole : (t : List ℕ) (c : C) → Valid c → Whole s t (needed s t c)
  need_whole t c vc =
      record { valid = each_map (λ d (a : Valid d × (rank d ≤ rank c)). a.0) (needed s t c) (need_each (changed_solvable s t) c vc); closed = need_closed (changed_solvable s t) c vc }

  -- the cells needed for the entries of a row, by table t
  abbrev pub along : List ℕ → Connective → List C → List C
  along t k l = looked k (solution s t) (needed s t) l

  pub along_whole : (t : List ℕ) (k : Connective) (l : List C) → Each Valid l → Whole s t (along t k l)
  along_whole t k l e = looked_all (Whole s t) (whole_nil t) (whole_append t) k (solution s t) (needed s t) l (each_map (λ d vd. need_whole t d vd) l e)

  pub extension_joined : (t u : List ℕ) → Extends s t u → (k : Connective) (l : List C) → Each Valid l → joined k (solution s u) l ≡ joined k (solution s t) l
  extension_joined t u x k l e = joined_cong k (solution s u) (solution s t) l (each_map (λ d vd. extension_value s t u x d vd) l e)

  pub extension_along : (t u : List ℕ) → Extends s t u → (k : Connective) (l : List C) → Each Valid l → (i : ℕ) → empty (byte_at u i) ≡ true → among position (along u k l) i ≡ among position (along t k l) i
  extension_along t u x k l e i free =
      looked_among position i k (solution s u) (solution s t) (needed s u) (needed s t) l (each_map (λ d vd. (extension_value s t u x d vd, extension_need s t u x i free d vd)) l e)

  -- what a query gives, and what a walk gives
  abbrev pub answer : List ℕ → C → Result
  answer t c = out (solution s t c) (count size (fills position t (needed s t c))) (fill s t (needed s t c))

  pub query_answer : (t : List ℕ) (c : C) → query position size cell_at rows F t c ≡ answer t c
  unfolding query
  query_answer t c = refl

  abbrev pub walked : List ℕ → Connective → List C → Result
  walked t k l = out (joined k (solution s t) l) (count size (fills position t (along t k l))) (fill s t (along t k l))

  -- a cell that is solved right on every table long enough
  abbrev pub Solves : (C → List ℕ → Result) → C → Type 0
  Solves rec d = Valid d × ((t : List ℕ) → size ≤ length t → rec d t ≡ answer t d)

  pub walk_solves : (rec : C → List ℕ → Result) (k : Connective) (l : List C) → Each (Solves rec) l → (t : List ℕ) → size ≤ length t → walk rec k l t ≡ walked t k l
  unfolding walk joined looked
  walk_solves rec k [] e t fits = out_path refl (sym (count_none size _ (λ i h. fills_nil position t i))) (sym (fill_none t [] fits (fills_nil position t)))
  walk_solves rec k (d ∷ l) e t fits = go (decides k (solution s t d)) refl (walk_solves rec k l e.1)
    where
      u : List ℕ
      u = fill s t (needed s t d)

      w : Whole s t (needed s t d)
      w = need_whole t d e.0.0

      x : Extends s t u
      x = fill_extends s t (needed s t d) fits w

      vl : Each Valid l
      vl = each_map (λ c (h : Solves rec c). h.0) l e.1

      vm : Each Valid (along u k l)
      vm = (along_whole u k l vl).valid

      agree : (i : ℕ) → empty (byte_at u i) ≡ true → among position (along u k l) i ≡ among position (along t k l) i
      agree i free = extension_along t u x k l vl i free

      go : (b : Bool) → decides k (solution s t d) ≡ b → ((t : List ℕ) → size ≤ length t → walk rec k l t ≡ walked t k l) → walk rec k (d ∷ l) t ≡ walked t k (d ∷ l)
      go true q rest =
          let same : along t k (d ∷ l) ≡ needed s t d = looked_decided k (solution s t) d l (needed s t) q in
          walk_decided rec k d l t _ _ _ (e.0.1 t fits) q
          ∙ out_path (sym (joined_decided k (solution s t) d l q)) (ap (λ (m : List C). count size (fills position t m)) (sym same)) (ap (fill s t) (sym same))
      go false q rest =
          let same : along t k (d ∷ l) ≡ needed s t d ++ along t k l = looked_on k (solution s t) d l (needed s t) q in
          walk_on rec k d l t _ _ _ (e.0.1 t fits) q ∙ ap (after _) (rest u (rw (fill_length s t (needed s t d)) fits))
          ∙ out_path (extension_joined t u x k l vl ∙ sym (joined_on k (solution s t) d l q))
          (fill_count s t (needed s t d) fits w (along u k l) (along t k l) vm agree ∙ ap (λ (m : List C). count size (fills position t m)) (sym same))
          (fill_fill s t (needed s t d) fits w (along u k l) (along t k l) vm agree ∙ ap (fill s t) (sym same))
