-- A list of queries from any table: all is as by the rows that the first table changes.
use mathlib.Core.List.{List, [], ◌∷◌, ◌++◌, map, append-nil, append_assoc}
use mathlib.Core.Path.{◌≡◌, refl, sym, ap₂, subst}
use Prim.Native.Nat.{ℕ, ◌+◌, ◌≤◌}
use native.Mathlib.Omega.{arith}
use lib.ListN.{length}
use Rattle.rows.specs.Rows.{Row}
use Rattle.rows.specs.Tables.{byte_at, filled, fills, filling, count, query, verdict, visits, table}
use Rattle.rows.proofs.Systems.Systems.{Each, queries, total, final, Solvable}
use Rattle.rows.proofs.Systems.Needs.{solution, needed}
use Rattle.rows.proofs.Tables.Counting.{rewritten_length}
use Rattle.rows.proofs.Tables.Extension.{Extends, extension_value, extension_need}
use Rattle.rows.proofs.Tables.Filling.{fill, fill_extends, fill_filled, fill_count, fill_fill, Whole}
use Rattle.rows.proofs.Solver.Walks.{fills_nil, fill_none, whole_nil, whole_append, need_whole}

-- the table of a query has as many bytes as before
pub query_length : {C : Type 0} (position : C → ℕ) (size : ℕ) (cell_at : ℕ → C) (rows : C → Row C) (fuel : ℕ) (t : List ℕ) (c : C) → length (table (query position size cell_at rows fuel t c)) ≡ length t
unfolding query filling
query_length position size cell_at rows fuel t c = rewritten_length size _ t

module _ {C : Type 0} {position : C → ℕ} {rows : C → Row C} {size : ℕ} {cell_at : ℕ → C} {Valid : C → Type 0} {rank : C → ℕ} {F : ℕ} (s : Solvable position rows size cell_at Valid rank F) where
  -- the cells needed for a list of cells, by table t
  unfoldable pub needs : List ℕ → List C → List C
  needs t [] = []
  needs t (c ∷ cs) = needed s t c ++ needs t cs

  pub needs_whole : (t : List ℕ) (cs : List C) → Each Valid cs → Whole s t (needs t cs)
  unfolding needs
  needs_whole t [] e = whole_nil s t
  needs_whole t (c ∷ cs) e = whole_append s t (needed s t c) (needs t cs) (need_whole s t c e.0) (needs_whole t cs e.1)

  module _ (t : List ℕ) (fits : size ≤ length t) where
    -- the table of a query has as many more filled cells as there were visits
    pub query_filled : (c : C)
        → count size (λ i. filled (byte_at t i)) + visits (query position size cell_at rows F t c) ≡ count size (λ i. filled (byte_at (table (query position size cell_at rows F t c)) i))
    unfolding query
    query_filled c = fill_filled s t (needed s t c) fits

    -- a query after the cells of l were filled
    module _ (l : List C) (w : Whole s t l) (c : C) (vc : Valid c) where
      later : Extends s t (fill s t l)
      later = fill_extends s t l fits w

      pub query_verdict : verdict (query position size cell_at rows F (fill s t l) c) ≡ solution s t c
      unfolding query
      query_verdict = extension_value s t (fill s t l) later c vc

      pub query_table : table (query position size cell_at rows F (fill s t l) c) ≡ fill s t (l ++ needed s t c)
      unfolding query
      query_table = fill_fill s t l fits w (needed s (fill s t l) c) (needed s t c) (need_whole s (fill s t l) c vc).valid (λ i free. extension_need s t (fill s t l) later i free c vc)

      pub query_visits : count size (fills position t l) + visits (query position size cell_at rows F (fill s t l) c) ≡ count size (fills position t (l ++ needed s t c))
      unfolding query
      query_visits = fill_count s t l fits w (needed s (fill s t l) c) (needed s t c) (need_whole s (fill s t l) c vc).valid (λ i free. extension_need s t (fill s t l) later i free c vc)

    -- a list of queries on u after the cells of l were filled
    pub record Ran (l : List C) (cs : List C) (u : List ℕ) : Type 0 where
      pub verdicts : map verdict (queries position size cell_at rows F u cs) ≡ map (solution s t) cs
      pub sum : count size (fills position t l) + total (queries position size cell_at rows F u cs) ≡ count size (fills position t (l ++ needs t cs))
      pub end : final u (queries position size cell_at rows F u cs) ≡ fill s t (l ++ needs t cs)

    pub ran : (l : List C) → Whole s t l → (cs : List C) → Each Valid cs → Ran l cs (fill s t l)
    unfolding queries total final needs
    ran l w [] e = record { verdicts = refl; sum = rw (append-nil l) (omega arith); end = rw (append-nil l) }
    ran l w (c ∷ cs) e = go (subst (Ran (l ++ needed s t c) cs) (sym (query_table l w c e.0)) (ran (l ++ needed s t c) (whole_append s t l (needed s t c) w (need_whole s t c e.0)) cs e.1))
      where
        u : List ℕ
        u = table (query position size cell_at rows F (fill s t l) c)

        go : Ran (l ++ needed s t c) cs u → Ran l (c ∷ cs) (fill s t l)
        go r =
            record {
              verdicts = ap₂ ◌∷◌ (query_verdict l w c e.0) r.verdicts;
              sum = rw (← append_assoc l (needed s t c) (needs t cs)) (omega (arith, query_visits l w c e.0, r.sum));
              end = rw (← append_assoc l (needed s t c) (needs t cs)) r.end;
            }

    -- a list of queries on t itself
    pub ran_all : (cs : List C) → Each Valid cs → Ran [] cs t
    ran_all cs e = subst (Ran [] cs) (fill_none s t [] fits (fills_nil position t)) (ran [] (whole_nil s t) cs e)
