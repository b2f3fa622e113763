-- Where the entries of a row that are looked at are filled with their values, the row's value follows.
use mathlib.Core.Bool.{Bool, true, false, not}
use mathlib.Core.List.Memᴰ
use mathlib.Core.List.{List, [], ◌∷◌}
use mathlib.Core.Path.{◌≡◌, refl, sym, ap, subst, ◌∙◌}
use Prim.Native.Nat.{ℕ}
use Rattle.rows.specs.Rows.{Connective, Row, deciding, decides, joined, LookedAt, now, later}
use Rattle.rows.specs.Tables.{byte_of}
use Rattle.rows.specs.FollowsFrom.{FilledWith, FollowsFrom, by_one, by_all}
use Rattle.rows.proofs.Systems.Members.{each_at, all_each}
use Rattle.rows.proofs.Solver.Walks.{beq_true, joined_decided, joined_on}
use Rattle.rows.proofs.Follows.Follows.{beq_false}

module _ {C : Type 0} (position : C → ℕ) (t : List ℕ) (k : Connective) (v : C → Bool) where
  abbrev row : List C → Row C
  row l = record { connective = k; entries = l }

  abbrev Other : C → Type 0
  Other = FilledWith position t (not (deciding k))

  follows_on : (x : C) (l : List C) (b : Bool) → Other x → FollowsFrom position t (row l) b → FollowsFrom position t (row (x ∷ l)) b
  follows_on x l b h (by_one d m g e) = by_one d (Memᴰ.tail m) g e
  follows_on x l b h (by_all g e) = by_all (each_at Other (x ∷ l) (h, all_each Other l g)) e

  looked_follows : (l : List C) → ((d : C) → LookedAt k v d l → FilledWith position t (v d) d) → FollowsFrom position t (row l) (joined k v l)
  unfolding joined
  looked_follows [] h = by_all (each_at Other [] tt) refl
  looked_follows (x ∷ l) h = go (decides k (v x)) refl (looked_follows l)
    where
      go : (b : Bool) → decides k (v x) ≡ b → (((d : C) → LookedAt k v d l → FilledWith position t (v d) d) → FollowsFrom position t (row l) (joined k v l))
          → FollowsFrom position t (row (x ∷ l)) (joined k v (x ∷ l))
      go true q rest =
          let e = beq_true (v x) (deciding k) q in
          by_one x (Memᴰ.head refl) (h x now ∙ ap byte_of e) (joined_decided k v x l q ∙ e)
      go false q rest =
          subst (FollowsFrom position t (row (x ∷ l))) (sym (joined_on k v x l q))
          (follows_on x l (joined k v l) (h x now ∙ ap byte_of (beq_false (v x) (deciding k) q)) (rest (λ d m. h d (later q m))))

-- the same of a cell that has its row's value
pub follows_complete : {C : Type 0} (position : C → ℕ) (t : List ℕ) (rows : C → Row C) (v : C → Bool) (c : C) → v c ≡ joined (rows c).connective v (rows c).entries
    → ((d : C) → LookedAt (rows c).connective v d (rows c).entries → FilledWith position t (v d) d) → FollowsFrom position t (rows c) (v c)
follows_complete position t rows v c e h = subst (FollowsFrom position t (rows c)) (sym e) (looked_follows position t (rows c).connective v (rows c).entries h)
