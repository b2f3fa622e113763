-- Where every filled cell follows from filled cells of its row, each has the rows' solution.
use mathlib.Core.Bool.{Bool, true, false, not, beq, not-eq-not}
use mathlib.Core.List.{List, [], ◌∷◌, Memᴰ}
use mathlib.Core.Path.{◌≡◌, refl, sym, ap, ◌∙◌}
use Prim.Native.Nat.{ℕ, zero, suc, ◌<◌}
use native.Mathlib.Omega.{arith}
use lib.Dec.{eqb}
use borrow.Author.Tests.{eqb-true}
use Rattle.rows.specs.Rows.{Connective, Row, deciding, decides, joined, Solution}
use Rattle.rows.specs.Tables.{byte_at, filled, known, byte_of}
use Rattle.rows.specs.FollowsFrom.{FilledWith, FollowsFrom, by_one, by_all}
use Rattle.rows.proofs.Systems.Systems.{Each, Falling}
use Rattle.rows.proofs.Systems.Members.{each_at, all_each}
use Rattle.rows.proofs.Systems.Changed.{known_byte, filled_byte}
use Rattle.rows.proofs.Tables.Among.{or_cases}
use Rattle.rows.proofs.Solver.Walks.{beq_true, joined_decided, joined_on}
use Rattle.rows.proofs.Follows.Follows.{beq_false}

-- a filled byte is that of the value it holds
pub filled_known : (b : ℕ) → filled b ≡ true → b ≡ byte_of (known b)
filled_known b h = or_cases (eqb b 1) (eqb b 2) h (λ q. holding (eqb-true b 1 q) false refl) (λ q. holding (eqb-true b 2 q) true refl)
  where
    holding : {n : ℕ} → b ≡ n → (v : Bool) → n ≡ byte_of v → b ≡ byte_of (known b)
    holding q v e = q ∙ e ∙ ap byte_of (sym (ap known (q ∙ e) ∙ known_byte v))

beq_not : (b : Bool) → beq (not b) b ≡ false
beq_not true = refl
beq_not false = refl

module _ {C : Type 0} (k : Connective) (v : C → Bool) where
  joined_step : (x : C) (l : List C) → (decides k (v x) ≡ false → joined k v l ≡ deciding k) → joined k v (x ∷ l) ≡ deciding k
  joined_step x l rest = go (decides k (v x)) refl
    where
      go : (b : Bool) → decides k (v x) ≡ b → joined k v (x ∷ l) ≡ deciding k
      go true q = joined_decided k v x l q ∙ beq_true (v x) (deciding k) q
      go false q = joined_on k v x l q ∙ rest q

  -- an entry that decides is the row's value, wherever it stands
  joined_one : {d : C} {l : List C} → Memᴰ d l → v d ≡ deciding k → joined k v l ≡ deciding k
  joined_one (Memᴰ.head {x = x} {xs = l} e) q =
      joined_step x l (λ p. absurd (not-eq-not.1 (ap v (sym e) ∙ q) (beq_false (v x) (deciding k) p)))
  joined_one (Memᴰ.tail {x = x} {xs = l} m) q = joined_step x l (λ p. joined_one m q)

  joined_none : (l : List C) → Each (λ d. v d ≡ not (deciding k)) l → joined k v l ≡ not (deciding k)
  unfolding joined
  joined_none [] e = refl
  joined_none (x ∷ l) e = joined_on k v x l (ap (decides k) e.0 ∙ beq_not (deciding k)) ∙ joined_none l e.1

module _ {C : Type 0} (position : C → ℕ) (t : List ℕ) where
  -- what follows from entries that hold their values is what these join to
  followed : (row : Row C) (v : C → Bool) (b : Bool) → ((d : C) → Memᴰ d row.entries → (w : Bool) → FilledWith position t w d → v d ≡ w)
      → FollowsFrom position t row b → b ≡ joined row.connective v row.entries
  followed row v b solved (by_one d m h e) = e ∙ sym (joined_one row.connective v m (solved d m (deciding row.connective) h))
  followed row v b solved (by_all h e) =
      e ∙ sym (joined_none row.connective v row.entries
      (all_each (λ d. v d ≡ not (deciding row.connective)) row.entries (λ d m. solved d m (not (deciding row.connective)) (h d m))))

-- "A yes must mean that every filled cell is the rows' solution"
module _ {C : Type 0} {position : C → ℕ} {rows : C → Row C} {Valid : C → Type 0} {rank : C → ℕ} (fall : Falling rows Valid rank) (v : C → Bool) (solves : Solution rows Valid v) (t : List ℕ)
    (all-follow : (c : C) → Valid c → filled (byte_at t (position c)) ≡ true → FollowsFrom position t (rows c) (known (byte_at t (position c)))) where
  pub follows_sound : (c : C) → Valid c → filled (byte_at t (position c)) ≡ true → byte_at t (position c) ≡ byte_of (v c)
  follows_sound c vc f = go (suc (rank c)) c vc (omega arith) f
    where
      go : (b : ℕ) (c : C) → Valid c → rank c < b → filled (byte_at t (position c)) ≡ true → byte_at t (position c) ≡ byte_of (v c)
      go zero c vc h f = absurd (omega arith)
      go (suc b) c vc h f =
          filled_known (byte_at t (position c)) f
          ∙ ap byte_of (followed position t (rows c) v (known (byte_at t (position c))) (λ d m. solved d (each_at _ (rows c).entries (fall.falls c vc) d m) (go b d)) (all-follow c vc f) ∙ sym (solves.row c vc))
        where
          solved : (d : C) → Valid d × (rank d < rank c) → (Valid d → rank d < b → filled (byte_at t (position d)) ≡ true → byte_at t (position d) ≡ byte_of (v d))
              → (w : Bool) → FilledWith position t w d → v d ≡ w
          solved d q rest w e =
              sym (known_byte (v d)) ∙ ap known (sym (rest q.0 (omega (arith, q.1)) (ap filled e ∙ filled_byte w)) ∙ e) ∙ known_byte w
