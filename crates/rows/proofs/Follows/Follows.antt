-- The test of a value that follows from filled cells of a row, as computed, passes exactly where the sentence holds.
use mathlib.Core.Bool.{Bool, true, false, not, beq, true≢false, and-eq-true_iff, not-eq-not}
use mathlib.Core.List.{List, [], ◌∷◌, Memᴰ}
use mathlib.Core.Logic.{◌↔◌}
use mathlib.Core.Path.{◌≡◌, refl, sym, ap, ◌∙◌}
use Prim.Native.Nat.{ℕ}
use borrow.Author.Tests.{eqb-true, eq-eqb}
use Rattle.rows.specs.Rows.{Row, deciding, decides}
use Rattle.rows.specs.Tables.{byte_at, byte_of}
use Rattle.rows.specs.FollowsFrom.{FilledWith, FollowsFrom, by_one, by_all, filled_with, some_filled_with, all_filled_with, follows_from, FollowsExactly}
use Rattle.rows.proofs.Systems.Systems.{Each}
use Rattle.rows.proofs.Systems.Members.{each_at, all_each}
use Rattle.rows.proofs.Tables.Among.{or_cases, or_left, or_right}
use Rattle.rows.proofs.Solver.Walks.{beq_true}

pub beq_false : (a b : Bool) → beq a b ≡ false → a ≡ not b
beq_false true true e = absurd (true≢false e)
beq_false true false e = refl
beq_false false true e = refl
beq_false false false e = absurd (true≢false e)

module _ {C : Type 0} (position : C → ℕ) (t : List ℕ) where
  some_found : (v : Bool) (l : List C) → some_filled_with position t v l ≡ true → (d : C) × Memᴰ d l × FilledWith position t v d
  unfolding some_filled_with
  some_found v [] h = absurd (true≢false (sym h))
  some_found v (x ∷ l) h = or_cases (filled_with position t v x) (some_filled_with position t v l) h
      (λ q. (x, Memᴰ.head refl, eqb-true (byte_at t (position x)) (byte_of v) q))
      (λ q. let r = some_found v l q in (r.0, Memᴰ.tail r.1, r.2))

  found_some : (v : Bool) {d : C} {l : List C} → Memᴰ d l → FilledWith position t v d → some_filled_with position t v l ≡ true
  unfolding some_filled_with
  found_some v (Memᴰ.head {x = x} {xs = l} e) h =
      or_left (filled_with position t v x) (some_filled_with position t v l) (eq-eqb (byte_at t (position x)) (byte_of v) (ap (λ (c : C). byte_at t (position c)) (sym e) ∙ h))
  found_some v (Memᴰ.tail {x = x} {xs = l} m) h = or_right (filled_with position t v x) (some_filled_with position t v l) (found_some v m h)

  all_each_hold : (v : Bool) (l : List C) → (all_filled_with position t v l ≡ true) ↔ Each (FilledWith position t v) l
  unfolding all_filled_with
  all_each_hold v [] = (λ h. tt, λ e. refl)
  all_each_hold v (x ∷ l) =
      let both = and-eq-true_iff (filled_with position t v x) (all_filled_with position t v l) in
      let rest = all_each_hold v l in (
        λ h. (eqb-true (byte_at t (position x)) (byte_of v) (both.0 h).0, rest.0 (both.0 h).1),
        λ e. both.1 (eq-eqb (byte_at t (position x)) (byte_of v) e.0, rest.1 e.1),
      )

  exactly : (row : Row C) (v : Bool) → (follows_from position t row v ≡ true) ↔ FollowsFrom position t row v
  exactly row v = go (decides row.connective v) refl
    where
      k : Bool
      k = deciding row.connective

      decided : v ≡ k → FollowsFrom position t row v → some_filled_with position t v row.entries ≡ true
      decided q (by_one d m h e) = found_some v m (h ∙ ap byte_of (sym e))
      decided q (by_all h e) = absurd (not-eq-not.1 q e)

      undecided : v ≡ not k → FollowsFrom position t row v → all_filled_with position t v row.entries ≡ true
      undecided q (by_one d m h e) = absurd (not-eq-not.1 e q)
      undecided q (by_all h e) = (all_each_hold v row.entries).1 (all_each (FilledWith position t v) row.entries (λ d m. h d m ∙ ap byte_of (sym e)))

      go : (b : Bool) → decides row.connective v ≡ b
          → (elim b as (λ b. Bool) [ true ↦ some_filled_with position t v row.entries | false ↦ all_filled_with position t v row.entries ] ≡ true) ↔ FollowsFrom position t row v
      go true q =
          let e = beq_true v k q in
          (λ h. let d = some_found v row.entries h in by_one d.0 d.1 (d.2 ∙ ap byte_of e) e, decided e)
      go false q =
          let e = beq_false v k q in
          (λ h. by_all (λ d m. each_at (FilledWith position t v) row.entries ((all_each_hold v row.entries).0 h) d m ∙ ap byte_of e) e, undecided e)

pub follows_exactly : FollowsExactly
follows_exactly C position t row v = exactly position t row v
