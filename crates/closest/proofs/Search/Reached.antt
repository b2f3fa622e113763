-- What the search begins with, and what it leaves.
use Prim.Native.Nat.{ℕ, zero, suc, ◌<◌, ◌≤◌}
use mathlib.Core.Path.{◌≡◌, refl, sym, ap, subst, ◌∙◌}
use mathlib.Core.List.{List, [], ◌∷◌, Memᴰ}
use mathlib.Core.Logic.{◌≢◌}
use native.Mathlib.Omega.{arith}
use native.Mathlib.Decide.{ℕ_discrete}
use lib.ListN.{length, get_or, set, replicate, length-map}
use lib.Seq.{get_or-set_other}
use Rattle.std.specs.Prelude.{None}
use Rattle.graph.specs.Search.{most_states}
use Rattle.graph.specs.Successors.{successors}
use Rattle.graph.specs.Internal.Searching.{unseen}
use Rattle.graph.proofs.Search.Colouring.{colourless}
use Rattle.closest.specs.Steps.{WayOf, stay, onward, Steps}
use Rattle.closest.specs.Internal.Distances.{Distances, mark_of, marks_of, Queued, StepsFound}
use Rattle.closest.proofs.Search.Marks.{marked_at, marked_one}
use Rattle.closest.proofs.Search.Marking.{MarkedBy}

-- state 0 is reached and queued
abbrev start_marks : List ℕ
start_marks = set (replicate most_states 0) 0 1

pub queued_starts : (p : List ℕ) → Queued p start_marks (0 ∷ []) 0
unfolding unseen
queued_starts p = record {
  room = refl;
  each_once = refl;
  start = refl;
  queued = λ j l. let e : j ≡ 0 = omega arith in rw e (0, refl, omega arith, stay);
  found = λ t n. (0, omega arith, sym (start_only t n));
  sorted = λ j k a b. let e : j ≡ k = omega arith in rw e (omega arith);
  near = λ l k b. let e : k ≡ 0 = omega arith in rw e (omega arith);
  passed = λ j l. absurd (omega arith);
}
  where
    start_only : (t : ℕ) → get_or start_marks t 0 ≢ 0 → t ≡ 0
    start_only t n =
        elim (ℕ_discrete t 0) [
          | yes q ↦ q
          | no q ↦ absurd (n (get_or-set_other (replicate most_states 0) 0 t 1 0 q ∙ colourless most_states t))
        ]

-- all that are queued are done
module _ {p marks queue : List ℕ} {done : ℕ} (w : Queued p marks queue done) (h : length queue ≤ done) where
  -- a way of n transitions leads to a state whose mark is at most n + 1
  way_marked : {n t : ℕ} → WayOf p n t → MarkedBy marks (suc n) t
  way_marked stay = ((λ z. omega (arith, w.start)), omega (arith, w.start))
  way_marked {n = suc n} {t} (onward {s = s} v m) =
      let o = way_marked v in
      let f = w.found s o.0 in
      let q = w.passed f.0 (omega (arith, f.1)) t (subst (λ (u : ℕ). Memᴰ t (successors p u)) (sym f.2) m) in
      (q.0, omega (arith, q.1, o.1, ap (λ (u : ℕ). get_or marks u 0) f.2))

  marked_steps : (t n : ℕ) → get_or marks t 0 ≡ suc n → Steps p t n
  marked_steps t n e = record { way = to (w.found t (λ z. omega arith)); fewest = λ m v. omega (arith, (way_marked v).1) }
    where
      to : (j : ℕ) × (j < length queue) × (get_or queue j 0 ≡ t) → WayOf p n t
      to f =
          let q = w.queued f.0 f.1 in
          let k : q.0 ≡ n = omega (arith, q.1, ap (λ (u : ℕ). get_or marks u 0) f.2) in
          subst (λ (x : ℕ). WayOf p x t) k (subst (WayOf p q.0) f.2 q.3)

  exactly : (t n : ℕ) → Steps p t n → (k : ℕ) → get_or marks t 0 ≡ k → get_or marks t 0 ≡ suc n
  exactly t n v zero e = absurd ((way_marked v.way).0 e)
  exactly t n v (suc k) e = omega (arith, (way_marked v.way).1, v.fewest k (marked_steps t k e).way)

  pub queued_marked : (t n : ℕ) → Steps p t n → get_or marks t 0 ≡ suc n
  queued_marked t n v = exactly t n v (get_or marks t 0) refl

pub queued_ends : {p queue : List ℕ} {d : Distances} {done : ℕ} → Queued p (marks_of d) queue done → length queue ≤ done → StepsFound p d
queued_ends {d = d} w h = record {
  room = sym (length-map d mark_of) ∙ w.room;
  right = λ t n e. marked_steps w h t n (marked_at d t ∙ ap mark_of e);
  all = λ t n v. marked_one (get_or d t None) n (sym (marked_at d t) ∙ queued_marked w h t n v);
}
