-- The marks and the places of queued states.
use Prim.Native.Nat.{ℕ, suc, ◌<◌, ◌≤◌}
use mathlib.Core.Path.{◌≡◌, refl, sym, ap, ◌∙◌}
use mathlib.Core.List.{List}
use mathlib.Core.Logic.{◌≢◌}
use native.Mathlib.Omega.{arith}
use lib.ListN.{length, get_or, get_or-map}
use Rattle.std.specs.Prelude.{Option, None, Some, IsSome}
use Rattle.std.proofs.lemmas.Option.{get_or_from_slice_get, slice_get_within}
use Rattle.sheet.specs.Plan.{state_count}
use Rattle.sheet.specs.WellFormed.{WellFormedPlan}
use Rattle.graph.specs.Search.{most_states}
use Rattle.closest.specs.Internal.Distances.{Distances, mark_of, marks_of, Queued, ReachRequires}
use Rattle.closest.proofs.Ways.Within.{way_below}

-- a mark is one more than the steps
pub marked_at : (d : Distances) (t : ℕ) → get_or (marks_of d) t 0 ≡ mark_of (get_or d t None)
marked_at d t = get_or-map mark_of d t None

pub marked_one : (o : Option ℕ) (n : ℕ) → mark_of o ≡ suc n → o ≡ Some n
marked_one None n e = absurd (omega arith)
marked_one (Some m) n e = ap (λ (k : ℕ). Some k) (omega arith)

module _ {p marks queue : List ℕ} {done : ℕ} (w : Queued p marks queue done) where
  pub few_queued : length queue ≤ most_states
  few_queued = omega (arith, w.each_once)

  module _ (j : ℕ) (h : j < length queue) where
    pub queued_marked : get_or marks (get_or queue j 0) 0 ≢ 0
    queued_marked z = omega (arith, (w.queued j h).1)

    pub queued_low : get_or marks (get_or queue j 0) 0 ≤ most_states
    queued_low = let q = w.queued j h in omega (arith, q.1, q.2, few_queued)

    pub queued_below : WellFormedPlan p → get_or queue j 0 < state_count p
    queued_below kept = way_below p kept (w.queued j h).3

-- the next state
pub next_below : {p firsts marks queue : List ℕ} {done state : ℕ} → ReachRequires p firsts marks queue done state → state < state_count p
next_below {queue = queue} {done = done} {state = state} g =
    omega (arith, get_or_from_slice_get queue done state 0 g.is_next, queued_below g.so_far done (slice_get_within queue done state g.is_next) g.kept)

module _ {p firsts queue : List ℕ} (d : Distances) {done state : ℕ} (g : ReachRequires p firsts (marks_of d) queue done state) where
  same_mark : get_or (marks_of d) (get_or queue done 0) 0 ≡ mark_of (get_or d state None)
  same_mark = ap (λ (u : ℕ). get_or (marks_of d) u 0) (get_or_from_slice_get queue done state 0 g.is_next) ∙ marked_at d state

  pub next_reached : IsSome (get_or d state None)
  next_reached =
      let q = g.so_far.queued done (slice_get_within queue done state g.is_next) in
      rw (marked_one (get_or d state None) q.0 (sym same_mark ∙ q.1)) refl

  pub next_low : (n : ℕ) → get_or d state None ≡ Some n → n < most_states
  next_low n e = omega (arith, same_mark, ap mark_of e, queued_low g.so_far done (slice_get_within queue done state g.is_next))
