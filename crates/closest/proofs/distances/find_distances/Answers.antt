use native.Mathlib.Omega.{arith}
use native.Mathlib.Decide.{dec_lt}
use Prim.Native.Nat.{ℕ, ◌≤◌}
use mathlib.Core.List.{List}
use lib.ListN.{length, get_or}
use Rattle.std.specs.Prelude.{None, slice_get}
use mathlib.Core.Path.{◌≡◌, sym, ◌∙◌}
use Rattle.std.proofs.lemmas.Option.{slice_get_within, slice_get-get_or, none-some}
use Rattle.closest.proofs.Search.Marks.{few_queued}
use Rattle.closest.proofs.Search.Reached.{queued_starts, queued_ends}
use Rattle.closest.proofs.distances.find_distances.Goals as goal

slice_get_none : (l : List ℕ) (k : ℕ) → slice_get l k ≡ None → length l ≤ k
slice_get_none l k e = elim (dec_lt k (length l)) [
  | yes h ↦ absurd (none-some (get_or l k 0) (sym e ∙ slice_get-get_or l k 0 h))
  | no h ↦ omega arith
]

pub reach_successors-requires : goal.reach_successors-requires
reach_successors-requires c = record {
  kept = c.requires;
  firsts_right = c.find_firsts-firsts.ensures;
  so_far = c.loop-state.invariant;
  is_next = sym c.get.ensures ∙ c.in-Some.is;
}

pub loop-state-init : goal.loop-state-init
loop-state-init c = rw (c.start-search.ensures.0, c.start-search.ensures.1.0, c.start-search.ensures.1.1) (queued_starts c.args.plan.now)

pub overflow_add-search : goal.overflow_add-search
overflow_add-search c = omega (arith, c.reach_successors.ensures.done, few_queued c.loop-state.invariant, slice_get_within c.loop-state.search.queue _ c.in-Some.state (sym c.get.ensures ∙ c.in-Some.is))

pub loop-state-smaller : goal.loop-state-smaller
loop-state-smaller c = omega (arith, c.reach_successors.ensures.done, few_queued c.loop-state.invariant, slice_get_within c.loop-state.search.queue _ c.in-Some.state (sym c.get.ensures ∙ c.in-Some.is))

pub loop-state-preserved : goal.loop-state-preserved
loop-state-preserved c = c.reach_successors.ensures.reached

pub returns : goal.returns
returns c = queued_ends c.loop-state.invariant (slice_get_none c.loop-state.search.queue c.loop-state.search.done (sym c.get.ensures ∙ c.in_default.is))
