-- Where the transitions of each state begin, found in one pass over states and transitions together.
use Prim.Native.Nat.{ℕ, ◌+◌, ◌<◌, ◌≤◌}
use mathlib.Core.Path.{◌≡◌, ◌∙◌}
use mathlib.Core.List.{List}
use native.Mathlib.Omega.{arith}
use lib.ListN.{length, get_or, set, length-set}
use lib.Seq.{get_or-set_same, get_or-set_other}
use borrow.Author.Count.{below_none, below_more}
use Rattle.sheet.specs.Plan.{transition_count, origin}
use Rattle.sheet.specs.WellFormed.{WellFormedPlan}
use Rattle.graph.specs.Explored.{first_from}
use Rattle.graph.specs.Search.{most_states}
use Rattle.graph.proofs.Search.Outgoing.{origin_order, first_parts_lem}
use Rattle.closest.specs.Internal.Distances.{FirstsRight}

-- the transitions before i leave states before s, and the entries before s are right
pub record FirstsPut (p firsts : List ℕ) (i s : ℕ) : Type 0 where
  pub room : length firsts ≡ most_states + 1
  pub within : i ≤ transition_count p
  pub passed : (k : ℕ) → k < i → origin p k < s
  pub put : (u : ℕ) → u < s → get_or firsts u 0 ≡ first_from p u

pub firsts_start : (p firsts : List ℕ) → length firsts ≡ most_states + 1 → FirstsPut p firsts 0 0
firsts_start p firsts e = record { room = e; within = omega arith; passed = below_none _; put = below_none _ }

module _ {p firsts : List ℕ} {i s : ℕ} (w : FirstsPut p firsts i s) where
  -- transition i leaves a state before s
  pub firsts_pass : i < transition_count p → origin p i < s → FirstsPut p firsts (i + 1) s
  firsts_pass h e = record { room = w.room; within = omega arith; passed = below_more _ i w.passed e; put = w.put }

  -- no transition from i on does
  pub firsts_store : WellFormedPlan p → s ≤ most_states → (i < transition_count p → s ≤ origin p i) → FirstsPut p (set firsts s i) i (s + 1)
  firsts_store kept h from = record {
    room = length-set firsts s i ∙ w.room;
    within = w.within;
    passed = λ k l. omega (arith, w.passed k l);
    put =
        below_more _ s (λ u l. get_or-set_other firsts s u i 0 (λ q. omega arith) ∙ w.put u l)
        (get_or-set_same firsts s i 0 (omega (arith, w.room)) ∙
        first_parts_lem p kept s i w.within w.passed (λ j a b. omega (arith, from (omega arith), origin_order p kept i j a b)));
  }

  pub firsts_end : most_states < s → FirstsRight p firsts
  firsts_end h = record { room = w.room; first = λ u l. w.put u (omega arith) }
