-- What the program finds: a refusal of the reader, or a state with its step count, and then a way of so many steps is written.
use Prim.Native.Nat.{ℕ, ◌*◌, ◌<◌, ◌≤◌}
use mathlib.Core.Path.{◌≡◌, refl, sym, ap, subst, ◌∙◌}
use mathlib.Core.Bool.{Bool, true, false, true≢false}
use mathlib.Core.List.{List}
use native.Mathlib.Omega.{arith}
use lib.ListN.{length}
use Rattle.sheet.specs.Contents.{plan_body}
use Rattle.sheet.specs.Plan.{state_count}
use Rattle.sheet.specs.Reading.{sheet_check}
use Rattle.std.specs.Prelude.{Ok, Err}
use Rattle.sheet.specs.Refusals.{Check}
use Rattle.sheet.specs.declared.Refusal.{Refusal}
use Rattle.sheet.specs.declared.State.{State}
use Rattle.sheet.proofs.Acceptance.Parts.{plan_kept}
use Rattle.graph.specs.Search.{most_states}
use Rattle.rows.specs.Tables.{visits as visits_of}
use Rattle.judge.specs.Querying.{query_check, count_right}
use Rattle.judge.specs.Clearing.{Cleared, clear_check, cleared_of, table_cleared}
use Rattle.judge.specs.declared.QueryError.TheVariants.{Refused}
use Rattle.judge.specs.InTurn.{holds_by}
use Rattle.closest.specs.Finding.{ClosestAnswer, Found, everywhere, fails_at, answer_closest, closest_of, searched, closest_found, reported_closest}
use Rattle.closest.specs.Steps.{Steps}
use Rattle.closest.specs.Tracing.{Traced, Traces}
use Rattle.closest.proofs.Ways.Order.{Says, says}
use Rattle.closest.proofs.Ways.Within.{steps_at, way_below}
use Rattle.closest.proofs.Traces.Backwards.{written}
use Rattle.closest.proofs.Traces.Traces.{traces_way}
use Rattle.closest_state.specs.Program.{own_table, answer_after, program_of}
use Rattle.closest_state.specs.ProgramCorrect.{fails_after}

pub program_refuses : (s : List ℕ) (x : Refusal) → sheet_check s ≡ Err x → program_of s ≡ Err (Refused x)
unfolding program_of cleared_of clear_check
program_refuses s x e = rw e refl

-- an answer that finds no state is not one that does
not_found : {state : State} {n visits : ℕ} {r : ClosestAnswer} → fails_after state n visits ≡ r → (reported_closest r).found ≡ false → ⊥
not_found h e = true≢false (ap (λ (r : ClosestAnswer). (reported_closest r).found) h ∙ e)

module _ (s : List ℕ) {state : State} {n visits : ℕ} where
  counted_by : (v : ℕ → Bool) (f : Found) → Says (plan_body s) v f → (k : ℕ) (c : Check) (b : Bool) → fails_after state n visits ≡ answer_closest f k c b
      → Steps (plan_body s) state.0 n
  counted_by v f g k (Err x) b h = absurd (not_found h refl)
  counted_by v f g k (Ok tt) false h = absurd (not_found h refl)
  counted_by v everywhere g k (Ok tt) true h = absurd (not_found h refl)
  counted_by v (fails_at x) g k (Ok tt) true h =
      subst (λ (t : ℕ). Steps (plan_body s) t n) (sym (ap (λ (r : ClosestAnswer). (reported_closest r).state) h))
      (subst (Steps (plan_body s) x.state) (sym (ap (λ (r : ClosestAnswer). (reported_closest r).steps) h)) g.0)

  -- of a state that the program finds
  module _ (h : fails_after state n visits ≡ program_of s) where
    pub found_accepted : sheet_check s ≡ Ok tt
    found_accepted = go (sheet_check s) refl
      where
        go : (c : Check) → sheet_check s ≡ c → sheet_check s ≡ Ok tt
        go (Ok tt) e = e
        go (Err x) e = absurd (not_found (h ∙ program_refuses s x e) refl)

    counted_on : (u : List ℕ) → fails_after state n visits ≡ closest_of s u → Steps (plan_body s) state.0 n
    unfolding closest_of
    counted_on u g = counted_by (holds_by s u) (closest_found s u) (says (plan_body s) (plan_kept s found_accepted) (holds_by s u))
        (visits_of (searched s u)) (query_check s 0 u) (count_right s u) g

    pub found_counted : Steps (plan_body s) state.0 n
    unfolding program_of
    found_counted = go (cleared_of s own_table) h
      where
        go : (r : Cleared) → fails_after state n visits ≡ answer_after (closest_of s (table_cleared s own_table)) r → Steps (plan_body s) state.0 n
        go (Ok tt) g = counted_on (table_cleared s own_table) g
        go (Err x) g = absurd (not_found g refl)

    pub found_near : n ≤ most_states
    found_near = omega (arith, (steps_at (plan_body s) (plan_kept s found_accepted) state.0 n found_counted).0, (plan_kept s found_accepted).few_states)

    -- the state is one of the plan's
    state_below : state.0 < state_count (plan_body s)
    state_below = way_below (plan_body s) (plan_kept s found_accepted) found_counted.way

    -- what a call of shortest_way leaves
    pub way_left : (out : List ℕ) {r : Traced} {after : List ℕ} → Traces s state.0 out r after → 3 * n ≤ length out
        → after ≡ written (plan_body s) n state.0 out
    way_left out t l =
        t.1.1 ∙ sym (traces_way s state.0 found_accepted state_below n found_counted out l refl).1.1
