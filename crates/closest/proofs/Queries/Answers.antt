-- The answer of the call and the table that it leaves, by queries of the reachable states in turn.
use Prim.Native.Nat.{ℕ, suc, ◌<◌}
use mathlib.Core.Path.{◌≡◌, refl, sym, ap, ap₂, ◌∙◌}
use mathlib.Core.Bool.{Bool, true, false, ◌&&◌}
use mathlib.Core.List.{List, [], ◌∷◌, ◌++◌}
use native.Mathlib.Omega.{arith}
use lib.Dec.{ltb}
use lib.ListN.{length, get_or}
use borrow.Author.Tests.{lt-ltb}
use Rattle.std.specs.Prelude.{Option, Some, Ok, Err, All}
use Rattle.std.specs.Option.{option_map, option_and_then}
use Rattle.std.proofs.lemmas.List.Elements.{All-nil, All-cons}
use Rattle.std.proofs.lemmas.Option.{slice_get_past, slice_get-get_or}
use Rattle.sheet.specs.Bytes.{pick}
use Rattle.sheet.specs.Contents.{plan_body}
use Rattle.sheet.specs.Plan.{state_count}
use Rattle.sheet.specs.Reading.{sheet_check}
use Rattle.sheet.specs.WellFormed.{WellFormedPlan}
use Rattle.sheet.specs.Refusals.{Check}
use Rattle.sheet.specs.declared.Refusal.{Refusal}
use Rattle.sheet.proofs.Acceptance.Parts.{bodies_kept}
use Rattle.closest.specs.declared.Failing.{Failing}
use Rattle.graph.specs.Search.{most_states}
use Rattle.graph.specs.LoopTest.{all_pass, settled, loop_free}
use Rattle.graph.specs.Successors.{successors}
use Rattle.graph.proofs.Looptest.Height.{successor_settled}
use Rattle.rows.specs.Tables.{visits}
use Rattle.rows.proofs.Systems.Systems.{Each}
use Rattle.rows.proofs.Systems.Fuel.{each_map}
use Rattle.judge.specs.Querying.{query_check, count_right, left_by}
use Rattle.judge.specs.InTurn.{in_turn_check, holds_by, passed_before, answer_in_turn, in_turn_of, table_in_turn, QueriesInTurn}
use Rattle.judge.proofs.Lists.SheetLists.{Takes, Fine, query_passes, count_passes}
use Rattle.judge.specs.InTurn.{InTurn}
use Rattle.judge.specs.declared.JudgedInTurn.{JudgedInTurn}
use Rattle.judge.specs.declared.QueryError.{QueryError}
use Rattle.judge.specs.declared.QueryError.TheVariants.{WrongCount, Refused}
use Rattle.closest.specs.Steps.{WayOf, stay, onward, Reached, reached_at, layers_from, reachable_states}
use Rattle.closest.specs.Finding.{Found, everywhere, fails_at, states_of, first_failing, states_in_order, closest_found, searched, ClosestAnswer, first_of, answer_found, answer_closest, closest_of, table_searched, reported_closest, Finds}
use Rattle.closest.specs.Internal.Distances.{Distances, StepsFound}
use Rattle.closest.specs.Internal.Answering.{with_its_steps, failing_at}
use Rattle.closest.proofs.Ways.Within.{way_below}
use Rattle.closest.proofs.Ways.Order.{Led, order_each, Says, says}
use Rattle.closest.proofs.Ways.Later.{layer_zero}

-- ---- the first that fails, by how many pass before it

-- the one after those that pass
pub record NextFails (l : List Reached) (k : ℕ) (x : Reached) : Type 0 where
  pub below : k < length (states_of l)
  pub state-is : get_or (states_of l) k 0 ≡ x.state

abbrev PassedBy : (ℕ → Bool) → List Reached → Found → Type 0
PassedBy v l everywhere = passed_before v (states_of l) ≡ length (states_of l)
PassedBy v l (fails_at x) = NextFails l (passed_before v (states_of l)) x

passed_by : (v : ℕ → Bool) (l : List Reached) → PassedBy v l (first_failing v l)
unfolding first_failing passed_before
passed_by v [] = refl
passed_by v (y ∷ l) = go (v y.state) refl (first_failing v l) (passed_by v l)
  where
    go : (b : Bool) → v y.state ≡ b → (f : Found) → PassedBy v l f → PassedBy v (y ∷ l) (pick b f (fails_at y))
    go true e everywhere h = rw e (ap suc h)
    go true e (fails_at x) h = record { below = rw e (omega (arith, h.below)); state-is = rw e h.state-is }
    go false e f h = record { below = rw e (omega arith); state-is = rw e refl }

all_states : (q : ℕ → Bool) (l : List Reached) → Each (λ x. q x.state ≡ true) l → all_pass q (states_of l) ≡ true
unfolding all_pass
all_states q [] e = refl
all_states q (x ∷ l) e = ap₂ ◌&&◌ e.0 (all_states q l e.1)

-- the reader's refusal
pub finds_unread : (s t : List ℕ) {x : Refusal} → sheet_check s ≡ Err x → Finds s t (Err (Refused x)) t
unfolding closest_of table_searched query_check
finds_unread s t {x} e =
    let same : Err (Refused x) ≡ closest_of s t = sym (rw e refl) in
    (same, (ap reported_closest same, sym (rw e refl)))

module _ (s : List ℕ) (accepted : sheet_check s ≡ Ok tt) where
  abbrev p : List ℕ
  p = plan_body s

  well_formed : WellFormedPlan p
  well_formed = (bodies_kept s accepted).plan_kept

  -- state 0, and then those of one step or more
  pub first_is_0 : reachable_states p ≡ reached_at 0 0 ∷ layers_from p (state_count p) 1
  unfolding layers_from
  first_is_0 = ap (λ (l : List Reached). l ++ layers_from p (state_count p) 1) (layer_zero p well_formed)

  -- where no loop can be reached from state 0, none can be from a reachable state
  way_settled : loop_free p 0 ≡ true → {n t : ℕ} → WayOf p n t → settled (successors p) (state_count p) t ≡ true
  way_settled free stay = free
  way_settled free (onward {s = u} {t = t} w m) = successor_settled (successors p) (state_count p) u t (way_settled free w) m

  pub way_taken : loop_free p 0 ≡ true → {n t : ℕ} → WayOf p n t → (ltb t (state_count p) && loop_free p t) ≡ true
  way_taken free w = ap₂ ◌&&◌ (lt-ltb _ _ (way_below p well_formed w)) (way_settled free w)

  abbrev each_led : Each (Led p) (reachable_states p)
  each_led = order_each p (suc (state_count p)) 0

  all_there : all_pass (λ state. ltb state (state_count p)) (states_in_order s) ≡ true
  all_there = all_states (λ state. ltb state (state_count p)) (reachable_states p) (each_map (λ x (w : Led p x). lt-ltb x.state (state_count p) (way_below p well_formed w)) (reachable_states p) each_led)

  same_free : all_pass (λ state. loop_free p state) (states_in_order s) ≡ loop_free p 0
  unfolding all_pass
  same_free = go (loop_free p 0) refl
    where
      go : (b : Bool) → loop_free p 0 ≡ b → all_pass (λ state. loop_free p state) (states_in_order s) ≡ loop_free p 0
      go true e = all_states (λ state. loop_free p state) (reachable_states p) (each_map (λ x (w : Led p x). way_settled e w) (reachable_states p) each_led) ∙ sym e
      go false e = ap (λ (l : List Reached). all_pass (λ state. loop_free p state) (states_of l)) first_is_0 ∙ rw e refl

  -- "Refusals go as for a query of state 0"
  pub same_check : (t : List ℕ) → in_turn_check s (states_in_order s) t ≡ query_check s 0 t
  unfolding in_turn_check query_check
  same_check t = rw (all_there, lt-ltb 0 (state_count p) well_formed.some_states, same_free)

  -- of a table that is not refused
  pub closest-is : Takes s accepted 0 → (t : List ℕ) → Fine s accepted t → closest_of s t ≡ answer_found (closest_found s t) (visits (searched s t))
  unfolding closest_of
  closest-is first t fine = ap₂ (answer_closest (closest_found s t) (visits (searched s t))) (query_passes s accepted t fine 0 first) (count_passes s accepted t fine)

  -- ---- the answer

  module _ (t : List ℕ) where
    abbrev passed : ℕ
    passed = passed_before (holds_by s t) (states_in_order s)

    pub answer_is : closest_of s t ≡ answer_closest (closest_found s t) (visits (searched s t)) (in_turn_check s (states_in_order s) t) (count_right s t)
    unfolding closest_of
    answer_is = ap (λ (c : Check). answer_closest (closest_found s t) (visits (searched s t)) c (count_right s t)) (sym (same_check t))

    same_table : table_in_turn s (states_in_order s) t ≡ table_searched s t
    unfolding table_in_turn table_searched
    same_table = ap (λ (c : Check). left_by s (searched s t) t c (count_right s t)) (same_check t)

    module _ {d : Distances} (known : StepsFound p d) where
      -- the state behind those that pass is the one where the rule fails first
      by_found : (f : Found) → PassedBy (holds_by s t) (reachable_states p) f → Says p (holds_by s t) f
          → failing_at (states_in_order s) d passed ≡ first_of f
      by_found everywhere h w = ap (option_and_then (with_its_steps d)) (slice_get_past (states_in_order s) passed (omega arith))
      by_found (fails_at x) h w =
          ap (option_and_then (with_its_steps d)) (slice_get-get_or (states_in_order s) passed 0 h.below ∙ ap (λ (k : ℕ). Some k) h.state-is)
          ∙ ap (option_map (λ n. record { state = record { 0 = x.state }; steps = n })) (known.all x.state x.steps w.0)

      pub right : failing_at (states_in_order s) d passed ≡ first_of (closest_found s t)
      right = by_found (closest_found s t) (passed_by (holds_by s t) (reachable_states p)) (says p well_formed (holds_by s t))

    -- by the answer of queries in turn
    module _ {q : InTurn} {u : List ℕ} (called : QueriesInTurn s (states_in_order s) t q u) where
      finds : {r : ClosestAnswer} → r ≡ closest_of s t → Finds s t r u
      finds e = (e, (ap reported_closest e, called.1.1 ∙ same_table))

      pub finds_refused : {x : QueryError} → q ≡ Err x → Finds s t (Err x) u
      unfolding in_turn_of
      finds_refused {x} e = go (in_turn_check s (states_in_order s) t) (count_right s t) refl refl (sym e ∙ called.0)
        where
          go : (c : Check) (b : Bool) → in_turn_check s (states_in_order s) t ≡ c → count_right s t ≡ b → Err x ≡ answer_in_turn passed (visits (searched s t)) c b → Finds s t (Err x) u
          go (Ok tt) true f g h = let z : ◌≡◌ {A = ℕ} 0 1 = cc in absurd (omega arith)
          go (Ok tt) false f g h = let same : x ≡ WrongCount = cc in finds (ap (λ (k : QueryError). Err k) same ∙ sym (answer_is ∙ ap₂ (answer_closest (closest_found s t) (visits (searched s t))) f g))
          go (Err y) b f g h = let same : x ≡ Refused y = cc in finds (ap (λ (k : QueryError). Err k) same ∙ sym (answer_is ∙ ap₂ (answer_closest (closest_found s t) (visits (searched s t))) f g))

      pub finds_answer : {d : Distances} → StepsFound p d → {j : JudgedInTurn} → q ≡ Ok j
          → Finds s t (Ok (record { first = failing_at (states_in_order s) d j.passed; visits = j.visits })) u
      unfolding in_turn_of
      finds_answer {d} known {j} e = go (in_turn_check s (states_in_order s) t) (count_right s t) refl refl (sym e ∙ called.0)
        where
          go : (c : Check) (b : Bool) → in_turn_check s (states_in_order s) t ≡ c → count_right s t ≡ b → Ok j ≡ answer_in_turn passed (visits (searched s t)) c b
              → Finds s t (Ok (record { first = failing_at (states_in_order s) d j.passed; visits = j.visits })) u
          go (Ok tt) true f g h =
              let same : j ≡ record { passed = passed; visits = visits (searched s t) } = cc in
              rw same (finds (ap (λ (o : Option Failing). Ok (record { first = o; visits = visits (searched s t) })) (right known) ∙ sym (answer_is ∙ ap₂ (answer_closest (closest_found s t) (visits (searched s t))) f g)))
          go (Ok tt) false f g h = let z : ◌≡◌ {A = ℕ} 0 1 = cc in absurd (omega arith)
          go (Err y) b f g h = let z : ◌≡◌ {A = ℕ} 0 1 = cc in absurd (omega arith)

  -- the reachable states are among those that a plan can have
  pub few_in_order : All (λ state. state < most_states) (states_in_order s)
  few_in_order = go (reachable_states p) each_led
    where
      go : (l : List Reached) → Each (Led p) l → All (λ state. state < most_states) (states_of l)
      go [] e = All-nil _
      go (x ∷ l) e = All-cons (λ state. state < most_states) x.state (states_of l) (omega (arith, way_below p well_formed e.0, well_formed.few_states)) (go l e.1)
