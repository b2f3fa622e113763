-- Every call of shortest_way, by the cases of its sheet, state and output.
use Prim.Native.Nat.{ℕ, ◌*◌, ◌<◌, ◌≤◌}
use mathlib.Core.Path.{◌≡◌, refl, sym, ap, subst, ◌∙◌}
use mathlib.Core.Bool.{Bool, true, false, true≢false}
use mathlib.Core.List.{List}
use mathlib.Core.Logic.{◌⊎◌, inl, inr}
use native.Mathlib.Omega.{arith}
use native.Mathlib.Decide.{dec_lt}
use lib.ListN.{length}
use Rattle.sheet.specs.Contents.{plan_body}
use Rattle.sheet.specs.Plan.{state_count}
use Rattle.sheet.specs.Reading.{sheet_check}
use Rattle.sheet.specs.RefusalOrder.{GivenInOrder}
use Rattle.sheet.specs.Refusals.{number_of, place_of}
use Rattle.sheet.specs.WellFormed.{WellFormedPlan, WellFormedSheet}
use Rattle.std.specs.Prelude.{None, Some, Ok, Err}
use Rattle.sheet.specs.Refusals.{Check}
use Rattle.sheet.specs.declared.Refusal.{Refusal}
use Rattle.sheet.specs.declared.Refusal.TheVariants.{NoSuchState, OutputShort}
use Rattle.sheet.proofs.Acceptance.Numbers.{low_refusal, refused_number}
use Rattle.sheet.proofs.Acceptance.Order.{given_in_order}
use Rattle.sheet.proofs.Acceptance.Sheet.{accepted_iff, not_refused}
use Rattle.graph.specs.Loops.{Reachable}
use Rattle.graph.specs.Successors.{successors}
use Rattle.closest.specs.Steps.{Steps}
use Rattle.closest.specs.Tracing.{Traced, step_count, is_reached, traced_of, output_traced, Traces}
use Rattle.closest.specs.TraceCorrect.{Traceable, TraceAnswered, TraceCorrect}
use Rattle.closest.proofs.Ways.Within.{at_steps_lem, reachable_steps}
use Rattle.closest.proofs.Ways.Later.{reachable_exactly}
use Rattle.closest.proofs.Traces.Backwards.{written}
use Rattle.closest.proofs.Traces.Counts.{reached_counted, is_reached_lem}
use Rattle.closest.proofs.Traces.Ways.{way_written}
use Rattle.closest.proofs.Traces.Traces.{traces_unread, traces_no_state, traces_unreached, traces_short, traces_way}

-- the refusal of a check that failed
abbrev refusal_in : Check → Refusal
refusal_in (Ok tt) = NoSuchState
refusal_in (Err x) = x

module _ (s : List ℕ) (state : ℕ) (out : List ℕ) where
  abbrev plan : List ℕ
  plan = plan_body s

  answered_unread : (x : Refusal) → sheet_check s ≡ Err x → TraceAnswered s state out (Err x) out
  answered_unread x e = record {
    in_order = given_in_order s (number_of x) (place_of x) same (λ f. absurd (not_refused s e ((accepted_iff s).0 f)));
    eleven = (λ h. absurd (omega (arith, low_refusal s e)), λ g. absurd (not_refused s e g.0));
    twenty_two = (λ h. absurd (omega (arith, low_refusal s e)), λ g. absurd (not_refused s e g.0.accepted));
    answered = (λ h. absurd (omega (arith, refused_number x)), λ g. absurd (not_refused s e g.0.accepted));
    place_none = λ k. absurd (not_refused s e k);
    reached_exactly = λ h. absurd (omega (arith, refused_number x));
    counted = λ h. absurd (true≢false (sym h));
    written = λ h. absurd (true≢false (sym h));
    not_reached = λ h. (refl, refl);
    refused = λ h. refl;
  }
    where
      same : (y : Refusal) → sheet_check s ≡ Err y → (number_of x ≡ number_of y) × (place_of x ≡ place_of y)
      same y f = let z : x ≡ y = ap refusal_in (sym e ∙ f) in (ap number_of z, ap place_of z)

  module _ (k : WellFormedSheet s) where
    -- of an accepted sheet the number is 0 or above 10
    none_below : (n : ℕ) → (n ≡ 0) ⊎ (10 < n) → GivenInOrder s n 0
    none_below n h = given_in_order s n 0 (λ y f. absurd (not_refused s f k)) (λ e. h)

    answered_no_state : state_count plan ≤ state → TraceAnswered s state out (Err NoSuchState) out
    answered_no_state l = record {
      in_order = none_below 11 (inr (omega arith));
      eleven = (λ h. (k, l), λ g. refl);
      twenty_two = (λ h. absurd (omega arith), λ g. absurd (omega (arith, g.0.state_below)));
      answered = (λ h. absurd (omega arith), λ g. absurd (omega (arith, g.0.state_below)));
      place_none = λ j. refl;
      reached_exactly = λ h. absurd (omega arith);
      counted = λ h. absurd (true≢false (sym h));
      written = λ h. absurd (true≢false (sym h));
      not_reached = λ h. (refl, refl);
      refused = λ h. refl;
    }

    module _ (below : state < state_count plan) where
      kept : WellFormedPlan plan
      kept = k.bodies_kept.plan_kept

      traceable : Traceable s state
      traceable = record { accepted = k; state_below = below }

      answered_unreached : ((n : ℕ) → Steps plan state n → ⊥) → TraceAnswered s state out (Ok None) out
      answered_unreached none = record {
        in_order = none_below 0 (inl refl);
        eleven = (λ h. absurd (omega arith), λ g. absurd (omega (arith, g.1)));
        twenty_two = (λ h. absurd (omega arith), λ g. absurd (none g.1.0 g.1.1));
        answered = (λ h. (traceable, λ n c. absurd (none n c)), λ g. refl);
        place_none = λ j. refl;
        reached_exactly = λ h. (λ e. absurd (true≢false (sym e)), λ r. absurd (unreachable r));
        counted = λ h. absurd (true≢false (sym h));
        written = λ h. absurd (true≢false (sym h));
        not_reached = λ h. (refl, refl);
        refused = λ h. refl;
      }
        where
          unreachable : Reachable (successors plan) 0 state → ⊥
          unreachable r = let w = reachable_steps plan kept state ((reachable_exactly plan state).1 r) in none w.0 (at_steps_lem plan w.0 state w.2)

      module _ (n : ℕ) (c : Steps plan state n) where
        one_count : (m : ℕ) → Steps plan state m → m ≡ n
        one_count m d = omega (arith, c.fewest m d.way, d.fewest n c.way)

        answered_short : length out < 3 * n → TraceAnswered s state out (Err OutputShort) out
        answered_short l = record {
          in_order = none_below 22 (inr (omega arith));
          eleven = (λ h. absurd (omega arith), λ g. absurd (omega (arith, g.1)));
          twenty_two = (λ h. (traceable, (n, c, l)), λ g. refl);
          answered = (λ h. absurd (omega arith), λ g. absurd (omega (arith, g.1 n c)));
          place_none = λ j. refl;
          reached_exactly = λ h. absurd (omega arith);
          counted = λ h. absurd (true≢false (sym h));
          written = λ h. absurd (true≢false (sym h));
          not_reached = λ h. (refl, refl);
          refused = λ h. refl;
        }

        answered_way : 3 * n ≤ length out → TraceAnswered s state out (Ok (Some n)) (written plan n state out)
        answered_way l = record {
          in_order = none_below 0 (inl refl);
          eleven = (λ h. absurd (omega arith), λ g. absurd (omega (arith, g.1)));
          twenty_two = (λ h. absurd (omega arith), λ g. absurd (omega (arith, g.1.2, one_count g.1.0 g.1.1)));
          answered = (λ h. (traceable, λ m d. omega (arith, one_count m d)), λ g. refl);
          place_none = λ j. refl;
          reached_exactly = λ h. (λ e. (reachable_exactly plan state).0 (n, c.way), λ r. refl);
          counted = λ h. c;
          written = λ h. way_written plan n state c out l;
          not_reached = λ h. absurd (true≢false h);
          refused = λ h. absurd (h refl);
        }

  -- of what a call answers and leaves
  abbrev Answered : Type 0
  Answered = TraceAnswered s state out (traced_of s state (length out)) (output_traced s state out)

  of_call : {r : Traced} {after : List ℕ} → Traces s state out r after → TraceAnswered s state out r after → Answered
  of_call t a =
      subst (λ (r : Traced). TraceAnswered s state out r (output_traced s state out)) t.0 (subst (TraceAnswered s state out _) t.1.1 a)

  module _ (e : sheet_check s ≡ Ok tt) where
    accepted : WellFormedSheet s
    accepted = (accepted_iff s).0 e

    by_count : (l : state < state_count plan) (b : Bool) → is_reached plan state ≡ b → Answered
    by_count l true r =
        let c = reached_counted plan state r in
        elim (dec_lt (length out) (3 * step_count plan state)) [
          | yes h ↦ of_call (traces_short s state e l _ c out h) (answered_short accepted l _ c h)
          | no h ↦ of_call (traces_way s state e l _ c out (omega arith) refl) (answered_way accepted l _ c (omega arith))
        ]
    by_count l false r = of_call (traces_unreached s state e l none out) (answered_unreached accepted l none)
      where
        none : (n : ℕ) → Steps plan state n → ⊥
        none n c = true≢false (sym (is_reached_lem plan state accepted.bodies_kept.plan_kept n c) ∙ r)

  by_check : (c : Check) → sheet_check s ≡ c → Answered
  by_check (Ok tt) e =
      elim (dec_lt state (state_count plan)) [
        | yes l ↦ by_count e l (is_reached plan state) refl
        | no l ↦ of_call (traces_no_state s state e (omega arith) out) (answered_no_state (accepted e) (omega arith))
      ]
  by_check (Err x) e = of_call (traces_unread s state e out) (answered_unread x e)

pub trace_correct : TraceCorrect
trace_correct s state out answer after t =
    subst (λ (r : Traced). TraceAnswered s state out r after) (sym t.0)
    (subst (TraceAnswered s state out _) (sym t.1.1) (by_check s state out (sheet_check s) refl))
