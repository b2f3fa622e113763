-- What each answer asks of the sheet, the state and the output, and what it leaves.
use Prim.Native.Nat.{ℕ, ◌*◌, ◌<◌, ◌≤◌}
use mathlib.Core.Path.{◌≡◌, refl, sym, ap, ◌∙◌}
use mathlib.Core.List.{List}
use lib.ListN.{length}
use borrow.Author.Tests.{lt-ltb, le-ltb, le-leb, lt-leb}
use Rattle.sheet.specs.Contents.{plan_body}
use Rattle.sheet.specs.Plan.{state_count}
use Rattle.sheet.specs.Reading.{sheet_check}
use Rattle.std.specs.Prelude.{None, Some, Ok, Err}
use Rattle.sheet.specs.declared.Refusal.{Refusal}
use Rattle.sheet.specs.declared.Refusal.TheVariants.{NoSuchState, OutputShort}
use Rattle.sheet.proofs.Acceptance.Parts.{plan_kept}
use Rattle.closest.specs.Steps.{Steps}
use Rattle.closest.specs.Tracing.{Traced, step_count, way_to, way_bytes, trace_check, traced_of, leaves, output_traced, reported_trace, Traces}
use Rattle.closest.proofs.Traces.Backwards.{written}
use Rattle.closest.proofs.Traces.Counts.{not_reached, is_reached_lem, count_is}

module _ (s : List ℕ) (state : ℕ) where
  abbrev plan : List ℕ
  plan = plan_body s

  abbrev way : List ℕ
  way = way_bytes (way_to plan (step_count plan state) state)

  traces : (out : List ℕ) {r : Traced} {after : List ℕ} → r ≡ traced_of s state (length out) → after ≡ leaves way out r → Traces s state out r after
  unfolding output_traced
  traces out e f = (e, (ap reported_trace e, f ∙ ap (leaves way out) e))

  pub unread : {x : Refusal} → sheet_check s ≡ Err x → (room : ℕ) → Err x ≡ traced_of s state room
  unfolding traced_of trace_check
  unread e room = rw e refl

  pub no_state_holds : sheet_check s ≡ Ok tt → state_count plan ≤ state → (room : ℕ) → Err NoSuchState ≡ traced_of s state room
  unfolding traced_of trace_check
  no_state_holds e l room = rw (e, le-ltb state (state_count plan) l) refl

  pub traces_unread : {x : Refusal} → sheet_check s ≡ Err x → (out : List ℕ) → Traces s state out (Err x) out
  traces_unread e out = traces out (unread e (length out)) refl

  pub traces_no_state : sheet_check s ≡ Ok tt → state_count plan ≤ state → (out : List ℕ) → Traces s state out (Err NoSuchState) out
  traces_no_state e l out = traces out (no_state_holds e l (length out)) refl

  module _ (accepted : sheet_check s ≡ Ok tt) (below : state < state_count plan) where
    passes : trace_check s state ≡ Ok tt
    unfolding trace_check
    passes = rw (accepted, lt-ltb state (state_count plan) below) refl

    pub unreached : ((n : ℕ) → Steps plan state n → ⊥) → (room : ℕ) → Ok None ≡ traced_of s state room
    unfolding traced_of
    unreached none room = rw (passes, not_reached plan state none) refl

    pub traces_unreached : ((n : ℕ) → Steps plan state n → ⊥) → (out : List ℕ) → Traces s state out (Ok None) out
    traces_unreached none out = traces out (unreached none (length out)) refl

    module _ (n : ℕ) (c : Steps plan state n) (out : List ℕ) where
      abbrev is : step_count plan state ≡ n
      is = count_is plan state (plan_kept s accepted) n c

      pub short : length out < 3 * n → Err OutputShort ≡ traced_of s state (length out)
      unfolding traced_of
      short l = rw (passes, is_reached_lem plan state (plan_kept s accepted) n c, is, lt-leb (3 * n) (length out) l) refl

      pub long : 3 * n ≤ length out → Ok (Some n) ≡ traced_of s state (length out)
      unfolding traced_of
      long l = rw (passes, is_reached_lem plan state (plan_kept s accepted) n c, is, le-leb (3 * n) (length out) l) refl

      pub traces_short : length out < 3 * n → Traces s state out (Err OutputShort) out
      traces_short l = traces out (short l) refl

      pub traces_way : 3 * n ≤ length out → {after : List ℕ} → after ≡ written plan n state out → Traces s state out (Ok (Some n)) after
      traces_way l e = traces out (long l) (e ∙ ap (λ (k : ℕ). leaves (way_bytes (way_to plan k state)) out (Ok (Some n))) (sym is))
