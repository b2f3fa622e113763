-- Document 02 (m), of every call of `shortest_way`: which number it gives, exactly, whether the state can be reached, and that the bytes
-- written are a way to it of the fewest steps. Shown by trace_correct of proofs/Statements/TraceCorrect.antt.
use Rattle.std.specs.Prelude.{ℕ, ◌*◌, ◌<◌, ◌≤◌, ◌≡◌, true, false, ◌↔◌, ◌≢◌, length, take, drop}
use mathlib.Core.List.{List, [], ◌∷◌, Memᴰ}
use Rattle.sheet.specs.Contents.{plan_body}
use Rattle.sheet.specs.Plan.{state_count}
use Rattle.sheet.specs.RefusalOrder.{GivenInOrder}
use Rattle.sheet.specs.TransitionSystem.{LabelledTransition, plan_of}
use Rattle.sheet.specs.WellFormed.{WellFormedSheet}
use Rattle.graph.specs.Loops.{Reachable}
use Rattle.graph.specs.Successors.{successors}
use Rattle.closest.specs.Steps.{Steps}
use Rattle.closest.specs.Tracing.{Traced, way_bytes, reported_trace, Traces}

-- transitions of the plan p, one after another, lead from a state to another: the first leaves it, each next leaves where the one before
-- led, and the last leads to the other
pub data Leads (p : List ℕ) : ℕ → List LabelledTransition → ℕ → Type 0 where
  arrived : {s : ℕ} → Leads p s [] s
  next : {s t : ℕ} {x : LabelledTransition} {l : List LabelledTransition} → Memᴰ x (plan_of p).transitions → x.origin ≡ s
      → Leads p x.target l t → Leads p s (x ∷ l) t

-- an output that was out holds, from its start, a way of n transitions from state 0 to a state, three bytes each, and behind it what it
-- held before; document 02 (c): "output bytes past what is written stay unchanged"
pub record WayWritten (p : List ℕ) (state n : ℕ) (out after : List ℕ) : Type 0 where
  pub way : List LabelledTransition
  pub leads : Leads p 0 way state
  pub count : length way ≡ n
  -- and no shorter one leads there
  pub shortest : (other : List LabelledTransition) → Leads p 0 other state → n ≤ length other
  pub bytes : take (3 * n) after ≡ way_bytes way
  pub rest_kept : drop (3 * n) after ≡ drop (3 * n) out
  pub size_kept : length after ≡ length out

-- neither 1 to 10 nor 11: an accepted sheet and a state of its plan
pub record Traceable (s : List ℕ) (state : ℕ) : Type 0 where
  pub accepted : WellFormedSheet s
  pub state_below : state < state_count (plan_body s)

-- `shortest_way` on the sheet s, the state and the output out answered so, and left after
pub record TraceAnswered (s : List ℕ) (state : ℕ) (out : List ℕ) (answer : Traced) (after : List ℕ) : Type 0 where
  -- document 01: "They apply in rising order.": 1 to 10, each with its place
  pub in_order : GivenInOrder s (reported_trace answer).number (reported_trace answer).place
  -- document 01: "11: queried state not below S."
  pub eleven : ((reported_trace answer).number ≡ 11) ↔ (WellFormedSheet s × (state_count (plan_body s) ≤ state))
  -- document 01: "22: output buffer too short", for three bytes a step
  pub twenty_two :
      ((reported_trace answer).number ≡ 22) ↔ (Traceable s state × ((n : ℕ) × Steps (plan_body s) state n × (length out < 3 * n)))
  -- not refused
  pub answered :
      ((reported_trace answer).number ≡ 0) ↔ (Traceable s state × ((n : ℕ) → Steps (plan_body s) state n → 3 * n ≤ length out))
  -- document 01: "Other places are 0."; "An accepted call gives number 0 and place 0."
  pub place_none : WellFormedSheet s → (reported_trace answer).place ≡ 0
  pub reached_exactly :
      (reported_trace answer).number ≡ 0 → ((reported_trace answer).reached ≡ true) ↔ Reachable (successors (plan_body s)) 0 state
  -- "the fewest steps from state 0 .. and that step count"
  pub counted : (reported_trace answer).reached ≡ true → Steps (plan_body s) state (reported_trace answer).steps
  pub written : (reported_trace answer).reached ≡ true → WayWritten (plan_body s) state (reported_trace answer).steps out after
  -- where no way leads there
  pub not_reached : (reported_trace answer).reached ≡ false → ((reported_trace answer).steps ≡ 0) × (after ≡ out)
  -- document 01: "A refused call gives .. any further result number 0 .. and changes no buffer."
  pub refused : (reported_trace answer).number ≢ 0 → (reported_trace answer).reached ≡ false

-- every call
abbrev pub TraceCorrect : Type 0
TraceCorrect =
    (s : List ℕ) (state : ℕ) (out : List ℕ) (answer : Traced) (after : List ℕ) → Traces s state out answer after
    → TraceAnswered s state out answer after
