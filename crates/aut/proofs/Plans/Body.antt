-- The body that lines make: it is a well_formed plan, and its transitions are those of the lines.
use Prim.Native.Nat.{ℕ, zero, suc, ◌+◌, ◌*◌, ◌<◌, ◌≤◌}
use mathlib.Core.Path.{◌≡◌, refl, sym, ap, ap₂, subst, ◌∙◌}
use mathlib.Core.Bool.{true}
use mathlib.Core.List.{List, [], ◌∷◌, Memᴰ}
use native.Mathlib.Omega.{arith}
use native.Mathlib.Decide.{dec_lt}
use lib.ListN.{length, drop}
use lib.Seq.{get_or-drop, drop-drop}
use Rattle.sheet.specs.Bytes.{byte}
use Rattle.sheet.specs.Plan.{state_count, action_count, transition_count}
use Rattle.sheet.specs.WellFormed.{WellFormedPlan}
use Rattle.sheet.specs.TransitionSystem.{LabelledTransition, transition_of, plan_of, precedes}
use Rattle.sheet.specs.TransitionSystem as plan
use Rattle.sheet.proofs.TransitionOrder.{precedes_iff}
use Rattle.sheet.proofs.TransitionSystem.{at_member}
use Rattle.aut.specs.Texts.{FirstLine, TransitionLine}
use Rattle.aut.specs.Plans.{labels_of, transitions_of, SaidBy, InOrder, transition_bytes, body_of}
use Rattle.aut.specs.ConversionCorrect.{StatesInRange, WithinLimits, PlanOfText}
use Rattle.aut.proofs.Plans.Labels.{labels_numbered}
use Rattle.aut.proofs.Plans.Transitions.{transitions_merged}

-- ---- lengths

pub transition_bytes_length : (ts : List LabelledTransition) → length (transition_bytes ts) ≡ 3 * length ts
unfolding transition_bytes
transition_bytes_length [] = refl
transition_bytes_length (t ∷ ts) = omega (arith, transition_bytes_length ts)

pub body_length : (states : ℕ) (xs : List TransitionLine) → length (body_of states xs) ≡ 4 + 3 * length (transitions_of xs)
unfolding body_of
body_length states xs = omega (arith, transition_bytes_length (transitions_of xs))

-- ---- transitions of a body

module _ (p : List ℕ) where
  -- where transition i of the body begins, it goes on with the bytes of these transitions
  read_back : (ts : List LabelledTransition) (i : ℕ) → drop (4 + 3 * i) p ≡ transition_bytes ts → plan.transitions_from p (length ts) i ≡ ts
  unfolding transition_bytes plan.transitions_from
  read_back [] i q = refl
  read_back (t ∷ ts) i q = ap₂ ◌∷◌ this (read_back ts (suc i) next)
    where
      at : (j k : ℕ) → k ≡ 4 + 3 * i + j → byte p k ≡ byte (t.origin ∷ t.action ∷ t.target ∷ transition_bytes ts) j
      at j k e = ap (byte p) e ∙ sym (get_or-drop (4 + 3 * i) p j 0) ∙ ap (λ (l : List ℕ). byte l j) q

      this : transition_of p i ≡ t
      this = λ k.
          record {
            origin = at 0 (4 + 3 * i) (omega arith) k;
            action = at 1 (5 + 3 * i) (omega arith) k;
            target = at 2 (6 + 3 * i) (omega arith) k;
          }

      next : drop (4 + 3 * suc i) p ≡ transition_bytes ts
      next =
          let e : 4 + 3 * suc i ≡ 4 + 3 * i + 3 = omega arith in
          ap (λ (n : ℕ). drop n p) e ∙ sym (drop-drop 3 (4 + 3 * i) p) ∙ ap (drop 3) q

  -- each of the count transitions from number i on precedes the next
  order_at : (count i j : ℕ) → InOrder (plan.transitions_from p count i) → i ≤ j → suc j < count + i
      → precedes (transition_of p j) (transition_of p (suc j)) ≡ true
  unfolding plan.transitions_from
  order_at zero i j r l m = absurd (omega arith)
  order_at (suc zero) i j r l m = absurd (omega arith)
  order_at (suc (suc count)) i j r l m =
      elim (dec_lt i j) [
        | yes h ↦ order_at (suc count) (suc i) j r.1 h (omega arith)
        | no h ↦
            let e : i ≡ j = omega arith in
            subst (λ (k : ℕ). precedes (transition_of p k) (transition_of p (suc k)) ≡ true) e r.0
      ]

-- ---- the body

module _ (states : ℕ) (xs : List TransitionLine) where
  states_are : state_count (body_of states xs) ≡ states
  unfolding body_of
  states_are = refl

  actions_are : action_count (body_of states xs) ≡ length (labels_of xs)
  unfolding body_of
  actions_are = refl

  module _ (few : length (transitions_of xs) ≤ 2048) where
    count_is : transition_count (body_of states xs) ≡ length (transitions_of xs)
    unfolding body_of
    count_is = omega arith

    pub plan_transitions : (plan_of (body_of states xs)).transitions ≡ transitions_of xs
    unfolding body_of
    plan_transitions =
        ap (λ (n : ℕ). plan.transitions_from (body_of states xs) n 0) count_is ∙ read_back (body_of states xs) (transitions_of xs) 0 refl

    -- transition i is what some line says
    said_at : (i : ℕ) → i < transition_count (body_of states xs) → SaidBy xs (transition_of (body_of states xs) i)
    said_at i l =
        ((transitions_merged xs).exactly (transition_of (body_of states xs) i)).0
        (subst (Memᴰ (transition_of (body_of states xs) i)) plan_transitions (at_member (body_of states xs) i l))

module _ (h : FirstLine) (xs : List TransitionLine) (stated : StatesInRange h xs) (within : WithinLimits h xs) where
  abbrev body : List ℕ
  body = body_of h.states xs

  well_formed : WellFormedPlan body
  well_formed =
      record {
        headed = omega (arith, body_length h.states xs);
        some_states = omega (arith, states_are h.states xs, stated.first_below);
        few_states = omega (arith, states_are h.states xs, within.few_states);
        few_transitions = omega (arith, count, within.few_transitions);
        exact = omega (arith, count, body_length h.states xs);
        origin_below = λ i l.
            let s = said i l in
            let e = ap (λ (t : LabelledTransition). t.origin) s.says in
            omega (arith, e, states_are h.states xs, stated.from_below s.line s.among);
        label_below = λ i l.
            let s = said i l in
            let e = ap (λ (t : LabelledTransition). t.action) s.says in
            omega (arith, e, actions_are h.states xs, (labels_numbered xs).number_below s.line s.among);
        target_below = λ i l.
            let s = said i l in
            let e = ap (λ (t : LabelledTransition). t.target) s.says in
            omega (arith, e, states_are h.states xs, stated.to_below s.line s.among);
        rising = λ i l.
            (precedes_iff (transition_of body i) (transition_of body (suc i))).0
            (order_at body (transition_count body) 0 i in_order (omega arith) (omega arith));
      }
    where
      count : transition_count body ≡ length (transitions_of xs)
      count = count_is h.states xs within.few_transitions

      said : (i : ℕ) → i < transition_count body → SaidBy xs (transition_of body i)
      said = said_at h.states xs within.few_transitions

      in_order : InOrder (plan_of body).transitions
      in_order = subst InOrder (sym (plan_transitions h.states xs within.few_transitions)) (transitions_merged xs).in_order

  pub plan_said : PlanOfText h xs body
  plan_said =
      record {
        accepted = well_formed;
        states_are = states_are h.states xs;
        actions_are = actions_are h.states xs;
        exactly = λ t.
            rw (plan_transitions h.states xs within.few_transitions) ((transitions_merged xs).exactly t);
      }
