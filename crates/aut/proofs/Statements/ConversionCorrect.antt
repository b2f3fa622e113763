-- What every call of `convert` answers, leaves and says. The statement is ConversionCorrect of specs/ConversionCorrect.antt.
use Prim.Native.Nat.{ℕ, ◌≤◌}
use Rattle.std.proofs.Common.{Ok, Err}
use mathlib.Core.Path.{◌≡◌, refl, sym, ap, subst, ◌∙◌}
use mathlib.Core.Bool.{true}
use mathlib.Core.List.{List, ◌++◌}
use mathlib.Core.Logic.{◌⊎◌, inl, inr, ◌≢◌}
use native.Mathlib.Omega.{arith}
use native.Mathlib.Decide.{dec_lt, ℕ_discrete}
use lib.ListN.{length, take, drop}
use lib.Seq.{take_at}
use Rattle.aut.specs.Texts.{FirstLine, TransitionLine, ReadsText}
use Rattle.aut.specs.Reading.{TextReading, unreadable, readable, reading_of}
use Rattle.aut.specs.Plans.{labels_of, transitions_of, body_of}
use Rattle.aut.specs.Converting.{Converted, first_line_right, reported_conversion, Converts}
use Rattle.aut.specs.ConversionCorrect.{WellFormedText, StatesInRange, WithinLimits, RefusedWith, AcceptedWith, PlanOfText}
use Rattle.aut.specs.ConversionCorrect.{ConversionCorrect}
use Rattle.aut.specs.declared.ConvertError.TheVariants.{Malformed, StateOutOfRange, OverLimits, OutputShort}
use Rattle.aut.proofs.Reading.Readings.{readings_exactly}
use Rattle.aut.proofs.Plans.Labels.{labels_numbered}
use Rattle.aut.proofs.Plans.Transitions.{transitions_merged}
use Rattle.aut.proofs.Plans.Body.{body_length, plan_said}
use Rattle.aut.proofs.Statements.Answers.{some_over, first_true, other_first, other_count, states_true, first_over, state_over}
use Rattle.aut.proofs.Statements.Answers.{limits_true, over_limits, answers_unreadable, answers_malformed, answers_state}
use Rattle.aut.proofs.Statements.Answers.{answers_limits, answers_short, answers_wrote}

module _ (text out : List ℕ) where
  -- ---- every call is refused with a number, or accepted

  abbrev Accepted : Type 0
  Accepted = (h : FirstLine) × (xs : List TransitionLine) × AcceptedWith text (length out) h xs

  abbrev Decided : Type 0
  Decided = ((k : ℕ) × (1 ≤ k) × RefusedWith text (length out) k) ⊎ Accepted

  module _ (h : FirstLine) (xs : List TransitionLine) where
    by_room : WellFormedText text h xs → StatesInRange h xs → WithinLimits h xs → Decided
    by_room w s l =
        elim (dec_lt (length out) (length (body_of h.states xs))) [
          | yes short ↦ inl (22, omega arith, RefusedWith.output_short h xs w s l short)
          | no enough ↦
              inr (h, xs, record { well_formed = w; states_in_range_holds = s; within_limits_holds = l; room_enough = omega arith })
        ]

    by_limits : WellFormedText text h xs → StatesInRange h xs → Decided
    by_limits w s =
        elim (dec_lt 128 h.states) [
          | yes l ↦ inl (39, omega arith, RefusedWith.over_limits h xs w s (inl l))
          | no a ↦ elim (dec_lt 255 (length (labels_of xs))) [
            | yes l ↦ inl (39, omega arith, RefusedWith.over_limits h xs w s (inr (inl l)))
            | no b ↦ elim (dec_lt 2048 (length (transitions_of xs))) [
              | yes l ↦ inl (39, omega arith, RefusedWith.over_limits h xs w s (inr (inr l)))
              | no c ↦ by_room w s (record { few_states = omega arith; few_labels = omega arith; few_transitions = omega arith })
            ]
          ]
        ]

    by_states : WellFormedText text h xs → Decided
    by_states w =
        elim (dec_lt h.first h.states) [
          | no over ↦ inl (38, omega arith, RefusedWith.first_over h xs w (omega arith))
          | yes below ↦ elim (some_over h.states xs) [
            | inl (x, m, o) ↦ inl (38, omega arith, RefusedWith.state_over h xs w x m o)
            | inr u ↦
                by_limits w (record { first_below = below; from_below = λ x m. (u x m).0; to_below = λ x m. (u x m).1 })
          ]
        ]

    by_first : ReadsText text h xs → Decided
    by_first r =
        elim (ℕ_discrete h.first 0) [
          | no other ↦ inl (37, omega arith, RefusedWith.other_first h xs r other)
          | yes p ↦ elim (ℕ_discrete h.transitions (length xs)) [
            | no other ↦ inl (37, omega arith, RefusedWith.other_count h xs r other)
            | yes q ↦ by_states (record { reads = r; starts = p; counted = q })
          ]
        ]

  by_reading : (r : TextReading) → reading_of text ≡ r → Decided
  by_reading unreadable q =
      inl (37, omega arith, RefusedWith.no_reading (λ h xs r. absurd (never (sym q ∙ (readings_exactly text h xs).1 r))))
    where
      never : {h : FirstLine} {xs : List TransitionLine} → unreadable ≡ readable h xs → ⊥
      never e = let z : ◌≡◌ {A = ℕ} 0 1 = cc in omega arith
  by_reading (readable h xs) q = by_first h xs ((readings_exactly text h xs).0 q)

  decided : Decided
  decided = by_reading (reading_of text) refl

  -- ---- and answered so

  -- a refusal with its number; the output stays
  record Refuses (k : ℕ) : Type 0 where
    answer : Converted
    converts : Converts text out answer out
    number_is : (reported_conversion answer).number ≡ k
    size_none : (reported_conversion answer).size ≡ 0

  refusing : (answer : Converted) {k : ℕ} → Converts text out answer out → (reported_conversion answer).number ≡ k
      → (reported_conversion answer).size ≡ 0 → Refuses k
  refusing answer c n z = record { answer = answer; converts = c; number_is = n; size_none = z }

  module _ {h : FirstLine} {xs : List TransitionLine} where
    read : ReadsText text h xs → reading_of text ≡ readable h xs
    read = (readings_exactly text h xs).1

    first_right_lem : WellFormedText text h xs → first_line_right h xs ≡ true
    first_right_lem w = first_true h xs w.starts w.counted

  refuses : {k : ℕ} → RefusedWith text (length out) k → Refuses k
  refuses (RefusedWith.no_reading none) =
      refusing (Err Malformed) (answers_unreadable text out (no_reading (reading_of text) refl)) refl refl
    where
      no_reading : (r : TextReading) → reading_of text ≡ r → reading_of text ≡ unreadable
      no_reading unreadable q = q
      no_reading (readable h xs) q = absurd (none h xs ((readings_exactly text h xs).0 q))
  refuses (RefusedWith.other_count h xs r other) =
      refusing (Err Malformed) (answers_malformed text out (read r) (other_count h xs other)) refl refl
  refuses (RefusedWith.other_first h xs r other) =
      refusing (Err Malformed) (answers_malformed text out (read r) (other_first h xs other)) refl refl
  refuses (RefusedWith.first_over h xs w l) =
      refusing (Err StateOutOfRange) (answers_state text out (read w.reads) (first_right_lem w) (first_over h xs l)) refl refl
  refuses (RefusedWith.state_over h xs w x m o) =
      refusing (Err StateOutOfRange) (answers_state text out (read w.reads) (first_right_lem w) (state_over h xs m o)) refl refl
  refuses (RefusedWith.over_limits h xs w s o) =
      refusing (Err OverLimits)
      (answers_limits text out (read w.reads) (first_right_lem w) (states_true h xs s) (over_limits h xs o)) refl refl
  refuses (RefusedWith.output_short h xs w s l short) =
      refusing (Err OutputShort)
      (answers_short text out (read w.reads) (first_right_lem w) (states_true h xs s) (limits_true h xs l) short) refl refl

  module _ (h : FirstLine) (xs : List TransitionLine) (a : AcceptedWith text (length out) h xs) where
    writes : Converts text out (Ok (length (body_of h.states xs)))
        (body_of h.states xs ++ drop (length (body_of h.states xs)) out)
    writes =
        answers_wrote text out (read a.well_formed.reads) (first_right_lem a.well_formed) (states_true h xs a.states_in_range_holds)
        (limits_true h xs a.within_limits_holds) a.room_enough

  module _ (answer : Converted) (out' : List ℕ) (c : Converts text out answer out') where
    same_answer : {r : Converted} {o : List ℕ} → Converts text out r o → (answer ≡ r) × (out' ≡ o)
    same_answer d = (c.0 ∙ sym d.0, c.1.1 ∙ sym d.1.1)

    given : {k : ℕ} → RefusedWith text (length out) k → (reported_conversion answer).number ≡ k
    given r = let w = refuses r in ap (λ (x : Converted). (reported_conversion x).number) (same_answer w.converts).0 ∙ w.number_is

    module _ (h : FirstLine) (xs : List TransitionLine) (a : AcceptedWith text (length out) h xs) where
      written : answer ≡ Ok (length (body_of h.states xs))
      written = (same_answer (writes h xs a)).0

      none_given : (reported_conversion answer).number ≡ 0
      none_given = ap (λ (x : Converted). (reported_conversion x).number) written

      size_is : (reported_conversion answer).size ≡ length (body_of h.states xs)
      size_is = ap (λ (x : Converted). (reported_conversion x).size) written

      output_is : out' ≡ body_of h.states xs ++ drop (reported_conversion answer).size out
      output_is = (same_answer (writes h xs a)).1 ∙ ap (λ (n : ℕ). body_of h.states xs ++ drop n out) (sym size_is)

      says : PlanOfText h xs (take (reported_conversion answer).size out')
      says =
          subst (PlanOfText h xs)
          (sym (ap (take (reported_conversion answer).size) output_is
          ∙ take_at (body_of h.states xs) _ (reported_conversion answer).size (sym size_is)))
          (plan_said h xs a.states_in_range_holds a.within_limits_holds)

    refused_by_lem : (k : ℕ) → 1 ≤ k → (reported_conversion answer).number ≡ k → Decided → RefusedWith text (length out) k
    refused_by_lem k l q (inl (j, m, r)) = subst (RefusedWith text (length out)) (sym (given r) ∙ q) r
    refused_by_lem k l q (inr (h, xs, a)) = absurd (omega (arith, none_given h xs a))

    accepted_by : (reported_conversion answer).number ≡ 0 → Decided → Accepted
    accepted_by q (inl (k, l, r)) = absurd (omega (arith, given r))
    accepted_by q (inr a) = a

    refused : (reported_conversion answer).number ≢ 0 → Decided → ((reported_conversion answer).size ≡ 0) × (out' ≡ out)
    refused n (inl (k, l, r)) =
        let w = refuses r in
        let s = same_answer w.converts in
        (ap (λ (x : Converted). (reported_conversion x).size) s.0 ∙ w.size_none, s.1)
    refused n (inr (h, xs, a)) = absurd (n (none_given h xs a))

place_none : (answer : Converted) → (reported_conversion answer).place ≡ 0
place_none (Ok n) = refl
place_none (Err Malformed) = refl
place_none (Err StateOutOfRange) = refl
place_none (Err OverLimits) = refl
place_none (Err OutputShort) = refl

pub conversion_correct : ConversionCorrect
conversion_correct =
    record {
      calls = λ text out answer out' c.
          let d = decided text out in
          record {
            refused_with = λ k l. (
              λ q. refused_by_lem text out answer out' c k l q d,
              given text out answer out' c,
            );
            accepted_with = (
              λ q. accepted_by text out answer out' c q d,
              λ a. none_given text out answer out' c a.0 a.1 a.2,
            );
            place_none = place_none answer;
            size_is = size_is text out answer out' c;
            output_is = output_is text out answer out' c;
            says = says text out answer out' c;
            refused = λ n. refused text out answer out' c n d;
          };
      labels = labels_numbered;
      transitions = transitions_merged;
      longest = λ h xs w. omega (arith, body_length h.states xs, w.few_transitions);
    }
