-- The tests of the call hold exactly where their rules are kept, and what it answers by them.
use Prim.Native.Nat.{ℕ, ◌<◌, ◌≤◌}
use Rattle.std.proofs.Common.{Ok, Err}
use mathlib.Core.Path.{◌≡◌, refl, sym, ap, subst}
use mathlib.Core.Bool.{true, false, ◌&&◌, and-false}
use mathlib.Core.List.Memᴰ
use mathlib.Core.List.{List, [], ◌∷◌, ◌++◌, Memᴰ}
use mathlib.Core.Logic.{◌⊎◌, inl, inr, ⊎_elim, ◌≢◌}
use native.Mathlib.Omega.{arith}
use native.Mathlib.Decide.{dec_lt}
use lib.Dec.{eqb, ltb, leb}
use lib.ListN.{length, drop}
use borrow.Author.Tests.{eq-eqb, ne_eqb, lt-ltb, le-ltb, le-leb, lt-leb}
use Rattle.aut.specs.Texts.{FirstLine, TransitionLine}
use Rattle.aut.specs.Reading.{unreadable, readable, reading_of}
use Rattle.aut.specs.Plans.{labels_of, transitions_of, body_of}
use Rattle.aut.specs.Converting.{first_line_right, states_below, states_in_range, within_limits, reported_conversion}
use Rattle.aut.specs.Converting.{Converted, converted_of, output_after, Converts}
use Rattle.aut.specs.ConversionCorrect.{StatesInRange, WithinLimits}
use Rattle.aut.specs.declared.ConvertError.TheVariants.{Malformed, StateOutOfRange, OverLimits, OutputShort}

-- ---- the states of lines

module _ (n : ℕ) where
  -- a state of the line is not below n
  abbrev pub Over : TransitionLine → Type 0
  Over x = (n ≤ x.from) ⊎ (n ≤ x.to)

  -- both states are below n
  abbrev pub Under : TransitionLine → Type 0
  Under x = (x.from < n) × (x.to < n)

  pub some_over : (xs : List TransitionLine)
      → ((x : TransitionLine) × Memᴰ x xs × Over x) ⊎ ((x : TransitionLine) → Memᴰ x xs → Under x)
  some_over [] = inr (λ x m. absurd (Memᴰ.not-nil m))
  some_over (x ∷ xs) = by (dec_lt x.from n) (dec_lt x.to n) (some_over xs)
    where
      by : Dec (x.from < n) → Dec (x.to < n)
          → ((y : TransitionLine) × Memᴰ y xs × Over y) ⊎ ((y : TransitionLine) → Memᴰ y xs → Under y)
          → ((y : TransitionLine) × Memᴰ y (x ∷ xs) × Over y) ⊎ ((y : TransitionLine) → Memᴰ y (x ∷ xs) → Under y)
      by (no f) t r = inl (x, Memᴰ.head refl, inl (omega arith))
      by (yes f) (no t) r = inl (x, Memᴰ.head refl, inr (omega arith))
      by (yes f) (yes t) (inl r) = inl (r.0, Memᴰ.tail r.1, r.2)
      by (yes f) (yes t) (inr u) =
          inr (λ y m. ⊎_elim (λ q. subst Under (sym q) (f, t)) (u y) (Memᴰ.cases_cons m))

  below_true : (xs : List TransitionLine) → ((x : TransitionLine) → Memᴰ x xs → Under x) → states_below n xs ≡ true
  unfolding states_below
  below_true [] u = refl
  below_true (x ∷ xs) u =
      let l = u x (Memᴰ.head refl) in
      rw (lt-ltb x.from n l.0, lt-ltb x.to n l.1) (below_true xs (λ y m. u y (Memᴰ.tail m)))

  line_false : (x : TransitionLine) → Over x → (ltb x.from n && ltb x.to n) ≡ false
  line_false x (inl l) = rw (le-ltb x.from n l) refl
  line_false x (inr l) = rw (le-ltb x.to n l) (and-false (ltb x.from n))

  below_false : {x : TransitionLine} (xs : List TransitionLine) → Memᴰ x xs → Over x → states_below n xs ≡ false
  unfolding states_below
  below_false xs (Memᴰ.head {x = y} {xs = ys} q) o = rw (line_false y (subst Over q o)) refl
  below_false xs (Memᴰ.tail {x = y} {xs = ys} m) o = rw (below_false ys m o) (and-false (ltb y.from n && ltb y.to n))

-- ---- the tests

module _ (h : FirstLine) (xs : List TransitionLine) where
  pub first_true : h.first ≡ 0 → h.transitions ≡ length xs → first_line_right h xs ≡ true
  first_true p q = rw (eq-eqb h.first 0 p) (eq-eqb h.transitions (length xs) q)

  pub other_first : h.first ≢ 0 → first_line_right h xs ≡ false
  other_first p = rw (ne_eqb h.first 0 p) refl

  pub other_count : h.transitions ≢ length xs → first_line_right h xs ≡ false
  other_count p = rw (ne_eqb h.transitions (length xs) p) (and-false (eqb h.first 0))

  pub states_true : StatesInRange h xs → states_in_range h xs ≡ true
  states_true s =
      rw (lt-ltb h.first h.states s.first_below) (below_true h.states xs (λ x m. (s.from_below x m, s.to_below x m)))

  pub first_over : h.states ≤ h.first → states_in_range h xs ≡ false
  first_over l = rw (le-ltb h.first h.states l) refl

  pub state_over : {x : TransitionLine} → Memᴰ x xs → Over h.states x → states_in_range h xs ≡ false
  state_over m o = rw (below_false h.states xs m o) (and-false (ltb h.first h.states))

  pub limits_true : WithinLimits h xs → within_limits h xs ≡ true
  limits_true w =
      rw (le-leb h.states 128 w.few_states, le-leb (length (labels_of xs)) 255 w.few_labels)
      (le-leb (length (transitions_of xs)) 2048 w.few_transitions)

  pub over_limits : (128 < h.states) ⊎ ((255 < length (labels_of xs)) ⊎ (2048 < length (transitions_of xs))) → within_limits h xs ≡ false
  over_limits (inl l) = rw (lt-leb h.states 128 l) refl
  over_limits (inr (inl l)) = rw (lt-leb (length (labels_of xs)) 255 l) (and-false (leb h.states 128))
  over_limits (inr (inr l)) =
      rw (lt-leb (length (transitions_of xs)) 2048 l, and-false (leb (length (labels_of xs)) 255)) (and-false (leb h.states 128))

-- ---- the answers

module _ (text out : List ℕ) where
  converts : {r : Converted} {out' : List ℕ} → r ≡ converted_of text (length out) → out' ≡ output_after text out
      → Converts text out r out'
  converts q o = (q, (ap reported_conversion q, o))

  pub answers_unreadable : reading_of text ≡ unreadable → Converts text out (Err Malformed) out
  unfolding converted_of output_after
  answers_unreadable q = converts (rw q refl) (rw q refl)

  module _ {h : FirstLine} {xs : List TransitionLine} (q : reading_of text ≡ readable h xs) where
    pub answers_malformed : first_line_right h xs ≡ false → Converts text out (Err Malformed) out
    unfolding converted_of output_after
    answers_malformed f = converts (rw (q, f) refl) (rw (q, f) refl)

    module _ (f : first_line_right h xs ≡ true) where
      pub answers_state : states_in_range h xs ≡ false → Converts text out (Err StateOutOfRange) out
      unfolding converted_of output_after
      answers_state s = converts (rw (q, f, s) refl) (rw (q, f, s) refl)

      module _ (s : states_in_range h xs ≡ true) where
        pub answers_limits : within_limits h xs ≡ false → Converts text out (Err OverLimits) out
        unfolding converted_of output_after
        answers_limits w = converts (rw (q, f, s, w) refl) (rw (q, f, s, w) refl)

        module _ (w : within_limits h xs ≡ true) where
          pub answers_short : length out < length (body_of h.states xs) → Converts text out (Err OutputShort) out
          unfolding converted_of output_after
          answers_short l =
              let r = lt-leb (length (body_of h.states xs)) (length out) l in
              converts (rw (q, f, s, w, r) refl) (rw (q, f, s, w, r) refl)

          pub answers_wrote : length (body_of h.states xs) ≤ length out
              → Converts text out (Ok (length (body_of h.states xs)))
              (body_of h.states xs ++ drop (length (body_of h.states xs)) out)
          unfolding converted_of output_after
          answers_wrote l =
              let r = le-leb (length (body_of h.states xs)) (length out) l in
              converts (rw (q, f, s, w, r) refl) (rw (q, f, s, w, r) refl)
