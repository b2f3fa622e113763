-- The tests of a text, in their order, from what was read of its first line and what the pass over the others found.
use Rattle.std.proofs.Common.{◌≡◌, ℕ, ◌+◌, ◌<◌, ◌≤◌, min, Bool, true, false, not, ◌&&◌, eqb, ltb, leb, List, length, refl, sym, ap, ap₂, subst, ◌∙◌, arith}
use lib.ListN.{length-append}
use native.Mathlib.Nat.{min-eq_left, min-eq_right}
use native.Mathlib.Decide.{dec_lt, ℕ_discrete}
use borrow.Author.Tests.{eq-eqb, ne_eqb, eqb-true, lt-ltb, le-ltb, le-leb, lt-leb}
use Rattle.sheet.proofs.Checks.Checks.{and_parts}
use Rattle.text.specs.Numerals.{decimal_value}
use Rattle.aut.specs.Texts.{FirstLine, TransitionLine}
use Rattle.aut.specs.Scanning.{failed, rest, after_first_line, first_line_of, readable_from, text_readable, text_first_line, text_lines}
use Rattle.aut.specs.Plans.{labels_of, transitions_of}
use Rattle.aut.specs.Converting.{first_line_right, states_below, states_in_range, within_limits}
use Rattle.aut.specs.Internal.Pieces.{InHeading}
use Rattle.aut.specs.Internal.Passing.{Within, within, readable, lines, GatheredOf, Passed}
use Rattle.aut.specs.Internal.Answering.{checked_by, checked_of}
use Rattle.aut.specs.declared.lines.Heading.{Heading}
use Rattle.aut.specs.declared.pass.Gathered.{Gathered}
use Rattle.aut.specs.declared.pass.Pass.{Pass}
use Rattle.aut.proofs.Reading.Lines.{first_back}
use Rattle.aut.proofs.Reading.Pieces.{left}
use Rattle.aut.proofs.Steps.Lines.{counted, none_read}
use Rattle.aut.proofs.Steps.KeyOrder.{transitions_length}

-- ---- numbers that are bounded by one more than the greatest that matters

pub counted_exactly : (v t n : ℕ) → v ≡ min t (n + 1) → eqb v n ≡ eqb t n
counted_exactly v t n e =
    elim (dec_lt n t) [
      | yes q ↦ let k : min t (n + 1) ≡ n + 1 = min-eq_right (omega arith) in ne_eqb v n (λ i. omega arith) ∙ sym (ne_eqb t n (λ i. omega arith))
      | no q ↦ let k : min t (n + 1) ≡ t = min-eq_left (omega arith) in ap (λ (x : ℕ). eqb x n) (e ∙ k)
    ]

pub bounded_few : (n v : ℕ) → v ≡ min n 129 → v ≤ 128 → v ≡ n
bounded_few n v e h =
    elim (dec_lt n 129) [
      | yes q ↦ let k : min n 129 ≡ n = min-eq_left (omega arith) in e ∙ k
      | no q ↦ let k : min n 129 ≡ 129 = min-eq_right (omega arith) in absurd (omega arith)
    ]

bounded_many : (n v : ℕ) → v ≡ min n 129 → 128 < v → 128 < n
bounded_many n v e h =
    elim (dec_lt n 129) [
      | yes q ↦ let k : min n 129 ≡ n = min-eq_left (omega arith) in omega arith
      | no q ↦ omega arith
    ]

pub bounded_test : (n v : ℕ) → v ≡ min n 129 → leb v 128 ≡ leb n 128
bounded_test n v e =
    elim (dec_lt 128 v) [
      | yes q ↦ lt-leb v 128 q ∙ sym (lt-leb n 128 (bounded_many n v e q))
      | no q ↦ ap (λ (x : ℕ). leb x 128) (bounded_few n v e (omega arith))
    ]

bounded_zero : (n v : ℕ) → v ≡ min n 129 → eqb v 0 ≡ eqb n 0
bounded_zero n v e =
    elim (ℕ_discrete n 0) [
      | yes q ↦ eq-eqb v 0 (omega arith) ∙ sym (eq-eqb n 0 q)
      | no q ↦ ne_eqb v 0 (λ z. q (omega arith)) ∙ sym (ne_eqb n 0 q)
    ]

-- ---- how many there are

module _ (xs : List TransitionLine) (g : Gathered) (o : GatheredOf xs g) where
  pub labels_counted : Within g → length g.labels ≡ length (labels_of xs)
  labels_counted w = ap length (o.labels_are w)

  pub keys_counted : Within g → length g.keys ≡ length (transitions_of xs)
  keys_counted w = sym (transitions_length g.keys) ∙ ap length (o.keys_are w)

  limits_same : within g ≡ (leb (length (labels_of xs)) 255 && leb (length (transitions_of xs)) 2048)
  limits_same =
      elim (dec_lt 255 (length g.labels)) [
        | yes l ↦
            rw (lt-leb (length g.labels) 255 l, lt-leb (length (labels_of xs)) 255 (omega (arith, o.labels_least))) refl
        | no l ↦
            elim (dec_lt 2048 (length g.keys)) [
              | yes k ↦
                  let e = lt-leb (length g.keys) 2048 k in
                  let f = lt-leb (length (transitions_of xs)) 2048 (omega (arith, o.keys_least)) in
                  ap (λ (b : Bool). leb (length g.labels) 255 && b) e ∙ both_false (leb (length g.labels) 255) (leb (length (labels_of xs)) 255)
                  ∙ ap (λ (b : Bool). leb (length (labels_of xs)) 255 && b) (sym f)
              | no k ↦
                  let w : Within g = record { few_labels = omega arith; few_keys = omega arith } in
                  ap₂ (λ (m n : ℕ). leb m 255 && leb n 2048) (labels_counted w) (keys_counted w)
            ]
      ]
    where
      both_false : (a b : Bool) → (a && false) ≡ (b && false)
      both_false true true = refl
      both_false true false = refl
      both_false false true = refl
      both_false false false = refl

-- ---- the text, by its first line and the lines after it

pub not_begun : (s : List ℕ) → after_first_line (rest s) ≡ failed → text_readable s ≡ false
unfolding text_readable
not_begun s e = ap (readable_from (length s)) e ∙ none_read (length s)

module _ (s t : List ℕ) (e : after_first_line (rest s) ≡ rest t) where
  shorter : length t ≤ length s
  shorter =
      let k = first_back (rest s) e in
      omega (arith, ap (λ (x : _). length (left x)) k.1.whole, length-append k.0 t)

  pub readable_is : text_readable s ≡ readable t
  unfolding text_readable
  readable_is = ap (readable_from (length s)) e ∙ (counted t (length s) shorter).0

  pub lines_are : text_lines s ≡ lines t
  lines_are = (λ i. Rattle.aut.specs.Scanning.lines_from (length s) (e i)) ∙ (counted t (length s) shorter).1

  abbrev h : FirstLine
  h = text_first_line s

  abbrev xs : List TransitionLine
  xs = text_lines s

  module _ (first : Heading) (is : InHeading (rest s) first) where
    first_is : decimal_value first.first.now ≡ h.first
    unfolding first_line_of
    first_is = ap decimal_value is.first_is

    transitions_is : decimal_value first.transitions.now ≡ h.transitions
    unfolding first_line_of
    transitions_is = ap decimal_value is.transitions_is

    pub states_is : decimal_value first.states.now ≡ h.states
    unfolding first_line_of
    states_is = ap decimal_value is.states_is

    module _ (few : Bool) (p : Pass) (g : Gathered) (o : Passed t (decimal_value first.states.now) few p g) (states : ℕ)
        (q : states ≡ min (decimal_value first.states.now) 129) (f : few ≡ leb states 128) where
      bounded : states ≡ min h.states 129
      bounded = q ∙ ap (λ (n : ℕ). min n 129) states_is

      below_is : p.below ≡ states_below h.states xs
      below_is = o.below_is ∙ ap₂ states_below states_is (sym lines_are)

      right_is :
          (eqb (min (decimal_value first.first.now) 1) 0 && eqb (min (decimal_value first.transitions.now) (p.lines + 1)) p.lines)
          ≡ first_line_right h xs
      right_is =
          ap₂ ◌&&◌
          (counted_exactly _ (decimal_value first.first.now) 0 refl ∙ ap (λ (n : ℕ). eqb n 0) first_is)
          (counted_exactly _ (decimal_value first.transitions.now) p.lines refl
          ∙ ap₂ eqb transitions_is (o.lines_are ∙ ap length (sym lines_are)))

      range_is : h.first ≡ 0 → (not (eqb states 0) && p.below) ≡ states_in_range h xs
      range_is z =
          ap₂ ◌&&◌ (ap not (bounded_zero h.states states bounded) ∙ go) below_is
        where
          go : not (eqb h.states 0) ≡ ltb h.first h.states
          go =
              elim (ℕ_discrete h.states 0) [
                | yes n ↦ rw (eq-eqb h.states 0 n, le-ltb h.first h.states (omega arith)) refl
                | no n ↦ rw (ne_eqb h.states 0 n, lt-ltb h.first h.states (omega arith)) refl
              ]

      pub gathered_of : p.below ≡ true → h.states ≤ 128 → GatheredOf xs g
      gathered_of b l =
          subst (λ (ys : List TransitionLine). GatheredOf ys g) (sym lines_are)
          (o.gathered b (f ∙ bounded_test h.states states bounded ∙ le-leb h.states 128 l))

      limits_are : p.below ≡ true → (leb states 128 && within g) ≡ within_limits h xs
      limits_are b =
          ap (◌&& within g) (bounded_test h.states states bounded)
          ∙ elim (dec_lt 128 h.states) [
            | yes l ↦ rw (lt-leb h.states 128 l) refl
            | no l ↦ ap (λ (c : Bool). leb h.states 128 && c) (limits_same xs g (gathered_of b (omega arith)))
          ]

      pub checked_is : checked_of first states p g ≡ checked_by (first_line_right h xs) (states_in_range h xs) (within_limits h xs)
      checked_is =
          ap (λ (a : Bool). checked_by a (not (eqb states 0) && p.below) (leb states 128 && within g)) right_is
          ∙ by_right (first_line_right h xs) refl
        where
          by_range : (b : Bool) → (not (eqb states 0) && p.below) ≡ b
              → checked_by true b (leb states 128 && within g) ≡ checked_by true b (within_limits h xs)
          by_range false z = refl
          by_range true z = ap (checked_by true true) (limits_are (and_parts (not (eqb states 0)) p.below z).1)

          by_right : (a : Bool) → first_line_right h xs ≡ a
              → checked_by a (not (eqb states 0) && p.below) (leb states 128 && within g)
              ≡ checked_by a (states_in_range h xs) (within_limits h xs)
          by_right false z = refl
          by_right true z =
              let k =
              range_is (eqb-true h.first 0 (and_parts (eqb h.first 0) (eqb h.transitions (length xs)) z).0) in
              by_range (not (eqb states 0) && p.below) refl
              ∙ ap (λ (b : Bool). checked_by true b (within_limits h xs)) k
