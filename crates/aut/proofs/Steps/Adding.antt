-- One line more: its states are tested, its label and its transition are added to those gathered.
use Rattle.std.proofs.Common.{◌≡◌, ℕ, ◌<◌, ◌≤◌, min, true, ◌&&◌, ltb, List, ◌∷◌, sym, ap, ap₂, ◌∙◌, arith}
use native.Mathlib.Nat.{min-eq_left, min-le_right}
use borrow.Author.Tests.{ltb-true}
use Rattle.sheet.specs.TransitionSystem.{LabelledTransition}
use Rattle.sheet.proofs.Checks.Checks.{and_parts}
use Rattle.text.specs.Numerals.{decimal_value}
use Rattle.aut.specs.Texts.{TransitionLine}
use Rattle.aut.specs.Scanning.{rest, after_line, line_of}
use Rattle.aut.specs.Plans.{label_number, with_label, labels_from, transition_by, insert, merged_into}
use Rattle.aut.specs.Internal.Digits.{below_digits}
use Rattle.aut.specs.Internal.Pieces.{InLine}
use Rattle.aut.specs.Internal.Keys.{key_of, transition_held, transitions_held}
use Rattle.aut.specs.Internal.Passing.{Within, added}
use Rattle.aut.specs.declared.lines.Line.{Line}
use Rattle.aut.specs.declared.pass.Gathered.{Gathered}
use Rattle.aut.proofs.Reading.Pieces.{IsNumeral}
use Rattle.aut.proofs.Reading.Comparing.{below_is}
use Rattle.aut.proofs.Reading.Lines.{line_back}
use Rattle.aut.proofs.Plans.Labels.{number_bound, labels_next}
use Rattle.aut.proofs.Steps.KeyOrder.{inserted_held, key_held}

pub min_small : (v : ℕ) → min v 255 < 256
min_small v = omega (arith, min-le_right v 255)

module _ (r : List ℕ) (line : Line) (p : InLine (rest r) line) where
  abbrev x : TransitionLine
  x = line_of (rest r)

  from_is : decimal_value line.from.now ≡ x.from
  unfolding line_of
  from_is = ap decimal_value p.from_is

  to_is : decimal_value line.to.now ≡ x.to
  unfolding line_of
  to_is = ap decimal_value p.to_is

  label_is : line.label.now ≡ x.label
  unfolding line_of
  label_is = p.label_is

  pub states_tested : {t : List ℕ} → after_line (rest r) ≡ rest t → (S : List ℕ) → IsNumeral S
      → (below_digits line.from.now S && below_digits line.to.now S) ≡ (ltb x.from (decimal_value S) && ltb x.to (decimal_value S))
  states_tested e S n =
      let d = (line_back (rest r) e).2 in
      ap₂ (λ (a b : List ℕ). below_digits a S && below_digits b S) p.from_is p.to_is
      ∙ ap₂ ◌&&◌ (below_is _ S d.0 n ∙ ap (λ (m : ℕ). ltb m (decimal_value S)) (sym (ap decimal_value p.from_is) ∙ from_is))
      (below_is _ S d.1 n ∙ ap (λ (m : ℕ). ltb m (decimal_value S)) (sym (ap decimal_value p.to_is) ∙ to_is))

  module _ (N : ℕ) (few : N ≤ 128) (b : (ltb x.from N && ltb x.to N) ≡ true) (g : Gathered) (w : Within g) (xs : List TransitionLine) where
    from_small : x.from < 128
    from_small = omega (arith, ltb-true x.from N (and_parts (ltb x.from N) (ltb x.to N) b).0)

    to_small : x.to < 128
    to_small = omega (arith, ltb-true x.to N (and_parts (ltb x.from N) (ltb x.to N) b).1)

    pub labels_on : (L : List (List ℕ)) → labels_from g.labels (x ∷ xs) ≡ L → labels_from (added line g).labels xs ≡ L
    unfolding labels_from
    labels_on L e = ap (λ (l : List ℕ). labels_from (with_label l g.labels) xs) label_is ∙ e

    -- the number among the labels so far is that among all
    number_is : (L : List (List ℕ)) → labels_from g.labels (x ∷ xs) ≡ L → label_number line.label.now g.labels ≡ label_number x.label L
    number_is L e =
        ap (λ (l : List ℕ). label_number l g.labels) label_is ∙ sym (labels_next x g.labels xs).0 ∙ ap (label_number x.label) e

    abbrev key : ℕ
    key =
        key_of (min (decimal_value line.from.now) 255) (label_number line.label.now g.labels) (min (decimal_value line.to.now) 255)

    key_is : (L : List (List ℕ)) → labels_from g.labels (x ∷ xs) ≡ L → transition_held key ≡ transition_by L x
    key_is L e =
        let f : min (decimal_value line.from.now) 255 ≡ x.from =
        ap (λ (n : ℕ). min n 255) from_is ∙ min-eq_left (omega (arith, from_small)) in
        let t : min (decimal_value line.to.now) 255 ≡ x.to =
        ap (λ (n : ℕ). min n 255) to_is ∙ min-eq_left (omega (arith, to_small)) in
        key_held _ _ _ (omega (arith, number_bound line.label.now g.labels, w.few_labels)) (min_small (decimal_value line.to.now))
        ∙ (λ i. record { origin = f i; action = number_is L e i; target = t i })

    pub transitions_on : (L : List (List ℕ)) (T : List LabelledTransition) → labels_from g.labels (x ∷ xs) ≡ L
        → merged_into L (transitions_held g.keys) (x ∷ xs) ≡ T → merged_into L (transitions_held (added line g).keys) xs ≡ T
    unfolding merged_into
    transitions_on L T e f =
        ap (λ (ts : List LabelledTransition). merged_into L ts xs)
        (inserted_held key g.keys ∙ ap (λ (t : LabelledTransition). insert t (transitions_held g.keys)) (key_is L e))
        ∙ f
