-- The pass over the lines: what it holds, where it begins, one line more, and where it ends.
use Rattle.std.proofs.Common.{◌≡◌, ℕ, ◌+◌, ◌≤◌, Bool, true, false, ◌&&◌, ltb, leb, List, [], ◌∷◌, ◌++◌, length, refl, sym, ap, ◌∙◌, arith}
use mathlib.Core.Bool.{and_assoc, and-true}
use lib.ListN.{length-append}
use borrow.Author.Tests.{leb-true, le-leb}
use Rattle.sheet.specs.Bytes.{pick}
use Rattle.sheet.proofs.Checks.Checks.{and_parts, all}
use Rattle.text.specs.Numerals.{decimal_value}
use Rattle.aut.specs.Texts.{TransitionLine}
use Rattle.aut.specs.Scanning.{failed, rest, after_line, line_of}
use Rattle.aut.specs.Plans.{label_number, with_label, labels_from, labels_of, merged_into, transitions_of}
use Rattle.aut.specs.Converting.{states_below}
use Rattle.aut.specs.Internal.Digits.{below_digits}
use Rattle.aut.specs.Internal.Pieces.{InLine}
use Rattle.aut.specs.Internal.Keys.{transitions_held, insert_key}
use Rattle.aut.specs.Internal.Passing.{Within, within, added, readable, lines, Passed}
use Rattle.aut.specs.declared.lines.Line.{Line}
use Rattle.aut.specs.declared.pass.Gathered.{Gathered}
use Rattle.aut.specs.declared.pass.Pass.{Pass}
use Rattle.aut.proofs.Reading.Pieces.{IsNumeral}
use Rattle.aut.proofs.Plans.Labels.{labels_longer}
use Rattle.aut.proofs.Plans.Transitions.{transitions_longer}
use Rattle.aut.proofs.Steps.KeyOrder.{transitions_length}
use Rattle.aut.proofs.Steps.Lines.{one_line, not_a_line, no_line}
use Rattle.aut.proofs.Steps.Adding.{states_tested, labels_on, transitions_on}

-- the labels and keys gathered, of the lines xs, of which ys are left
pub record Gathering (xs ys : List TransitionLine) (g : Gathered) : Type 0 where
  pub labels_least : length g.labels ≤ length (labels_of xs)
  pub keys_least : length g.keys ≤ length (transitions_of xs)
  pub labels_left : Within g → labels_from g.labels ys ≡ labels_of xs
  pub keys_left : Within g → merged_into (labels_of xs) (transitions_held g.keys) ys ≡ transitions_of xs

-- of the text s the lines before r have been read; N is the stated number of states
pub record Passing (s : List ℕ) (N : ℕ) (few : Bool) (r : List ℕ) (p : Pass) (g : Gathered) : Type 0 where
  pub counted : p.lines + length r ≤ length s
  pub readable_left : readable s ≡ readable r
  pub lines_left : length (lines s) ≡ p.lines + length (lines r)
  pub below_left : states_below N (lines s) ≡ (p.below && states_below N (lines r))
  pub few_labels : length g.labels ≤ 256
  pub few_keys : length g.keys ≤ 2049
  pub gathering : p.below ≡ true → few ≡ true → Gathering (lines s) (lines r) g

pub passing_start : (s : List ℕ) (N : ℕ) (few : Bool) (g : Gathered) → g.labels ≡ [] → g.keys ≡ []
    → Passing s N few s (record { lines = 0; below = true }) g
unfolding transitions_held
passing_start s N few g e f =
    let l = ap length e in
    let k = ap length f in
    record {
      counted = omega arith;
      readable_left = refl;
      lines_left = omega arith;
      below_left = refl;
      few_labels = omega arith;
      few_keys = omega arith;
      gathering = λ _ _.
          record {
            labels_least = omega arith;
            keys_least = omega arith;
            labels_left = λ _. ap (λ (ls : List (List ℕ)). labels_from ls (lines s)) e;
            keys_left = λ _. ap (λ (ks : List ℕ). merged_into (labels_of (lines s)) (transitions_held ks) (lines s)) f;
          };
    }

-- ---- one line more

with_one : (l : List ℕ) (ks : List (List ℕ)) → length (with_label l ks) ≤ length ks + 1
with_one l ks = go (ltb (label_number l ks) (length ks))
  where
    go : (b : Bool) → length (pick b ks (ks ++ l ∷ [])) ≤ length ks + 1
    go true = omega arith
    go false = omega (arith, length-append ks (l ∷ []))

key_one : (k : ℕ) (ks : List ℕ) → length (insert_key k ks) ≤ length ks + 1
unfolding insert_key
key_one k [] = omega arith
key_one k (j ∷ ks) = go (ltb j k) (ltb k j) (key_one k ks)
  where
    go : (p q : Bool) → length (insert_key k ks) ≤ length ks + 1
        → length (pick p (j ∷ insert_key k ks) (pick q (k ∷ j ∷ ks) (j ∷ ks))) ≤ length (j ∷ ks) + 1
    go true q h = omega arith
    go false true h = omega arith
    go false false h = omega arith

key_small : (line : Line) (g : Gathered) → length (added line g).keys ≤ length g.keys + 1
key_small line g = key_one _ g.keys

pub is_within : (g : Gathered) → within g ≡ true → Within g
is_within g e =
    let p = and_parts (leb (length g.labels) 255) (leb (length g.keys) 2048) e in
    record { few_labels = leb-true (length g.labels) 255 p.0; few_keys = leb-true (length g.keys) 2048 p.1 }

within_is : (g : Gathered) → Within g → within g ≡ true
within_is g w = all _ _ (le-leb (length g.labels) 255 w.few_labels) (le-leb (length g.keys) 2048 w.few_keys)

module _ (s : List ℕ) (S : List ℕ) (few : Bool) (r : List ℕ) (p : Pass) (g : Gathered) (h : Passing s (decimal_value S) few r p g)
    (some : 1 ≤ length r) where
  pub unreadable : after_line (rest r) ≡ failed → readable s ≡ false
  unreadable e = h.readable_left ∙ not_a_line r some e

  module _ (t : List ℕ) (e : after_line (rest r) ≡ rest t) (line : Line) (is : InLine (rest r) line) (n : IsNumeral S)
      (q : few ≡ leb (decimal_value S) 128) where
    abbrev N : ℕ
    N = decimal_value S

    abbrev x : TransitionLine
    x = line_of (rest r)

    abbrev tested : Bool
    tested = ltb x.from N && ltb x.to N

    lines_on : lines r ≡ x ∷ lines t
    lines_on = (one_line r some e).1

    below_on : states_below N (lines s) ≡ (p.below && tested && states_below N (lines t))
    unfolding states_below
    below_on =
        h.below_left ∙ ap (λ (xs : List TransitionLine). p.below && states_below N xs) lines_on
        ∙ sym (and_assoc p.below tested (states_below N (lines t)))

    gathering_added : few ≡ true → tested ≡ true → Gathering (lines s) (lines r) g → Within g → Gathering (lines s) (lines t) (added line g)
    gathering_added f b o w =
        let few_states = leb-true N 128 (sym q ∙ f) in
        let a : labels_from g.labels (x ∷ lines t) ≡ labels_of (lines s) = ap (labels_from g.labels) (sym lines_on) ∙ o.labels_left w in
        let k : merged_into (labels_of (lines s)) (transitions_held g.keys) (x ∷ lines t) ≡ transitions_of (lines s) =
        ap (merged_into (labels_of (lines s)) (transitions_held g.keys)) (sym lines_on) ∙ o.keys_left w in
        let l = labels_on r line is N few_states b g w (lines t) (labels_of (lines s)) a in
        let m = transitions_on r line is N few_states b g w (lines t) (labels_of (lines s)) (transitions_of (lines s)) a k in
        record {
          labels_least = omega (arith, labels_longer (added line g).labels (lines t), ap length l);
          keys_least =
              omega (
                arith,
                transitions_longer (labels_of (lines s)) (transitions_held (added line g).keys) (lines t),
                transitions_length (added line g).keys,
                ap length m,
              );
          labels_left = λ _. l;
          keys_left = λ _. m;
        }

    gathering_kept : (Within g → ⊥) → Gathering (lines s) (lines r) g → Gathering (lines s) (lines t) g
    gathering_kept never o =
        record {
          labels_least = o.labels_least;
          keys_least = o.keys_least;
          labels_left = λ w. absurd (never w);
          keys_left = λ w. absurd (never w);
        }

    module _ (b : Bool) (d : b ≡ (p.below && (below_digits line.from.now S && below_digits line.to.now S))) where
      below_is : b ≡ (p.below && tested)
      below_is = d ∙ ap (λ (c : Bool). p.below && c) (states_tested r line is e S n)

      abbrev after : Pass
      after = record { lines = p.lines + 1; below = b }

      passing_on : (g' : Gathered) → length g'.labels ≤ 256 → length g'.keys ≤ 2049
          → (p.below ≡ true → tested ≡ true → few ≡ true → Gathering (lines s) (lines t) g') → Passing s N few t after g'
      passing_on g' l k o =
          let a = one_line r some e in
          record {
            counted = omega (arith, h.counted, a.2);
            readable_left = h.readable_left ∙ a.0;
            lines_left = omega (arith, h.lines_left, ap length a.1);
            below_left = below_on ∙ ap (λ (c : Bool). c && states_below N (lines t)) (sym below_is);
            few_labels = l;
            few_keys = k;
            gathering = λ c f. let z = and_parts p.below tested (sym below_is ∙ c) in o z.0 z.1 f;
          }

      pub passing_added : b ≡ true → few ≡ true → within g ≡ true → Passing s N few t after (added line g)
      passing_added c f w =
          let i = is_within g w in
          let z = and_parts p.below tested (sym below_is ∙ c) in
          passing_on (added line g) (omega (arith, with_one line.label.now g.labels, i.few_labels))
          (omega (arith, key_small line g, i.few_keys)) (λ a u v. gathering_added f z.1 (h.gathering a f) i)

      pub passing_kept : (b ≡ true → few ≡ true → within g ≡ true → ⊥) → Passing s N few t after g
      passing_kept never =
          passing_on g h.few_labels h.few_keys
          (λ a u f. gathering_kept (λ w. never (below_is ∙ all p.below tested a u) f (within_is g w)) (h.gathering a f))

-- ---- where it ends

pub passed : (s : List ℕ) (N : ℕ) (few : Bool) (r : List ℕ) (p : Pass) (g : Gathered) → Passing s N few r p g → length r ≡ 0 → Passed s N few p g
unfolding labels_from merged_into states_below
passed s N few r p g h z =
    let e = no_line r z in
    record {
      readable_is = h.readable_left ∙ e.0;
      lines_are = omega (arith, h.lines_left, ap length e.1);
      lines_within = omega (arith, h.counted);
      below_is =
          sym (h.below_left ∙ ap (λ (xs : List TransitionLine). p.below && states_below N xs) e.1 ∙ and-true p.below);
      gathered = λ b f.
          let o = h.gathering b f in
          record {
            labels_least = o.labels_least;
            keys_least = o.keys_least;
            labels_are = λ w. ap (labels_from g.labels) (sym e.1) ∙ o.labels_left w;
            keys_are = λ w. ap (merged_into (labels_of (lines s)) (transitions_held g.keys)) (sym e.1) ∙ o.keys_left w;
          };
    }
