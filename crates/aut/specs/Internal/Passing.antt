-- What the pass over the lines finds out, and what it gathers of them. Contracts of private functions cite these; no promise of a public call
-- does.
use Rattle.std.specs.Prelude.{ℕ, ◌≤◌, min, ◌≡◌, Bool, true, false, ◌&&◌, List, leb, length, Option, MatchOption}
use Rattle.text.specs.Numerals.{decimal_value}
use Rattle.aut.specs.Texts.{TransitionLine}
use Rattle.aut.specs.Scanning.{rest, readable_from, lines_from}
use Rattle.aut.specs.Plans.{label_number, with_label, labels_of, transitions_of}
use Rattle.aut.specs.Converting.{states_below}
use Rattle.aut.specs.Internal.Keys.{key_of, transitions_held, insert_key}
use Rattle.aut.specs.declared.lines.Line.{Line}
use Rattle.aut.specs.declared.pass.Gathered.{Gathered}
use Rattle.aut.specs.declared.pass.Pass.{Pass}

-- the labels and keys gathered are within the limits
pub record Within (g : Gathered) : Type 0 where
  pub few_labels : length g.labels ≤ 255
  pub few_keys : length g.keys ≤ 2048

abbrev pub within : Gathered → Bool
within g = leb (length g.labels) 255 && leb (length g.keys) 2048

-- with a line's label and transition added
abbrev pub added : Line → Gathered → Gathered
added line g =
    record {
      labels = with_label line.label.now g.labels;
      keys =
          insert_key
          (key_of (min (decimal_value line.from.now) 255) (label_number line.label.now g.labels) (min (decimal_value line.to.now) 255))
          g.keys;
    }

-- all of s are lines, and what they say
abbrev pub readable : List ℕ → Bool
readable s = readable_from (length s) (rest s)

abbrev pub lines : List ℕ → List TransitionLine
lines s = lines_from (length s) (rest s)

-- labels and keys of the lines xs; over the limits, that there are at least so many
pub record GatheredOf (xs : List TransitionLine) (g : Gathered) : Type 0 where
  pub labels_least : length g.labels ≤ length (labels_of xs)
  pub keys_least : length g.keys ≤ length (transitions_of xs)
  pub labels_are : Within g → g.labels ≡ labels_of xs
  pub keys_are : Within g → transitions_held g.keys ≡ transitions_of xs

-- all lines could be read: they are counted, and their states tested; where they are right and few, labels and keys are gathered
pub record Passed (s : List ℕ) (states : ℕ) (few : Bool) (r : Pass) (g : Gathered) : Type 0 where
  pub readable_is : readable s ≡ true
  pub lines_are : r.lines ≡ length (lines s)
  pub lines_within : r.lines ≤ length s
  pub below_is : r.below ≡ states_below states (lines s)
  pub gathered : r.below ≡ true → few ≡ true → GatheredOf (lines s) g

-- the same, or a line could not be read
abbrev pub PassedOver : List ℕ → ℕ → Bool → Option Pass → Gathered → Type 0
PassedOver s states few r g = MatchOption r (readable s ≡ false) (λ p. Passed s states few p g)
