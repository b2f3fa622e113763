-- What the code reads of a text, and what is left of it. Contracts of private functions cite these; no promise of a public call does.
use Rattle.std.specs.Prelude.{ℕ, ◌≡◌, List, Option, Some, None, MatchOption}
use denote.Ref.{Bor}
use Rattle.aut.specs.Texts.{quote_mark, comma}
use Rattle.aut.specs.Scanning.{Rest, failed, rest, after_byte, after_numeral, numeral_of, after_label, label_of, from_at, label_at, to_at, after_line}
use Rattle.aut.specs.Scanning.{first_at, transitions_at, states_at, after_first_line}
use Rattle.aut.specs.declared.lines.Line.{Line}
use Rattle.aut.specs.declared.lines.Heading.{Heading}

-- what is left of a text after a piece
abbrev pub rest_of : Option (Bor (List ℕ)) → Rest
rest_of None = failed
rest_of (Some s) = rest s.now

-- the digits of a number at the front of s, and what is left
abbrev pub NumeralRead : List ℕ → Option (Bor (List ℕ) × Bor (List ℕ)) → Type 0
NumeralRead s r =
    MatchOption r (after_numeral (rest s) ≡ failed)
    (λ p. (p.0.now ≡ numeral_of (rest s)) × (after_numeral (rest s) ≡ rest p.1.now))

-- the same, with the byte that ends them
abbrev pub NumberRead : List ℕ → ℕ → Option (Bor (List ℕ) × Bor (List ℕ)) → Type 0
NumberRead s end r =
    MatchOption r (after_byte end (after_numeral (rest s)) ≡ failed)
    (λ p. (p.0.now ≡ numeral_of (rest s)) × (after_byte end (after_numeral (rest s)) ≡ rest p.1.now))

-- a label in its quote marks at the front of s, with the comma that ends it, and what is left
abbrev pub LabelRead : List ℕ → Option (Bor (List ℕ) × Bor (List ℕ)) → Type 0
LabelRead s r =
    MatchOption r (after_byte comma (after_byte quote_mark (after_label (after_byte quote_mark (rest s)))) ≡ failed)
    (λ p.
    (p.0.now ≡ label_of (after_byte quote_mark (rest s)))
    × (after_byte comma (after_byte quote_mark (after_label (after_byte quote_mark (rest s)))) ≡ rest p.1.now))

-- what stands in the line that is left
pub record InLine (x : Rest) (line : Line) : Type 0 where
  pub from_is : line.from.now ≡ numeral_of (from_at x)
  pub label_is : line.label.now ≡ label_of (label_at x)
  pub to_is : line.to.now ≡ numeral_of (to_at x)

-- the line at the front of s, and what is left
abbrev pub LineRead : List ℕ → Option (Line × Bor (List ℕ)) → Type 0
LineRead s r =
    MatchOption r (after_line (rest s) ≡ failed) (λ p. InLine (rest s) p.0 × (after_line (rest s) ≡ rest p.1.now))

-- what stands in the first line
pub record InHeading (x : Rest) (first : Heading) : Type 0 where
  pub first_is : first.first.now ≡ numeral_of (first_at x)
  pub transitions_is : first.transitions.now ≡ numeral_of (transitions_at x)
  pub states_is : first.states.now ≡ numeral_of (states_at x)

-- the first line at the front of s, and what is left
abbrev pub HeadingRead : List ℕ → Option (Heading × Bor (List ℕ)) → Type 0
HeadingRead s r =
    MatchOption r (after_first_line (rest s) ≡ failed)
    (λ p. InHeading (rest s) p.0 × (after_first_line (rest s) ≡ rest p.1.now))
