-- Document 02 (h), "Plans from .aut files": which texts are readable, and what they say. "the Aldebaran text form: a line `des (first,
-- transitions, states)`, then lines `(from, "label", to)`". Letters and signs are bytes in ASCII.
use Rattle.std.specs.Prelude.{ℕ, ◌≡◌, Bool, true, not, ◌&&◌, List, [], ◌∷◌, ◌++◌, eqb}
use Rattle.text.specs.Numerals.{Decimal}

-- what the first line says: the first (initial) state, the number of transitions, and the number of states
pub record FirstLine : Type 0 where
  pub first : ℕ
  pub transitions : ℕ
  pub states : ℕ

-- what a line after it says: a transition and its label
pub record TransitionLine : Type 0 where
  pub from : ℕ
  pub label : List ℕ
  pub to : ℕ

-- ---- bytes

-- `(`
abbrev pub open_parenthesis : ℕ
open_parenthesis = 40

-- `)`
abbrev pub close_parenthesis : ℕ
close_parenthesis = 41

-- `,`
abbrev pub comma : ℕ
comma = 44

-- `"`
abbrev pub quote_mark : ℕ
quote_mark = 34

-- a space
abbrev pub space_byte : ℕ
space_byte = 32

-- a line feed
abbrev pub line_feed_byte : ℕ
line_feed_byte = 10

-- `des`
abbrev pub des_text : List ℕ
des_text = 100 ∷ 101 ∷ 115 ∷ []

-- ---- pieces

-- "Shown spaces may be missing": a space, or nothing; so there is one at most where one is shown, and none elsewhere
pub data ShownSpace : List ℕ → Type 0 where
  missing : ShownSpace []
  shown : ShownSpace (space_byte ∷ [])

-- "A label holds no quote mark or line feed": a byte of a label
abbrev pub is_label_byte : ℕ → Bool
is_label_byte b = not (eqb b quote_mark) && not (eqb b line_feed_byte)

-- every byte passes the test
abbrev pub All : (ℕ → Bool) → List ℕ → Type 0
All test [] = Unit {0}
All test (b ∷ bytes) = (test b ≡ true) × All test bytes

-- ---- lines

-- "a line `des (first, transitions, states)`"; "a line feed ends each line; numbers have no leading zeros"
pub data ReadsFirstLine : List ℕ → FirstLine → Type 0 where
  first_line_rule : {gap₁ ds₁ gap₂ ds₂ gap₃ ds₃ : List ℕ} {first transitions states : ℕ}
      → ShownSpace gap₁ → Decimal ds₁ first → ShownSpace gap₂ → Decimal ds₂ transitions → ShownSpace gap₃ → Decimal ds₃ states
      → ReadsFirstLine
      (des_text
      ++ (gap₁ ++ open_parenthesis
      ∷ (ds₁ ++ comma ∷ (gap₂ ++ (ds₂ ++ comma ∷ (gap₃ ++ (ds₃ ++ close_parenthesis ∷ line_feed_byte ∷ [])))))))
      (record { first = first; transitions = transitions; states = states })

-- "lines `(from, "label", to)`"
pub data ReadsLine : List ℕ → TransitionLine → Type 0 where
  transition_line_rule : {ds₁ gap₁ label gap₂ ds₂ : List ℕ} {from to : ℕ}
      → Decimal ds₁ from → ShownSpace gap₁ → All is_label_byte label → ShownSpace gap₂ → Decimal ds₂ to
      → ReadsLine
      (open_parenthesis
      ∷ (ds₁ ++ comma
      ∷ (gap₁ ++ quote_mark ∷ (label ++ quote_mark ∷ comma ∷ (gap₂ ++ (ds₂ ++ close_parenthesis ∷ line_feed_byte ∷ []))))))
      (record { from = from; label = label; to = to })

-- any number of them, and nothing else
pub data ReadsLines : List ℕ → List TransitionLine → Type 0 where
  no_line : ReadsLines [] []
  one_more : {line others : List ℕ} {x : TransitionLine} {xs : List TransitionLine}
      → ReadsLine line x → ReadsLines others xs → ReadsLines (line ++ others) (x ∷ xs)

-- a readable text, and what it says
pub data ReadsText : List ℕ → FirstLine → List TransitionLine → Type 0 where
  whole_text : {line others : List ℕ} {h : FirstLine} {xs : List TransitionLine}
      → ReadsFirstLine line h → ReadsLines others xs → ReadsText (line ++ others) h xs
