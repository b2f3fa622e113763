-- Document 02 (e), of every call of `parse`: which number it gives, exactly, what it leaves, and "Its last entry must hold for the same
-- actions as the line's reading". Shown by parse_correct of proofs/Statements/ParseCorrect.antt.
use Rattle.std.specs.Prelude.{ℕ, ◌-◌, ◌<◌, ◌≤◌, ◌≡◌, List, ◌++◌, ◌↔◌, ◌≢◌, length, take, drop}
use Rattle.sheet.specs.Actions.{entry_count}
use Rattle.sheet.specs.WellFormed.{WellFormedActions}
use Rattle.calculus.specs.Decode.{action_formula}
use Rattle.calculus.specs.Meaning.{meets}
use Rattle.action_line.specs.Grammar.{Tree, formula_of, Mentions, Reading}
use Rattle.action_line.specs.Entries.{entry_total, body_of}
use Rattle.action_line.specs.Parsing.{Parsed, reported_parse, Parses}

-- no "action not below A"
pub record KnownActions (A : ℕ) (t : Tree) : Type 0 where
  pub below : (action : ℕ) → Mentions t action → action < A

-- "It refuses an unreadable line, the empty one included, with 32, an action not below A with 33, and more than 32 entries with 34, in that
-- order, before a short output.": the number that a call on A, a line and an output of so many bytes is refused with
pub data RefusedWith (A : ℕ) (line : List ℕ) (room : ℕ) : ℕ → Type 0 where
  no_reading : ((t : Tree) → Reading line t → ⊥) → RefusedWith A line room 32
  unknown_action : (t : Tree) (action : ℕ) → Reading line t → Mentions t action → A ≤ action → RefusedWith A line room 33
  many_entries : (t : Tree) → Reading line t → KnownActions A t → 32 < entry_total t → RefusedWith A line room 34
  -- document 01: "22: output buffer too short (calls that write a sheet or a body)."
  output_short : (t : Tree) → Reading line t → KnownActions A t → entry_total t ≤ 32 → room < length (body_of t) → RefusedWith A line room 22

-- t is the reading, its actions are below A, its entries at most 32, and the output has room for the body
pub record AcceptedWith (A : ℕ) (line : List ℕ) (room : ℕ) (t : Tree) : Type 0 where
  pub reading : Reading line t
  pub known : KnownActions A t
  pub few_entries : entry_total t ≤ 32
  pub room_enough : length (body_of t) ≤ room

-- what a kind 2 body says
pub record MeansTree (A : ℕ) (t : Tree) (body : List ℕ) : Type 0 where
  -- it is accepted as the action table of a plan with A actions
  pub accepted : WellFormedActions A body
  -- its count is the number of the tree's entries
  pub count_is : entry_count body ≡ entry_total t
  -- "Its last entry must hold for the same actions as the line's reading"
  pub last_met : (action : ℕ) → action < A → meets A (action_formula body (entry_count body - 1)) action ≡ meets A (formula_of t) action
  -- it is even the same formula
  pub last_is : action_formula body (entry_count body - 1) ≡ formula_of t

-- `parse` on A and a line answered so, and left out' where out had been
pub record ParseAnswered (A : ℕ) (line out : List ℕ) (answer : Parsed) (out' : List ℕ) : Type 0 where
  -- a number k other than 0 is given exactly where the call is refused with it
  pub refused_with : (k : ℕ) → 1 ≤ k → ((reported_parse answer).number ≡ k) ↔ RefusedWith A line (length out) k
  -- number 0 exactly where the line has a reading that no refusal turns down
  pub accepted_with : ((reported_parse answer).number ≡ 0) ↔ ((t : Tree) × AcceptedWith A line (length out) t)
  -- document 01: "An accepted call gives number 0 and place 0."; of 22, 32, 33 and 34 too the place is 0: "Other places are 0."
  pub place_none : (reported_parse answer).place ≡ 0
  -- the length of the body, its bytes, "output bytes past what is written stay unchanged" (document 02 (c)), and what it means
  pub size_is : (t : Tree) → AcceptedWith A line (length out) t → (reported_parse answer).size ≡ length (body_of t)
  pub output_is :
      (t : Tree) → AcceptedWith A line (length out) t → out' ≡ body_of t ++ drop (reported_parse answer).size out
  pub means : (t : Tree) → AcceptedWith A line (length out) t → MeansTree A t (take (reported_parse answer).size out')
  -- document 01: "A refused call gives .. lengths and any further result number 0 .. and changes no buffer."
  pub refused : (reported_parse answer).number ≢ 0 → ((reported_parse answer).size ≡ 0) × (out' ≡ out)

-- of every call
abbrev pub ParseCorrect : Type 0
ParseCorrect =
    (A : ℕ) (line out : List ℕ) (answer : Parsed) (out' : List ℕ) → Parses A line out answer out'
    → ParseAnswered A line out answer out'
