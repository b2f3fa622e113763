-- What is made of the tokens of a line, in one pass: operator-precedence parsing. Operators are put on a stack, each with the number of
-- parentheses open where it stands, until their last operand is complete. It is meant for readable lines; ReadingsExactly of
-- specs/Reading.antt says what it gives.
use Rattle.std.specs.Prelude.{ℕ, suc, ◌-◌, Bool, true, false, ◌&&◌, List, [], ◌∷◌, eqb, leb}
use Rattle.sheet.specs.Bytes.{pick}
use Rattle.action_line.specs.Tokens.{Token, number, true_word, false_word, not_word, and_word, or_word, open_parenthesis, close_parenthesis}
use Rattle.action_line.specs.Tokens.{invalid}

-- operators by the kind of their entry, which is also how tightly they bind; document 01: "3 x or y, 4 x and y, 5 not x"
abbrev pub or_kind : ℕ
or_kind = 3

abbrev pub and_kind : ℕ
and_kind = 4

abbrev pub not_kind : ℕ
not_kind = 5

-- How something is made of a line: Made is what has been made so far, Left what an operator keeps of its left operand.
pub record Builder (Left Made : Type 0) : Type 0 where
  -- the operand that was made last
  pub latest : Made → Left
  pub constant : Bool → Made → Made
  pub action : ℕ → Made → Made
  -- an operator by its kind, with the left operand that it kept; its right (or only) operand is the latest
  pub combine : ℕ → Left → Made → Made

-- an operator on the stack: its kind, how many parentheses were open, and its left operand
pub record Waiting (Left : Type 0) : Type 0 where
  pub kind : ℕ
  pub depth : ℕ
  pub left : Left

pub record ParserState (Left Made : Type 0) : Type 0 where
  -- parentheses that are open
  pub depth : ℕ
  pub stack : List (Waiting Left)
  pub made : Made

-- w stands at this depth and binds at least as tightly as the kind
abbrev pub reducible : {Left : Type 0} → ℕ → ℕ → Waiting Left → Bool
reducible kind depth w = eqb w.depth depth && leb kind w.kind

module _ {Left Made : Type 0} (B : Builder Left Made) where
  -- the operators on top that stand at this depth and bind at least as tightly get their last operand
  unfoldable pub reduce : ℕ → ℕ → List (Waiting Left) → Made → ParserState Left Made
  reduce kind depth [] o = record { depth = depth; stack = []; made = o }
  reduce kind depth (w ∷ ws) o =
      pick (reducible kind depth w) (reduce kind depth ws (B.combine w.kind w.left o))
      (record { depth = depth; stack = w ∷ ws; made = o })

  -- an operand is complete: what binds tighter than `or` and waits for it is complete with it
  abbrev pub completed : ℕ → List (Waiting Left) → Made → ParserState Left Made
  completed depth ws o = reduce and_kind depth ws o

  -- a disjunction ends here
  abbrev pub ended : ParserState Left Made → ParserState Left Made
  ended s = reduce or_kind s.depth s.stack s.made

  -- an operator is put on the stack
  abbrev pub shift : ℕ → ParserState Left Made → ParserState Left Made
  shift kind s =
      record {
        depth = s.depth;
        stack = record { kind = kind; depth = s.depth; left = B.latest s.made } ∷ s.stack;
        made = s.made;
      }

  -- a parenthesis is closed behind what has ended
  abbrev pub leave : ParserState Left Made → ParserState Left Made
  leave s = completed (s.depth - 1) s.stack s.made

  abbrev pub step : Token → ParserState Left Made → ParserState Left Made
  step (number n) s = completed s.depth s.stack (B.action n s.made)
  step true_word s = completed s.depth s.stack (B.constant true s.made)
  step false_word s = completed s.depth s.stack (B.constant false s.made)
  step not_word s = shift not_kind s
  step and_word s = shift and_kind s
  step or_word s = shift or_kind (ended s)
  step open_parenthesis s = record { depth = suc s.depth; stack = s.stack; made = s.made }
  step close_parenthesis s = leave (ended s)
  step invalid s = s

  unfoldable pub run : List Token → ParserState Left Made → ParserState Left Made
  run [] s = s
  run (t ∷ ts) s = run ts (step t s)

  -- what all tokens of a line make, after what was made before
  abbrev pub built_from : List Token → Made → Made
  built_from ts o = (ended (run ts (record { depth = 0; stack = []; made = o }))).made
