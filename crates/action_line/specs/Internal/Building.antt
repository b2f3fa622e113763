-- The entries as the code makes them: they are bytes of a buffer, and the operators that wait stand in an array. Contracts of private
-- functions cite these; no promise of a public call does.
use Rattle.std.specs.Prelude.{ℕ, zero, suc, ◌+◌, ◌-◌, ◌*◌, ◌≡◌, Bool, false, List, [], ◌∷◌, eqb, set, get_or}
use Rattle.sheet.specs.Bytes.{pick}
use Rattle.sheet.specs.Rule.{one_if}
use Rattle.action_line.specs.Precedence.{or_kind, and_kind, not_kind, Builder, Waiting, ParserState, reducible, reduce, completed, built_from}
use Rattle.action_line.specs.Internal.Lexemes.{tokens_held}
use Rattle.action_line.specs.declared.builder.BodyBuilder.{BodyBuilder}
use Rattle.action_line.specs.declared.builder.Operator.{Operator}
use Rattle.action_line.specs.declared.builder.Operator.TheVariants.{Or, And, Not}
use Rattle.action_line.specs.declared.builder.Pending.{Pending}

-- the entries made so far, and the output that holds them
pub record Made : Type 0 where
  pub count : ℕ
  pub bytes : List ℕ

abbrev pub made : ℕ → List ℕ → Made
made count bytes = record { count = count; bytes = bytes }

-- the bytes of entry e in an output
abbrev pub put_at : ℕ → ℕ → ℕ → ℕ → List ℕ → List ℕ
put_at e kind x y out = set (set (set out (1 + 3 * e) kind) (2 + 3 * e) x) (3 + 3 * e) y

abbrev pub put : ℕ → ℕ → ℕ → Made → Made
put kind x y o = made (o.count + 1) (put_at o.count kind x y o.bytes)

-- the bytes of an operator's entry e; its right (or only) operand is the entry before
abbrev pub operator_at : ℕ → ℕ → ℕ → List ℕ → List ℕ
operator_at e kind left out = pick (eqb kind not_kind) (put_at e kind (e - 1) 0 out) (put_at e kind left (e - 1) out)

abbrev pub entries_in_place : Builder ℕ Made
entries_in_place =
    record {
      latest = λ o. o.count - 1;
      constant = λ b. put (one_if b) 0 0;
      action = λ n. put 2 n 0;
      combine = λ kind left o. made (o.count + 1) (operator_at o.count kind left o.bytes);
    }

-- the kind of an operator's entry
abbrev pub kind_of : Operator → ℕ
kind_of Or = or_kind
kind_of And = and_kind
kind_of Not = not_kind

-- an operator that waits, as the code holds it
abbrev pub waiting_of : Pending → Waiting ℕ
waiting_of w = record { kind = kind_of w.operator; depth = w.depth; left = w.left }

-- the first n of those that wait, the last on top
unfoldable pub stack_of : List Pending → ℕ → List (Waiting ℕ)
stack_of waiting zero = []
stack_of waiting (suc n) = waiting_of (get_or waiting n (record { operator = Or; depth = 0; left = 0 })) ∷ stack_of waiting n

-- the state of the pass that the code's value holds
abbrev pub state_of : BodyBuilder → ParserState ℕ Made
state_of b = record { depth = b.depth; stack = stack_of b.waiting b.top; made = made b.count b.made }

-- nothing is made yet
pub record IsNew (b : BodyBuilder) : Type 0 where
  pub depth_none : b.depth ≡ 0
  pub none_waiting : b.top ≡ 0
  pub none_made : b.count ≡ 0

-- ---- what steps do to the state

-- the operator on top stands at the depth of the state and binds at least as tightly as the kind
abbrev pub on_top : ℕ → ℕ → List (Waiting ℕ) → Bool
on_top kind depth [] = false
on_top kind depth (w ∷ ws) = reducible kind depth w

abbrev pub top_reducible : ℕ → ParserState ℕ Made → Bool
top_reducible kind s = on_top kind s.depth s.stack

abbrev pub reduced : ℕ → ParserState ℕ Made → ParserState ℕ Made
reduced kind s = reduce entries_in_place kind s.depth s.stack s.made

-- with one more entry
abbrev pub with_entry : ℕ → ℕ → ℕ → ParserState ℕ Made → ParserState ℕ Made
with_entry kind x y s = record { depth = s.depth; stack = s.stack; made = put kind x y s.made }

-- with an operator's entry
abbrev pub combined : ℕ → ℕ → ParserState ℕ Made → ParserState ℕ Made
combined kind left s = record { depth = s.depth; stack = s.stack; made = entries_in_place.combine kind left s.made }

-- with an operand's entry, which is complete
abbrev pub with_operand : ℕ → ℕ → ParserState ℕ Made → ParserState ℕ Made
with_operand kind x s = completed entries_in_place s.depth s.stack (put kind x 0 s.made)

-- what the tokens of the line make in an output
abbrev pub built_in : List ℕ → List ℕ → Made
built_in line out = built_from entries_in_place (tokens_held line) (made 0 out)

-- the count and the entries
abbrev pub built_body : Made → List ℕ
built_body o = set o.bytes 0 o.count
