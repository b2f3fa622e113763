-- "A state number and a node number are both small, and one never stands for the other in any call": states, nodes, actions and variables
-- have a type each. The fields of a transition, an action entry and a node, as the values that calls hand over. Past the end of a body
-- every byte is 0.
use Rattle.std.specs.Prelude.{ℕ, ◌+◌, ◌*◌, List}
use Rattle.sheet.specs.Plan.{origin, label, target}
use Rattle.sheet.specs.Bytes.{byte}
use Rattle.sheet.specs.declared.Transition.{Transition}
use Rattle.sheet.specs.declared.Fields.{Fields}

-- "transitions of three bytes: from, action, to"
abbrev pub transition_at : List ℕ → ℕ → Transition
transition_at p i = record { from = record { 0 = origin p i }; action = record { 0 = label p i }; to = record { 0 = target p i } }

-- "entries of kind, x, y" and "nodes of kind, x, y": both bodies begin with their count
abbrev pub fields_at : List ℕ → ℕ → Fields
fields_at body i = record { kind = byte body (1 + 3 * i); x = byte body (2 + 3 * i); y = byte body (3 + 3 * i) }
