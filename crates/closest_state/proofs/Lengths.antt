-- How long the lines of a text are.
use Prim.Native.Nat.{ℕ, ◌*◌, ◌≤◌}
use mathlib.Core.List.{List, [], ◌∷◌}
use native.Mathlib.Omega.{arith}
use lib.ListN.{length, length-append}
use Rattle.text.proofs.Decimal.{decimal_length}
use Rattle.sheet.specs.TransitionSystem.{LabelledTransition}
use Rattle.closest_state.specs.Text.{fails_line, holds_line, transition_line, way_lines, first_length, line_length}

pub fails_length : (state steps visits : ℕ) → length (fails_line state steps visits) ≤ first_length
unfolding fails_line
fails_length state steps visits = simp length-append (omega (arith, decimal_length state, decimal_length steps, decimal_length visits))

pub holds_length : (visits : ℕ) → length (holds_line visits) ≤ first_length
unfolding holds_line
holds_length visits = simp length-append (omega (arith, decimal_length visits))

transition_length : (from action to : ℕ) → length (transition_line from action to) ≤ line_length
unfolding transition_line
transition_length from action to = simp length-append (omega (arith, decimal_length from, decimal_length action, decimal_length to))

pub lines_length : (l : List LabelledTransition) → length (way_lines l) ≤ line_length * length l
unfolding way_lines
lines_length [] = omega arith
lines_length (x ∷ l) =
    let line = transition_line x.origin x.action x.target in
    omega (arith, length-append line (way_lines l), transition_length x.origin x.action x.target, lines_length l)
