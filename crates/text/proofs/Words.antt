-- How long the words are.
use Prim.Native.Nat.{◌≤◌}
use mathlib.Core.Bool.{Bool, true, false}
use native.Mathlib.Omega.{arith}
use lib.ListN.{length}
use Rattle.text.specs.Words.{bool_text}

pub word_length : (b : Bool) → length (bool_text b) ≤ 5
word_length true = omega arith
word_length false = omega arith
