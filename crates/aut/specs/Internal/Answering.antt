-- What the call finds out of a text before it writes, and what it writes. Contracts of private functions cite these; no promise of a public
-- call does.
use Rattle.std.specs.Prelude.{ℕ, ◌+◌, ◌*◌, ◌<◌, ◌≤◌, ◌≡◌, Bool, not, ◌&&◌, List, ◌∷◌, ◌++◌, eqb, leb, length, drop, min, Result, Ok, Err}
use Rattle.sheet.specs.Bytes.{pick}
use Rattle.sheet.specs.Writing.{two_bytes}
use Rattle.text.specs.Numerals.{decimal_value}
use Rattle.aut.specs.Converting.{Converted}
use Rattle.aut.specs.Internal.Keys.{key_bytes}
use Rattle.aut.specs.Internal.Passing.{within}
use Rattle.aut.specs.declared.lines.Heading.{Heading}
use Rattle.aut.specs.declared.pass.Gathered.{Gathered}
use Rattle.aut.specs.declared.pass.Pass.{Pass}
use Rattle.aut.specs.declared.ConvertError.{ConvertError}
use Rattle.aut.specs.declared.ConvertError.TheVariants.{Malformed, StateOutOfRange, OverLimits, OutputShort}

-- three tests, in their order
abbrev pub checked_by : Bool → Bool → Bool → Result (Unit {0}) ConvertError
checked_by right in_range few = pick right (pick in_range (pick few (Ok tt) (Err OverLimits)) (Err StateOutOfRange)) (Err Malformed)

-- of the parts of a text, with the stated number of states, or 129 where it is greater
abbrev pub checked_of : Heading → ℕ → Pass → Gathered → Result (Unit {0}) ConvertError
checked_of first states pass g =
    checked_by
    (eqb (min (decimal_value first.first.now) 1) 0
    && eqb (min (decimal_value first.transitions.now) (pass.lines + 1)) pass.lines)
    (not (eqb states 0) && pass.below)
    (leb states 128 && within g)

-- a body of so many states and labels, and of keys
abbrev pub held_body : ℕ → ℕ → List ℕ → List ℕ
held_body states labels ks = states ∷ labels ∷ two_bytes (length ks) (key_bytes ks)

-- the body is at the front of the output, where there is room
pub record BodyWritten (states labels : ℕ) (ks out : List ℕ) (r : Converted) (out' : List ℕ) : Type 0 where
  pub short : length out < 4 + 3 * length ks → (r ≡ Err OutputShort) × (out' ≡ out)
  pub wrote : 4 + 3 * length ks ≤ length out
      → (r ≡ Ok (4 + 3 * length ks)) × (out' ≡ held_body states labels ks ++ drop (4 + 3 * length ks) out)
