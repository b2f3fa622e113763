-- What is promised where a readable line is answered. The contract of a private function cites it; no promise of a public call does.
use Rattle.std.specs.Prelude.{ℕ, ◌+◌, ◌*◌, ◌<◌, ◌≤◌, ◌≡◌, List, ◌∷◌, ◌++◌, length, take, drop, Ok, Err}
use Rattle.action_line.specs.Parsing.{Parsed}
use Rattle.action_line.specs.declared.ParseError.TheVariants.{TooManyEntries, OutputShort}

-- so many entries, in made from byte 1 on, are at the front of the output as a body, where they are not too many and there is room
pub record BodyWritten (made : List ℕ) (n : ℕ) (out : List ℕ) (r : Parsed) (out' : List ℕ) : Type 0 where
  pub many : 32 < n → (r ≡ Err TooManyEntries) × (out' ≡ out)
  pub short : n ≤ 32 → length out < 1 + 3 * n → (r ≡ Err OutputShort) × (out' ≡ out)
  pub wrote : n ≤ 32 → 1 + 3 * n ≤ length out
      → (r ≡ Ok (1 + 3 * n)) × (out' ≡ (n ∷ drop 1 (take (1 + 3 * n) made)) ++ drop (1 + 3 * n) out)
